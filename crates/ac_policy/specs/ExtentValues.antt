-- The term of an extent has the number of the extent, in every state of a run.
-- It serves the proofs of the laws: no promise rests on it.
use Rattle.std.proofs.Common.{◌≡◌, ℕ, ◌+◌, ◌^◌, ◌/◌, ◌%◌, nat_lt, if◌then◌else◌, ℤ, pos, negsuc, nat_abs, ◌≤ℤ◌, List, Bool, true, false, Option, Some, None, refl, ◌∙◌, ap, arith, get_or}
use Rattle.std.proofs.lemmas.Int.{ints}
use Rattle.std.proofs.Math.Nat.{div-add-mod}
use Rattle.ac_tree.specs.declared.program.Program.{Program}
use Rattle.ac_tree.specs.declared.program.ItemKind.{ItemKind}
use Rattle.ac_tree.specs.declared.program.ItemKind.TheVariants.{Const, InputScalar, InputArray, VarScalar, VarArray}
use Rattle.ac_tree.specs.declared.program.Extents.TheVariants.{One, Two}
use Rattle.ac_tree.specs.declared.program.Extent.{Extent}
use Rattle.ac_tree.specs.declared.program.Extent.TheVariants.{Lit, Named}
use Rattle.ac_run.specs.declared.start.Start.{Start}
use Rattle.ac_run.specs.Declarations.{NameBytes, Shape, Scalar, Vector, Matrix, is_input_kind, kind_of, constant_in, shape, shape_in, extent, named_extent, numbers_in}
use Rattle.ac_run.specs.Memory.{Memory, place_in}
use Rattle.ac_logic.specs.declared.formula.Sym.TheVariants.{Value}
use Rattle.ac_logic.specs.declared.formula.Term.{Num}
use Rattle.ac_logic.specs.Patterns.{Sum}
use Rattle.ac_logic.specs.Patterns.{Scalar as ScalarOf}
use Rattle.ac_logic.specs.Meaning.{Valuation, value}
use Rattle.ac_policy.specs.State.{Shadow, Kept, state, scalar_or}
use Rattle.ac_policy.specs.declared.extents.ExtentTerms.{ExtentTerms}
use Rattle.ac_policy.specs.declared.extents.ExtentTerms.TheVariants.{NoExtent, OneExtent, TwoExtents}
use Rattle.ac_policy.specs.Terms.{constant_term_or, literal_term}
use Rattle.ac_policy.specs.Extents.{extent_term, extent_terms_in}
use Rattle.ac_policy.specs.GoodExtents.{IsGoodSize, IsGoodExtent, HasGoodKind}
use Rattle.ac_policy.specs.Opened.{hidden, term_shape, term_child}

not_below : (n : ℤ) → pos 0 ≤ℤ n → n ≡ pos (nat_abs n)
not_below (pos n) h = refl
not_below (negsuc n) h = absurd (omega (arith, ints, h))

halves : (n : ℕ) → n / 2 + n / 2 + n % 2 ≡ n
halves n = let h = div-add-mod n 2 in omega (arith, h)

-- a literal of any size has its number
pub literal_value : (w : Valuation) (e : List ℤ) (n : ℕ) → value w e (literal_term n) ≡ pos n
unfolding hidden term_shape term_child
literal_value w e n = by (nat_lt n (2 ^ 63))
  where
    by : (fits : Bool) → value w e (if fits then Num (pos n) else Sum (Sum (Num (pos (n / 2))) (Num (pos (n / 2)))) (Num (pos (n % 2)))) ≡ pos n
    by true = refl
    by false = ap pos (halves n)

module _ (p : Program) (start : Start) (m : Memory) (s : Shadow) (kept : Kept p start m) where
  named_is : (x : NameBytes) (k : Option ItemKind) → kind_of p x ≡ k → IsGoodSize k (numbers_in start.cells x) → (e : List ℤ) →
      value (state p start m s) e (constant_term_or (constant_in k) (ScalarOf (Value x))) ≡ pos (named_extent p (constant_in k) (numbers_in start.cells x))
  unfolding hidden term_shape term_child
  named_is x (Some (Const v)) q h e = not_below v h
  named_is x (Some (InputScalar lo hi)) q h e =
      let single : shape p start x ≡ Scalar = ap (shape_in p start) q in
      let same : numbers_in m x ≡ numbers_in start.cells x = kept.inputs x (ap is_input_kind q) in
      (λ t. scalar_or (single t) (get_or (same t) (place_in (single t) 0 0) (pos 0))) ∙ not_below (get_or (numbers_in start.cells x) 0 (pos 0)) h
  named_is x None q h e = absurd h
  named_is x (Some (InputArray es lo hi)) q h e = absurd h
  named_is x (Some VarScalar) q h e = absurd h
  named_is x (Some (VarArray es)) q h e = absurd h

  pub extent_is : (e : Extent) → IsGoodExtent p start e → (env : List ℤ) → value (state p start m s) env (extent_term p e) ≡ pos (extent p start e)
  unfolding hidden term_shape term_child
  extent_is (Lit n) h env = literal_value (state p start m s) env n
  extent_is (Named x) h env = named_is x (kind_of p x) refl h env

  -- the terms have the numbers of a shape
  abbrev pub ExtentsAre : ExtentTerms → Shape → Type 0
  ExtentsAre NoExtent Scalar = Unit {0}
  ExtentsAre (OneExtent t) (Vector n) = (e : List ℤ) → value (state p start m s) e t ≡ pos n
  ExtentsAre (TwoExtents t u) (Matrix n k) = ((e : List ℤ) → value (state p start m s) e t ≡ pos n) × ((e : List ℤ) → value (state p start m s) e u ≡ pos k)
  ExtentsAre _ _ = ⊥

  pub extents_are : (k : Option ItemKind) → HasGoodKind p start k → ExtentsAre (extent_terms_in p k) (shape_in p start k)
  unfolding hidden term_shape term_child
  extents_are None h = tt
  extents_are (Some (Const v)) h = tt
  extents_are (Some (InputScalar lo hi)) h = tt
  extents_are (Some VarScalar) h = tt
  extents_are (Some (InputArray (One e) lo hi)) h = extent_is e h
  extents_are (Some (InputArray (Two e f) lo hi)) h = (extent_is e h.0, extent_is f h.1)
  extents_are (Some (VarArray (One e))) h = extent_is e h
  extents_are (Some (VarArray (Two e f))) h = (extent_is e h.0, extent_is f h.1)
