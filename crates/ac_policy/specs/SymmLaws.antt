-- The laws of symm.
-- It serves the proofs of the laws: no promise rests on it.
use Rattle.std.proofs.Common.{◌≡◌, ℕ, zero, suc, ◌+◌, ◌*◌, ◌<◌, ℤ, pos, nat_abs, ◌+ℤ◌, ◌≤ℤ◌, List, [], ◌∷◌, Bool, true, false, ◌&&◌, ◌||◌, Option, Some, None, refl, sym, ◌∙◌, ap, subst, if◌then◌else◌, bytes_eq, Contains, length, arith, inl, inr, slice_get, get_or}
use Rattle.std.proofs.lemmas.Int.{ints}
use Rattle.std.proofs.lemmas.Option.{slice_get-get_or}
use Rattle.std.proofs.lemmas.Slice.Eq.{bytes_eq-Decides}
use Rattle.ac_tree.specs.declared.program.Program.{Program}
use Rattle.ac_tree.specs.declared.program.ItemKind.{ItemKind}
use Rattle.ac_tree.specs.declared.program.ItemKind.TheVariants.{Const, InputScalar, InputArray, VarScalar, VarArray}
use Rattle.ac_tree.specs.declared.policy.PolicyName.TheVariants as policy
use Rattle.ac_run.specs.declared.start.Start.{Start}
use Rattle.ac_run.specs.declared.event.Event.{Event}
use Rattle.ac_run.specs.Declarations.{NameBytes, Shape, Scalar, Vector, Matrix, numbers_in, kind_of, constant_in, shape, shape_in}
use Rattle.ac_run.specs.Start.{count}
use Rattle.ac_run.specs.Memory.{Memory, is_within, is_below, contents, constant_or, place_in}
use Rattle.ac_run.specs.Violation.{Bad, IsAsymmetric}
use Rattle.ac_logic.specs.Meaning.{Valuation, Holds}
use Rattle.ac_policy.specs.declared.site.Site.{Site}
use Rattle.ac_policy.specs.declared.site.SiteKind.{SiteKind}
use Rattle.ac_policy.specs.declared.site.SiteKind.TheVariants as kind
use Rattle.ac_policy.specs.State.{IsArray, Kept, state, element, element_or}
use Rattle.ac_policy.specs.Laws.{LawForm, LawFor, LawNeed, IsPlainIf, EventOf, HoldsIf, cell_of}
use Rattle.ac_policy.specs.declared.extents.ExtentTerms.{ExtentTerms}
use Rattle.ac_policy.specs.declared.extents.ExtentTerms.TheVariants.{NoExtent, OneExtent, TwoExtents}
use Rattle.ac_policy.specs.Extents.{extent_terms}
use Rattle.ac_policy.specs.GoodExtents.{HasSizes}
use Rattle.ac_policy.specs.ExtentValues.{ExtentsAre, extents_are}
use Rattle.ac_policy.specs.Symm.{is_listed, symmetric_formula, when, symm_need_by_kind, symm_need}
use Rattle.ac_policy.specs.WithoutShadow.{no_shadow, no_effect, nothing_known}
use Rattle.ac_policy.specs.BoundsLaws.{below}
use Rattle.ac_policy.specs.PlainLaws.{extents_ground, symmetric_plain}
use Rattle.ac_policy.specs.Opened.{hidden, term_shape, term_child, array_shape, array_child, formula_shape, formula_child}

pub form : (roles : List NameBytes) (p : Program) → LawForm (symm_need roles p) (no_effect p) nothing_known
form roles p = record { changes = λ s h. tt; different = λ s. tt; needs = λ s h. by s s.kind; knows = λ x. tt }
  where
    listed_plain : (s : Site) (b : Bool) → IsPlainIf (when b (symmetric_formula (extent_terms p s.name) s.name))
    listed_plain s true = symmetric_plain (extent_terms p s.name) s.name (extents_ground p (kind_of p s.name))
    listed_plain s false = tt

    by : (s : Site) (k : SiteKind) → IsPlainIf (symm_need_by_kind roles k p s)
    by s kind.Read = tt
    by s kind.Write = tt
    by s (kind.Hand role) = listed_plain s (is_listed roles role)

or_true : (a b : Bool) → b ≡ true → (a || b) ≡ true
or_true true b e = refl
or_true false b e = e

listed : (roles : List NameBytes) (role : NameBytes) → Contains roles role → is_listed roles role ≡ true
listed [] role (k, lt, e) = absurd (omega (arith, lt))
listed (r ∷ roles) role (zero, lt, e) = (λ t. bytes_eq (e t) role || is_listed roles role) ∙ ap (λ b. b || is_listed roles role) ((bytes_eq-Decides role role).1 refl)
listed (r ∷ roles) role (suc k, lt, e) = or_true (bytes_eq r role) (is_listed roles role) (listed roles role (k, omega (arith, lt), e))

pos_same : (n k : ℕ) → pos n ≡ pos k → n ≡ k
pos_same n k e = ap nat_abs e

-- an array is no constant
plain_contents : (p : Program) (start : Start) (m : Memory) (x : NameBytes) → IsArray (shape p start x) → contents p start m x ≡ numbers_in m x
plain_contents p start m x h = by (kind_of p x) h
  where
    by : (k : Option ItemKind) → IsArray (shape_in p start k) → constant_or p start (constant_in k) (numbers_in m x) ≡ numbers_in m x
    by None h = absurd h
    by (Some (Const v)) h = absurd h
    by (Some (InputScalar lo hi)) h = absurd h
    by (Some VarScalar) h = absurd h
    by (Some (InputArray es lo hi)) h = refl
    by (Some (VarArray es)) h = refl

first_index : (i : ℕ) → pos 0 ≤ℤ pos i
first_index i = omega (arith, ints)

last_index : (i n : ℕ) → i < n → (pos i +ℤ pos 1) ≤ℤ pos n
last_index i n h = omega (arith, ints)

nat_below : (i n : ℕ) → i < n → is_below (pos i) n ≡ true
nat_below i n h = below (pos i) n (first_index i) (last_index i n h)

row_place : (i j n : ℕ) → i < n → j < n → i * n + j < n * n
row_place i j n h k = grind (arith, h, k)

module _ (p : Program) (start : Start) (m : Memory) (kept : Kept p start m) where
  abbrev w : Valuation
  w = state p start m (no_shadow [])

  -- an entry of a square matrix
  entry : (x : NameBytes) (n : ℕ) → shape p start x ≡ Matrix n n → (i j : ℕ) → i < n → j < n → element p start m x (pos i) (pos j) ≡ get_or (numbers_in m x) (i * n + j) (pos 0)
  entry x n e i j h k =
      (λ t. element_or (e t) (if is_within (e t) (pos i) (pos j) then get_or (numbers_in m x) (place_in (e t) i j) (pos 0) else pos 0))
      ∙ (λ t. if (nat_below i n h t && nat_below j n k t) then get_or (numbers_in m x) (i * n + j) (pos 0) else pos 0)

  mirrored : (x : NameBytes) (n : ℕ) → shape p start x ≡ Matrix n n → length (numbers_in m x) ≡ n * n → (i j : ℕ) → i < n → j < n →
      element p start m x (pos i) (pos j) ≡ element p start m x (pos j) (pos i) → slice_get (numbers_in m x) (i * n + j) ≡ slice_get (numbers_in m x) (j * n + i)
  mirrored x n e len i j h k q =
      let a : i * n + j < length (numbers_in m x) = subst (λ (z : ℕ). i * n + j < z) (sym len) (row_place i j n h k) in
      let b : j * n + i < length (numbers_in m x) = subst (λ (z : ℕ). j * n + i < z) (sym len) (row_place j i n k h) in
      slice_get-get_or (numbers_in m x) (i * n + j) (pos 0) a
      ∙ ap Some (sym (entry x n e i j h k) ∙ q ∙ entry x n e j i k h)
      ∙ sym (slice_get-get_or (numbers_in m x) (j * n + i) (pos 0) b)

  square : (x : NameBytes) (n k : ℕ) → n ≡ k → shape p start x ≡ Matrix n k → shape p start x ≡ Matrix n n
  square x n k q e = e ∙ ap (Matrix n) (sym q)

  symmetric : (x : NameBytes) (z : ExtentTerms) (k : Shape) → shape p start x ≡ k → ExtentsAre p start m (no_shadow []) kept z k → length (numbers_in m x) ≡ count (shape p start x) → Holds w (symmetric_formula z x) → ¬ IsAsymmetric k (numbers_in m x)
  unfolding hidden term_shape term_child array_shape array_child formula_shape formula_child
  symmetric x NoExtent k e q len h bad = h
  symmetric x (OneExtent t) k e q len h bad = h
  symmetric x (TwoExtents t r) Scalar e q len h bad = q
  symmetric x (TwoExtents t r) (Vector n) e q len h bad = q
  symmetric x (TwoExtents t r) (Matrix n k) e q len h (inl differ) = differ (pos_same n k (sym (q.0 []) ∙ h.0 ∙ q.1 []))
  symmetric x (TwoExtents t r) (Matrix n k) e q len h (inr (i, j, li, lj, differ)) =
      let same = pos_same n k (sym (q.0 []) ∙ h.0 ∙ q.1 []) in
      let lk : j < k = subst (λ (z : ℕ). j < z) same lj in
      let sq = square x n k same e in
      let two = h.1 (pos i) (pos j) (
        (first_index i, subst (λ (z : ℤ). (pos i +ℤ pos 1) ≤ℤ z) (sym (q.0 (pos j ∷ pos i ∷ []))) (last_index i n li)),
        (first_index j, subst (λ (z : ℤ). (pos j +ℤ pos 1) ≤ℤ z) (sym (q.1 (pos j ∷ pos i ∷ []))) (last_index j k lk)),
      ) in
      differ (mirrored x n sq (len ∙ ap count sq) i j li lj two)

  no_array : (x : NameBytes) (z : ExtentTerms) (k : Shape) → ExtentsAre p start m (no_shadow []) kept z k → Holds w (symmetric_formula z x) → IsArray k
  unfolding hidden term_shape term_child array_shape array_child formula_shape formula_child
  no_array x NoExtent k q h = absurd h
  no_array x (OneExtent t) k q h = absurd h
  no_array x (TwoExtents t r) Scalar q h = absurd q
  no_array x (TwoExtents t r) (Vector n) q h = absurd q
  no_array x (TwoExtents t r) (Matrix n k) q h = tt

  handed : (good : HasSizes p start) (roles : List NameBytes) (x role : NameBytes) → HoldsIf w (when (is_listed roles role) (symmetric_formula (extent_terms p x) x)) → Contains roles role → ¬ IsAsymmetric (shape p start x) (contents p start m x)
  handed good roles x role h c bad =
      let f : Holds w (symmetric_formula (extent_terms p x) x) = subst (λ (b : Bool). HoldsIf w (when b (symmetric_formula (extent_terms p x) x))) (listed roles role c) h in
      let q = extents_are p start m (no_shadow []) kept (kind_of p x) (good.extents x) in
      let a = no_array x (extent_terms p x) (shape p start x) q f in
      symmetric x (extent_terms p x) (shape p start x) refl q (kept.sizes x ∙ good.all_cells x a) f (subst (λ (ns : List ℤ). IsAsymmetric (shape p start x) ns) (plain_contents p start m x a) bad)

  needs_by : (good : HasSizes p start) (roles : List NameBytes) (at : Site) (k : SiteKind) (trace : List Event) (e : Event) → HoldsIf w (symm_need_by_kind roles k p at) →
      EventOf p start k (cell_of w at) at.name m e → ¬ Bad p start roles policy.Symm trace e
  unfolding hidden term_shape term_child array_shape array_child formula_shape formula_child
  needs_by good roles at kind.Read trace e h ev bad = subst (λ (z : Event). Bad p start roles policy.Symm trace z) ev bad
  needs_by good roles at kind.Write trace e h ev bad = subst (λ (z : Event). Bad p start roles policy.Symm trace z) ev.1 bad
  needs_by good roles at (kind.Hand role) trace e h ev bad =
      let b = subst (λ (z : Event). Bad p start roles policy.Symm trace z) ev bad in
      handed good roles at.name role h b.0 b.1

pub needs : (p : Program) (start : Start) (roles : List NameBytes) → HasSizes p start → LawNeed p start no_shadow (Bad p start roles policy.Symm) (symm_need roles p)
unfolding hidden term_shape term_child array_shape array_child formula_shape formula_child
needs p start roles good m trace s e kept proper h at = needs_by p start m kept good roles s s.kind trace e h at

pub for_write : (p : Program) (start : Start) (roles : List NameBytes) → LawFor p start (Bad p start roles policy.Symm)
for_write p start roles trace x n h bad = bad
