-- What a `for` keeps while its body runs.
use Rattle.std.proofs.Common.{◌≡◌, ℤ, ◌+ℤ◌, ◌-ℤ◌, ◌*ℤ◌, neg_ℤ, ◌≤ℤ◌, List, [], ◌∷◌, ◌++◌, false, Option, Some, None, refl, sym, ◌∙◌, subst, bytes_eq}
use Rattle.ac_tree.specs.declared.program.ExprKind.{ExprKind}
use Rattle.ac_tree.specs.declared.program.ExprKind.TheVariants.{Num, Get, Read}
use Rattle.ac_tree.specs.declared.program.Index.{Index}
use Rattle.ac_tree.specs.declared.program.Program.{Program}
use Rattle.ac_tree.specs.Patterns.{Negative, Plus, Minus, Times, OneIndex, TwoIndexes}
use Rattle.ac_run.specs.declared.event.Cell.{Cell}
use Rattle.ac_run.specs.declared.start.Start.{Start}
use Rattle.ac_run.specs.Declarations.{NameBytes, constant_of}
use Rattle.ac_run.specs.Memory.{Memory, write}
use Rattle.ac_logic.specs.declared.formula.Formula.{Formula}
use Rattle.ac_logic.specs.declared.formula.Sym.TheVariants.{Value}
use Rattle.ac_logic.specs.Meaning.{Valuation, Holds, value}
use Rattle.ac_logic.specs.Patterns.{Scalar}
use Rattle.ac_policy.specs.ExtentValues.{literal_value}
use Rattle.ac_policy.specs.Laws.{HoldsIf}
use Rattle.ac_policy.specs.State.{Shadow, state, element}
use Rattle.ac_policy.specs.Terms.{term_of, first_index, second_index, constant_term_or}
use Rattle.ac_conditions.specs.Hypotheses.{in_body}
use Rattle.ac_conditions.specs.Part.{Part}
use Rattle.ac_soundness.proofs.PathsHold.{and_holds, hypotheses-append}
use Rattle.ac_soundness.proofs.Writes.{scalar_other, element_other}
use Rattle.ac_soundness.specs.Frames.{Frame, Statement, WhileAgain, EndOf, ForTest, ForTurn, Loop, NoTest, RankedFrames}
use Rattle.ac_soundness.specs.Opened.{hidden, expr_shape, expr_child, term_shape, term_child, array_shape, array_child, formula_shape, formula_child}
use Rattle.ac_soundness.specs.Ranked.{NotIn, read_names, index_names, ends_names}
use Rattle.ac_soundness.specs.RunInvariant.{ForKeeps, LoopFacts}
use Rattle.ac_soundness.specs.Validity.{AllHold}

pub not_in-append : (z : NameBytes) (xs ys : List NameBytes) → NotIn z (xs ++ ys) → NotIn z xs × NotIn z ys
not_in-append z [] ys h = (tt, h)
not_in-append z (x ∷ xs) ys h = let k = not_in-append z xs ys h.1 in ((h.0, k.0), k.1)

-- a term has its value after a write to another name
module _ (p : Program) (start : Start) (m : Memory) (c : Cell) (n : ℤ) (r s : Shadow) where
  get_stable : (x : NameBytes) (o : Option ℤ) → bytes_eq c.name x ≡ false → value (state p start (write p start m c n) r) [] (constant_term_or o (Scalar (Value x))) ≡ value (state p start m s) [] (constant_term_or o (Scalar (Value x)))
  unfolding term_shape term_child hidden
  get_stable x (Some k) h = refl
  get_stable x None h = scalar_other p start m c x n h

  mutual
    unfolding hidden expr_shape expr_child term_shape term_child array_shape array_child

    pub term_stable : (e : ExprKind) → NotIn c.name (read_names e) → value (state p start (write p start m c n) r) [] (term_of p e) ≡ value (state p start m s) [] (term_of p e)
    term_stable (Num k) h = literal_value (state p start (write p start m c n) r) [] k ∙ sym (literal_value (state p start m s) [] k)
    term_stable (Get x) h = get_stable x (constant_of p x) h.0
    term_stable (Read x at) h =
        let tab : element p start (write p start m c n) x ≡ element p start m x = λ d i j. element_other p start m c x i j n h.0 d in
        λ k. tab k (first_stable at h.1 k) (second_stable at h.1 k)
    term_stable (Negative k a) h = λ d. neg_ℤ (term_stable a h d)
    term_stable (Plus k a l b) h = let g = not_in-append c.name (read_names a) (read_names b) h in λ d. term_stable a g.0 d +ℤ term_stable b g.1 d
    term_stable (Minus k a l b) h = let g = not_in-append c.name (read_names a) (read_names b) h in λ d. term_stable a g.0 d -ℤ term_stable b g.1 d
    term_stable (Times k a l b) h = let g = not_in-append c.name (read_names a) (read_names b) h in λ d. term_stable a g.0 d *ℤ term_stable b g.1 d

    first_stable : (at : Index) → NotIn c.name (index_names at) → value (state p start (write p start m c n) r) [] (first_index p at) ≡ value (state p start m s) [] (first_index p at)
    first_stable (OneIndex k a) h = term_stable a h
    first_stable (TwoIndexes k a l b) h = term_stable a (not_in-append c.name (read_names a) (read_names b) h).0

    second_stable : (at : Index) → NotIn c.name (index_names at) → value (state p start (write p start m c n) r) [] (second_index p at) ≡ value (state p start m s) [] (second_index p at)
    second_stable (OneIndex k a) h = refl
    second_stable (TwoIndexes k a l b) h = term_stable b (not_in-append c.name (read_names a) (read_names b) h).1

module _ (p : Program) (start : Start) (part : Part) (base : List Formula) where
  pub body_holds : (w : Valuation) (l : Loop) (v : ℤ) → ForKeeps p part w l v → w.number (Value l.name) ≤ℤ v → Holds w (in_body p part l.node l.name l.lo l.hi)
  unfolding hidden expr_shape expr_child term_shape term_child array_shape array_child formula_shape formula_child
  body_holds w l v c h = and_holds w _ (part.known l.name) (c.1, subst (λ (z : ℤ). w.number (Value l.name) ≤ℤ z) (sym c.0) h) c.2

  pub always : (w : Valuation) (hs : List Formula) (fs : List Frame) → LoopFacts p part base hs w fs → AllHold w base → AllHold w hs
  unfolding hidden expr_shape expr_child term_shape term_child array_shape array_child formula_shape formula_child
  always w hs [] f b = subst (λ (gs : List Formula). AllHold w gs) (sym f) b
  always w hs (Statement st ∷ fs) f b = always w hs fs f b
  always w hs (WhileAgain st ∷ fs) f b = always w hs fs f b
  always w hs (EndOf n ∷ fs) f b = always w hs fs f b
  always w hs (ForTest l v ∷ fs) f b = always w hs fs f.2 b
  always w hs (ForTurn l v gs ms ∷ fs) f b =
      subst (λ (js : List Formula). AllHold w js) (sym f.0)
      (hypotheses-append w gs (in_body p part l.node l.name l.lo l.hi ∷ []) (always w gs fs f.3 b) (body_holds w l v f.1 f.2, tt))

  module _ (m : Memory) (c : Cell) (n : ℤ) (s r : Shadow)
      (later : (x : NameBytes) → HoldsIf (state p start m s) (part.known x) → HoldsIf (state p start (write p start m c n) r) (part.known x)) where
    pub number_kept : (x : NameBytes) → bytes_eq c.name x ≡ false → (state p start (write p start m c n) r).number (Value x) ≡ (state p start m s).number (Value x)
    number_kept x h = scalar_other p start m c x n h

    pub common_kept : (l : Loop) (v : ℤ) → bytes_eq c.name l.name ≡ false → NotIn c.name (ends_names l.lo l.hi) →
        ForKeeps p part (state p start m s) l v → ForKeeps p part (state p start (write p start m c n) r) l v
    unfolding hidden expr_shape expr_child term_shape term_child array_shape array_child formula_shape formula_child
    common_kept l v e h f =
        let g = not_in-append c.name (read_names l.lo.kind) (read_names l.hi.kind) h in (
          term_stable p start m c n r s l.hi.kind g.1 ∙ f.0,
          subst (λ (T : Type 0). T) (λ d. sym (term_stable p start m c n r s l.lo.kind g.0) d ≤ℤ sym (number_kept l.name e) d) f.1,
          later l.name f.2,
        )

    pub facts_kept : (hs : List Formula) (ns : List NameBytes) (fs : List Frame) → NoTest fs → RankedFrames p start ns fs → NotIn c.name ns →
        LoopFacts p part base hs (state p start m s) fs → LoopFacts p part base hs (state p start (write p start m c n) r) fs
    unfolding hidden expr_shape expr_child term_shape term_child array_shape array_child formula_shape formula_child
    facts_kept hs ns [] t k z f = f
    facts_kept hs ns (Statement st ∷ fs) t k z f = facts_kept hs ns fs t k.1 z f
    facts_kept hs ns (WhileAgain st ∷ fs) t k z f = facts_kept hs ns fs t k.2 z f
    facts_kept hs ns (EndOf j ∷ fs) t k z f = facts_kept hs ns fs t k z f
    facts_kept hs ns (ForTest l v ∷ fs) t k z f = absurd t
    facts_kept hs ns (ForTurn l v gs ms ∷ fs) t k z f =
        let y : NotIn c.name (l.name ∷ (ends_names l.lo l.hi ++ ms)) = subst (λ (xs : List NameBytes). NotIn c.name xs) k.0 z in
        let g = not_in-append c.name (ends_names l.lo l.hi) ms y.1 in
        (f.0, common_kept l v y.0 g.0 f.1, subst (λ (a : ℤ). a ≤ℤ v) (sym (number_kept l.name y.0)) f.2, facts_kept gs ms fs t k.2 g.1 f.3)
