-- Each rule keeps truth, and so does a checked proof.
use Rattle.std.proofs.Common.{◌≡◌, ℕ, zero, suc, ℤ, ◌≤ℤ◌, List, [], ◌∷◌, ◌++◌, All, Some, slice_get, refl, sym, ◌∙◌, subst, ⊎_elim, arith, nat_eq, true, if◌then◌else◌}
use Rattle.std.proofs.lemmas.Bool.Decides.{nat_tests}
use lib.Signed.{≤ℤ_refl}
use Rattle.ac_logic.specs.declared.label.Label.{Label}
use Rattle.ac_logic.specs.declared.formula.Change.{Change}
use Rattle.ac_logic.specs.declared.formula.Change.TheVariants as change
use Rattle.ac_logic.specs.declared.formula.Sym.TheVariants.{Fresh}
use Rattle.ac_logic.specs.declared.formula.Term.{Term, Num}
use Rattle.ac_logic.specs.declared.formula.Term.TheVariants.{Read}
use Rattle.ac_logic.specs.declared.formula.ArrayTerm.{ArrayTerm}
use Rattle.ac_logic.specs.declared.formula.Formula.{Formula, False, Le, Eq}
use Rattle.ac_logic.specs.declared.formula.Formula.TheVariants.{Not, And, Or, Implies, All as ForAll, Lab}
use Rattle.ac_logic.specs.Patterns.{Scalar}
use Rattle.ac_logic.specs.Meaning.{Valuation, value, table_of, HoldsIn, Holds}
use Rattle.ac_logic.specs.Bounds.{IsTermClosed}
use Rattle.ac_logic.specs.Substitution.{changed}
use Rattle.ac_logic.specs.Opening.{opened}
use Rattle.ac_logic.specs.Absence.{IsAbsent, AreAbsent}
use Rattle.ac_logic.proofs.Stable.{stable}
use Rattle.ac_logic.proofs.Openings.{holds_at}
use Rattle.ac_logic.proofs.Changes.{holds_absent}
use Rattle.ac_proof.specs.declared.rule.Rule.{Rule}
use Rattle.ac_proof.specs.declared.rule.Rule.TheVariants.{Hyp, TrueIntro, FalseElim, AndIntro, AndLeft, AndRight, OrLeft, OrRight, OrElim, ImpliesIntro, ImpliesElim, NotIntro, NotElim, Classical, AllIntro, AllElim, LabIntro, LabElim, Linear, EqLe, LeTotal, EqSplit, ReadPut, ReadSame}
use Rattle.ac_proof.specs.Opened.{hidden, formula_shape, formula_child, term_shape, term_child, array_shape, array_child}
use Rattle.ac_proof.specs.New.{IsNew}
use Rattle.ac_proof.specs.Rules.{IsInstance, contexts, in_order, equal_or_apart, cell_of_put}
use Rattle.ac_proof.specs.declared.tree.ProofTree.{ProofTree, ProofTree', Row_of-ProofTree, end_of-ProofTree, more_of-ProofTree}
use Rattle.ac_proof.specs.Checked.{goal_of, goals, under, later, Checked, EachChecked}
use Rattle.ac_proof.specs.Linear.{IsLinear, next}
use Rattle.ac_proof.specs.Soundness.{HoldAll, Follows}
use Rattle.ac_proof.proofs.Numbers as numbers
use Rattle.ac_proof.proofs.Combinations.{no_contradiction}

-- Lists of hypotheses.

plus : (w : Valuation) (hs fs : List Formula) → HoldAll w hs → HoldAll w fs → HoldAll w (hs ++ fs)
plus w [] fs h k = k
plus w (x ∷ hs) fs h k = (h.0, plus w hs fs h.1 k)

nth : (w : Valuation) (hs : List Formula) (n : ℕ) (g : Formula) → slice_get hs n ≡ Some g → HoldAll w hs → Holds w g
nth w [] n g q h = cc
nth w (x ∷ hs) zero g q h = let r : x ≡ g = cc in subst (λ y. Holds w y) r h.0
nth w (x ∷ hs) (suc n) g q h = nth w hs n g q h.1

-- Each premise follows from the hypotheses and its context.
abbrev pub EachFollows : List Formula → List (List Formula) → List Formula → Type 0
EachFollows hs cs [] = Unit {0}
EachFollows hs cs (p ∷ ps) = Follows (under hs cs) p × EachFollows hs (later cs) ps

abbrev Keeps : List Formula → Rule → Formula → List Formula → Type 0
Keeps hs r g ps = EachFollows hs (contexts r g ps) ps → Follows hs g

along : (hs : List Formula) (r : Rule) {g g2 : Formula} {ps ps2 : List Formula} → g ≡ g2 → ps ≡ ps2 → Keeps hs r g2 ps2 → Keeps hs r g ps
along hs r {g2 = g2} {ps = ps} e f m = subst (λ x. Keeps hs r x ps) (sym e) (subst (λ y. Keeps hs r g2 y) (sym f) m)

-- A name that is new to a step may have any number.

abbrev fresh_change : ℕ → ℤ → List Change
fresh_change k n = change.Scalar (Fresh k) (Num n) ∷ []

abbrev with_fresh : Valuation → ℕ → ℤ → Valuation
with_fresh w k n = changed w (fresh_change k n)

fresh_value : (w : Valuation) (k : ℕ) (n : ℤ) → value (with_fresh w k n) [] (Scalar (Fresh k)) ≡ n
unfolding formula_shape formula_child term_shape term_child array_shape array_child hidden
fresh_value w k n = let q : nat_eq k k ≡ true = grind (arith, nat_tests) in λ i. value w [] (if q i then Num n else Scalar (Fresh k))

one_absent : (k : ℕ) (n : ℤ) (f : Formula) → IsAbsent (Fresh k) f → AreAbsent (fresh_change k n) f
one_absent k n f h zero d lt = h
one_absent k n f h (suc m) d lt = absurd (omega arith)

hold_absent : (w : Valuation) (k : ℕ) (n : ℤ) (hs : List Formula) → All (IsAbsent (Fresh k)) hs → HoldAll w hs → HoldAll (with_fresh w k n) hs
unfolding formula_shape formula_child term_shape term_child array_shape array_child hidden
hold_absent w k n [] a h = tt
hold_absent w k n (f ∷ fs) a h = (subst (λ (X : Type 0). X) (sym (holds_absent (fresh_change k n) (tt, tt) w [] f (one_absent k n f (a zero f (omega arith))))) h.0, hold_absent w k n fs (λ m d lt. a (suc m) d (omega arith)) h.1)

module _ (hs : List Formula) where
  false_elim : (g : Formula) → Keeps hs FalseElim g (False ∷ [])
  unfolding formula_shape formula_child term_shape term_child array_shape array_child hidden
  false_elim g each w h = absurd (each.0 w h)

  and_intro : (a b : Formula) → Keeps hs AndIntro (And a b) (a ∷ b ∷ [])
  unfolding formula_shape formula_child term_shape term_child array_shape array_child hidden
  and_intro a b each w h = (each.0 w h, each.1.0 w h)

  and_left : (g b : Formula) → Keeps hs AndLeft g (And g b ∷ [])
  unfolding formula_shape formula_child term_shape term_child array_shape array_child hidden
  and_left g b each w h = let p = each.0 w h in p.0

  and_right : (g a : Formula) → Keeps hs AndRight g (And a g ∷ [])
  unfolding formula_shape formula_child term_shape term_child array_shape array_child hidden
  and_right g a each w h = let p = each.0 w h in p.1

  or_left : (a b : Formula) → Keeps hs OrLeft (Or a b) (a ∷ [])
  unfolding formula_shape formula_child term_shape term_child array_shape array_child hidden
  or_left a b each w h = λ m n. m (each.0 w h)

  or_right : (a b : Formula) → Keeps hs OrRight (Or a b) (b ∷ [])
  unfolding formula_shape formula_child term_shape term_child array_shape array_child hidden
  or_right a b each w h = λ m n. n (each.0 w h)

  or_elim : (g a b : Formula) → Keeps hs OrElim g (Or a b ∷ g ∷ g ∷ [])
  unfolding formula_shape formula_child term_shape term_child array_shape array_child hidden
  or_elim g a b each w h = stable w [] g (λ fails. each.0 w (plus w hs [] h tt) (λ x. fails (each.1.0 w (plus w hs (a ∷ []) h (x, tt)))) (λ y. fails (each.1.1.0 w (plus w hs (b ∷ []) h (y, tt)))))

  implies_intro : (a b : Formula) → Keeps hs ImpliesIntro (Implies a b) (b ∷ [])
  unfolding formula_shape formula_child term_shape term_child array_shape array_child hidden
  implies_intro a b each w h = λ x. each.0 w (plus w hs (a ∷ []) h (x, tt))

  implies_elim : (g a : Formula) → Keeps hs ImpliesElim g (Implies a g ∷ a ∷ [])
  unfolding formula_shape formula_child term_shape term_child array_shape array_child hidden
  implies_elim g a each w h = each.0 w h (each.1.0 w h)

  not_intro : (a : Formula) → Keeps hs NotIntro (Not a) (False ∷ [])
  unfolding formula_shape formula_child term_shape term_child array_shape array_child hidden
  not_intro a each w h = λ x. each.0 w (plus w hs (a ∷ []) h (x, tt))

  not_elim : (a : Formula) → Keeps hs NotElim False (Not a ∷ a ∷ [])
  unfolding formula_shape formula_child term_shape term_child array_shape array_child hidden
  not_elim a each w h = each.0 w h (each.1.0 w h)

  classical : (g : Formula) → Keeps hs Classical g (False ∷ [])
  unfolding formula_shape formula_child term_shape term_child array_shape array_child hidden
  classical g each w h = stable w [] g (λ fails. each.0 w (plus w hs (Not g ∷ []) h (fails, tt)))

  all_intro : (k : ℕ) (a : Formula) → IsNew k hs (ForAll a) → Keeps hs (AllIntro k) (ForAll a) (opened (Scalar (Fresh k)) a ∷ [])
  unfolding IsNew formula_shape formula_child term_shape term_child array_shape array_child hidden
  all_intro k a new each w h = λ n.
      let x = each.0 (with_fresh w k n) (hold_absent w k n hs new.0 h) in
      let p = holds_at (with_fresh w k n) (Scalar (Fresh k)) tt [] [] 0 refl a in
      let q : HoldsIn (with_fresh w k n) (value (with_fresh w k n) [] (Scalar (Fresh k)) ∷ []) a ≡ HoldsIn (with_fresh w k n) (n ∷ []) a = λ i. HoldsIn (with_fresh w k n) (fresh_value w k n i ∷ []) a in
      subst (λ (X : Type 0). X) (p ∙ (q ∙ holds_absent (fresh_change k n) (tt, tt) w (n ∷ []) a (one_absent k n a new.1))) x

  all_elim : (t : Term) (a : Formula) → IsTermClosed t → Keeps hs (AllElim t) (opened t a) (ForAll a ∷ [])
  unfolding formula_shape formula_child term_shape term_child array_shape array_child hidden
  all_elim t a c each w h = subst (λ (X : Type 0). X) (sym (holds_at w t c [] [] 0 refl a)) (each.0 w h (value w [] t))

  lab_intro : (l : Label) (a : Formula) → Keeps hs LabIntro (Lab l a) (a ∷ [])
  unfolding formula_shape formula_child term_shape term_child array_shape array_child hidden
  lab_intro l a each w h = each.0 w h

  lab_elim : (g : Formula) (l : Label) → Keeps hs LabElim g (Lab l g ∷ [])
  unfolding formula_shape formula_child term_shape term_child array_shape array_child hidden
  lab_elim g l each w h = each.0 w h

  eq_le : (s t : Term) → Keeps hs EqLe (Le s t) (Eq s t ∷ [])
  unfolding formula_shape formula_child term_shape term_child array_shape array_child hidden
  eq_le s t each w h = subst (λ x. value w [] s ≤ℤ x) (each.0 w h) (≤ℤ_refl (value w [] s))

  eq_ge : (s t : Term) → Keeps hs EqLe (Le t s) (Eq s t ∷ [])
  unfolding formula_shape formula_child term_shape term_child array_shape array_child hidden
  eq_ge s t each w h = subst (λ x. x ≤ℤ value w [] s) (each.0 w h) (≤ℤ_refl (value w [] s))

  le_total : (s t : Term) → Keeps hs LeTotal (in_order s t) []
  unfolding formula_shape formula_child term_shape term_child array_shape array_child hidden
  le_total s t each w h = λ m n. numbers.in_order (value w [] s) (value w [] t) m n

  eq_split : (s t : Term) → Keeps hs EqSplit (equal_or_apart s t) []
  unfolding formula_shape formula_child term_shape term_child array_shape array_child hidden
  eq_split s t each w h = λ m n. n (λ x y. numbers.equal_or_apart (value w [] s) (value w [] t) m x y)

  read_put : (a : ArrayTerm) (i j v k l : Term) → Keeps hs ReadPut (cell_of_put a i j v k l) []
  unfolding formula_shape formula_child term_shape term_child array_shape array_child hidden
  read_put a i j v k l each w h = λ m n. numbers.cell_of_put (table_of w [] a) (value w [] i) (value w [] j) (value w [] v) (value w [] k) (value w [] l) m n

  read_same : (a : ArrayTerm) (i j k l : Term) → Keeps hs ReadSame (Eq (Read a i j) (Read a k l)) (Eq i k ∷ Eq j l ∷ [])
  unfolding formula_shape formula_child term_shape term_child array_shape array_child hidden
  read_same a i j k l each w h = λ m. table_of w [] a (each.0 w h m) (each.1.0 w h m)

-- a linear step adds no hypotheses
premises_hold : (w : Valuation) (hs ps : List Formula) → EachFollows hs [] ps → HoldAll w hs → HoldAll w ps
premises_hold w hs [] each h = tt
premises_hold w hs (p ∷ ps) each h = (each.0 w h, premises_hold w hs ps each.1 h)

linear : (hs : List Formula) (factors : List ℕ) (g : Formula) (ps : List Formula) → IsLinear factors g ps → Keeps hs (Linear factors) g ps
unfolding formula_shape formula_child term_shape term_child array_shape array_child hidden
linear hs factors False ps s each w h = no_contradiction w ps s.0 factors s.1 s.2 s.4 s.5 (premises_hold w hs ps each h)
linear hs factors (Le x y) ps s each w h =
    stable w [] (Le x y) (λ fails. numbers.in_order (value w [] x) (value w [] y) fails (λ above.
    no_contradiction w (Le (next y) x ∷ ps) s.0 factors s.1 s.2 s.4 s.5 (above, premises_hold w hs ps each h)))
linear hs factors g ps s each w h = let e = s.2 in cc

instance_sound : (hs : List Formula) (r : Rule) (g : Formula) (ps : List Formula) → IsInstance hs r g ps → EachFollows hs (contexts r g ps) ps → Follows hs g
unfolding formula_shape formula_child term_shape term_child array_shape array_child hidden
instance_sound hs (Hyp n) g ps s = λ each w h. nth w hs n g s.1 h
instance_sound hs TrueIntro g ps s = λ each w h. subst (λ x. Holds w x) (sym s.1) tt
instance_sound hs FalseElim g ps s = along hs FalseElim {g = g} refl s (false_elim hs g)
instance_sound hs AndIntro g ps s = along hs AndIntro s.2 s.3 (and_intro hs s.0 s.1)
instance_sound hs AndLeft g ps s = along hs AndLeft {g = g} refl s.1 (and_left hs g s.0)
instance_sound hs AndRight g ps s = along hs AndRight {g = g} refl s.1 (and_right hs g s.0)
instance_sound hs OrLeft g ps s = along hs OrLeft s.2 s.3 (or_left hs s.0 s.1)
instance_sound hs OrRight g ps s = along hs OrRight s.2 s.3 (or_right hs s.0 s.1)
instance_sound hs OrElim g ps s = along hs OrElim {g = g} refl s.2 (or_elim hs g s.0 s.1)
instance_sound hs ImpliesIntro g ps s = along hs ImpliesIntro s.2 s.3 (implies_intro hs s.0 s.1)
instance_sound hs ImpliesElim g ps s = along hs ImpliesElim {g = g} refl s.1 (implies_elim hs g s.0)
instance_sound hs NotIntro g ps s = along hs NotIntro s.1 s.2 (not_intro hs s.0)
instance_sound hs NotElim g ps s = along hs NotElim s.1 s.2 (not_elim hs s.0)
instance_sound hs Classical g ps s = along hs Classical {g = g} refl s (classical hs g)
instance_sound hs (AllIntro k) g ps s = along hs (AllIntro k) s.1 s.2 (all_intro hs k s.0 (subst (λ x. IsNew k hs x) s.1 s.3))
instance_sound hs (AllElim t) g ps s = along hs (AllElim t) s.1 s.2 (all_elim hs t s.0 s.3)
instance_sound hs LabIntro g ps s = along hs LabIntro s.2 s.3 (lab_intro hs s.0 s.1)
instance_sound hs LabElim g ps s = along hs LabElim {g = g} refl s.1 (lab_elim hs g s.0)
instance_sound hs (Linear factors) g ps s = linear hs factors g ps s
instance_sound hs EqLe g ps s = ⊎_elim (λ e. along hs EqLe e s.2 (eq_le hs s.0 s.1)) (λ e. along hs EqLe e s.2 (eq_ge hs s.0 s.1)) s.3
instance_sound hs LeTotal g ps s = along hs LeTotal s.2 s.3 (le_total hs s.0 s.1)
instance_sound hs EqSplit g ps s = along hs EqSplit s.2 s.3 (eq_split hs s.0 s.1)
instance_sound hs ReadPut g ps s = along hs ReadPut s.6 s.7 (read_put hs s.0 s.1 s.2 s.3 s.4 s.5)
instance_sound hs ReadSame g ps s = along hs ReadSame s.5 s.6 (read_same hs s.0 s.1 s.2 s.3 s.4)

mutual
  pub sound : (hs : List Formula) (t : ProofTree) → Checked hs t → Follows hs (goal_of t)
  sound hs (ProofTree' r g s row) c = instance_sound hs r g (goals row) c.0.2 (row_sound hs (contexts r g (goals row)) row c.1)

  row_sound : {m : _} (hs : List Formula) (cs : List (List Formula)) (row : Row_of-ProofTree m) → EachChecked hs cs row → EachFollows hs cs (goals row)
  row_sound hs cs end_of-ProofTree c = tt
  row_sound hs cs (more_of-ProofTree t row) c = (sound (under hs cs) t c.0, row_sound hs (later cs) row c.1)
