-- What is known to be readable without being read: hypotheses, and premises that are made of what stands above and before.
use Rattle.std.proofs.Common.{◌≡◌, ℕ, zero, suc, ◌+◌, ◌<◌, List, [], ◌∷◌, ◌++◌, length, map, Bool, true, nat_lt, Some, All, slice_get, get_or, refl, sym, ap, subst, ⊎_elim, arith}
use Rattle.std.specs.Prelude.{IsTrue}
use Rattle.std.proofs.lemmas.Bool.Decides.{nat_tests}
use Rattle.std.proofs.lemmas.Option.{slice_get_read}
use Rattle.std.proofs.lemmas.List.Elements.{All-nil, All-cons, All-append}
use Rattle.ac_logic.specs.declared.label.Label.{Label}
use Rattle.ac_logic.specs.declared.formula.Sym.TheVariants.{Fresh}
use Rattle.ac_logic.specs.declared.formula.Term.{Term}
use Rattle.ac_logic.specs.declared.formula.Term.TheVariants.{Read}
use Rattle.ac_logic.specs.declared.formula.ArrayTerm.{ArrayTerm}
use Rattle.ac_logic.specs.declared.formula.Formula.{Formula, False, Le, Eq}
use Rattle.ac_logic.specs.declared.formula.Formula.TheVariants.{Not, And, Or, Implies, All as ForAll, Lab}
use Rattle.ac_logic.specs.Patterns.{Scalar}
use Rattle.ac_logic.specs.Opening.{opened}
use Rattle.ac_logic.specs.Readable.{IsReadable}
use Rattle.ac_proof.specs.declared.rule.Rule.{Rule}
use Rattle.ac_proof.specs.declared.rule.Rule.TheVariants.{Hyp, TrueIntro, FalseElim, AndIntro, AndLeft, AndRight, OrLeft, OrRight, OrElim, ImpliesIntro, ImpliesElim, NotIntro, NotElim, Classical, AllIntro, AllElim, LabIntro, LabElim, Linear, EqLe, LeTotal, EqSplit, ReadPut, ReadSame}
use Rattle.ac_proof.specs.declared.tree.ProofTree.{ProofTree, ProofTree', out-ProofTree}
use Rattle.ac_proof.specs.Opened.{hidden, formula_shape, formula_child, term_shape, term_child, array_shape, array_child}
use Rattle.ac_proof.specs.Rules.{IsInstance, sides, antecedent, denied}
use Rattle.ac_proof.specs.Checked.{goal_of, Checked, HasFewPremises}
use Rattle.ac_proof.specs.Known.{given}
use Rattle.ac_proof.specs.Walk.{added, IsStepOf, PremiseIs, KnowsWell}
use Rattle.ac_proof.proofs.ReadableBodies.{body_readable, every_readable}
use Rattle.ac_proof.proofs.Trees.{few_below}

-- ---- parts of a formula

both : (a b : Formula) → IsReadable a → IsReadable b → IsReadable (And a b)
unfolding hidden formula_shape formula_child
both a b h k = ((h.0, k.0), (h.1, k.1))

left_of_and : (a b : Formula) → IsReadable (And a b) → IsReadable a
unfolding hidden formula_shape formula_child
left_of_and a b h = (h.0.0, h.1.0)

right_of_and : (a b : Formula) → IsReadable (And a b) → IsReadable b
unfolding hidden formula_shape formula_child
right_of_and a b h = (h.0.1, h.1.1)

left_of_or : (a b : Formula) → IsReadable (Or a b) → IsReadable a
unfolding hidden formula_shape formula_child
left_of_or a b h = (h.0.0, h.1.0)

right_of_or : (a b : Formula) → IsReadable (Or a b) → IsReadable b
unfolding hidden formula_shape formula_child
right_of_or a b h = (h.0.1, h.1.1)

supposed : (a b : Formula) → IsReadable (Implies a b) → IsReadable a
unfolding hidden formula_shape formula_child
supposed a b h = (h.0.0, h.1.0)

concluded : (a b : Formula) → IsReadable (Implies a b) → IsReadable b
unfolding hidden formula_shape formula_child
concluded a b h = (h.0.1, h.1.1)

under_not : (a : Formula) → IsReadable (Not a) → IsReadable a
unfolding hidden formula_shape formula_child
under_not a h = h

not_readable : (a : Formula) → IsReadable a → IsReadable (Not a)
unfolding hidden formula_shape formula_child
not_readable a h = h

under_label : (l : Label) (a : Formula) → IsReadable (Lab l a) → IsReadable a
unfolding hidden formula_shape formula_child
under_label l a h = h

label_readable : (l : Label) (a : Formula) → IsReadable a → IsReadable (Lab l a)
unfolding hidden formula_shape formula_child
label_readable l a h = h

equation_of_order : (s t : Term) → IsReadable (Le s t) → IsReadable (Eq s t)
unfolding hidden formula_shape formula_child
equation_of_order s t h = h

equation_back : (s t : Term) → IsReadable (Le t s) → IsReadable (Eq s t)
unfolding hidden formula_shape formula_child
equation_back s t h = ((h.0.1, h.0.0), (h.1.1, h.1.0))

first_indexes : (a : ArrayTerm) (i j k l : Term) → IsReadable (Eq (Read a i j) (Read a k l)) → IsReadable (Eq i k)
unfolding hidden formula_shape formula_child term_shape term_child array_shape array_child
first_indexes a i j k l h = ((h.0.0.1, h.0.1.1), (h.1.0.1, h.1.1.1))

second_indexes : (a : ArrayTerm) (i j k l : Term) → IsReadable (Eq (Read a i j) (Read a k l)) → IsReadable (Eq j l)
unfolding hidden formula_shape formula_child term_shape term_child array_shape array_child
second_indexes a i j k l h = ((h.0.0.2, h.0.1.2), (h.1.0.2, h.1.1.2))

-- ---- premises by number

none : (ps : List Formula) (p : Formula) (i : ℕ) → ps ≡ [] → slice_get ps i ≡ Some p → IsReadable p
none [] p i e h = cc
none (q ∷ ps) p i e h = cc

lone : (ps : List Formula) (a p : Formula) (i : ℕ) → ps ≡ a ∷ [] → slice_get ps i ≡ Some p → IsReadable a → IsReadable p
lone [] a p i e h r = cc
lone (q ∷ ps) a p zero e h r = let s : a ≡ p = cc in subst IsReadable s r
lone (q ∷ ps) a p (suc i) e h r = none ps p i (cc) h

pair : (ps : List Formula) (a b p : Formula) (i : ℕ) → ps ≡ a ∷ b ∷ [] → slice_get ps i ≡ Some p → IsReadable a → IsReadable b → IsReadable p
pair [] a b p i e h r s = cc
pair (q ∷ ps) a b p zero e h r s = let t : a ≡ p = cc in subst IsReadable t r
pair (q ∷ ps) a b p (suc i) e h r s = lone ps b p i (cc) h s

-- behind the first
second : (ps : List Formula) (x a p : Formula) (i : ℕ) → ps ≡ x ∷ a ∷ [] → nat_lt 0 i ≡ true → slice_get ps i ≡ Some p → IsReadable a → IsReadable p
second [] x a p i e t h r = cc
second (q ∷ ps) x a p zero e t h r = cc
second (q ∷ ps) x a p (suc i) e t h r = lone ps a p i (cc) h r

second_or_third : (ps : List Formula) (x a b p : Formula) (i : ℕ) → ps ≡ x ∷ a ∷ b ∷ [] → nat_lt 0 i ≡ true → slice_get ps i ≡ Some p → IsReadable a → IsReadable b → IsReadable p
second_or_third [] x a b p i e t h r s = cc
second_or_third (q ∷ ps) x a b p zero e t h r s = cc
second_or_third (q ∷ ps) x a b p (suc i) e t h r s = pair ps a b p i (cc) h r s

above_zero : (i : ℕ) → nat_lt 0 i ≡ true → 0 < i
above_zero i t = grind (arith, nat_tests)

-- The first premise is readable where number i stands behind it.
abbrev FirstReadable : List Formula → ℕ → Type 0
FirstReadable ps i = (q : Formula) (qs : List Formula) → 0 < i → ps ≡ q ∷ qs → IsReadable q

false_readable : IsReadable False
unfolding hidden formula_shape formula_child
false_readable = (tt, tt)

given_readable : (hs : List Formula) (r : Rule) (g : Formula) (ps : List Formula) (i : ℕ) (p : Formula) → IsReadable g → IsInstance hs r g ps → FirstReadable ps i → given r i ≡ true → slice_get ps i ≡ Some p → IsReadable p
given_readable hs (Hyp n) g ps i p r s f t e = none ps p i s.0 e
given_readable hs TrueIntro g ps i p r s f t e = none ps p i s.0 e
given_readable hs FalseElim g ps i p r s f t e = lone ps False p i s e false_readable
given_readable hs AndIntro g ps i p r s f t e = let h : IsReadable (And s.0 s.1) = subst IsReadable s.2 r in pair ps s.0 s.1 p i s.3 e (left_of_and s.0 s.1 h) (right_of_and s.0 s.1 h)
given_readable hs AndLeft g ps i p r s f t e = cc
given_readable hs AndRight g ps i p r s f t e = cc
given_readable hs OrLeft g ps i p r s f t e = lone ps s.0 p i s.3 e (left_of_or s.0 s.1 (subst IsReadable s.2 r))
given_readable hs OrRight g ps i p r s f t e = lone ps s.1 p i s.3 e (right_of_or s.0 s.1 (subst IsReadable s.2 r))
given_readable hs OrElim g ps i p r s f t e = second_or_third ps (Or s.0 s.1) g g p i s.2 t e r r
given_readable hs ImpliesIntro g ps i p r s f t e = lone ps s.1 p i s.3 e (concluded s.0 s.1 (subst IsReadable s.2 r))
given_readable hs ImpliesElim g ps i p r s f t e = second ps (Implies s.0 g) s.0 p i s.1 t e (supposed s.0 g (f (Implies s.0 g) (s.0 ∷ []) (above_zero i t) s.1))
given_readable hs NotIntro g ps i p r s f t e = lone ps False p i s.2 e false_readable
given_readable hs NotElim g ps i p r s f t e = second ps (Not s.0) s.0 p i s.2 t e (under_not s.0 (f (Not s.0) (s.0 ∷ []) (above_zero i t) s.2))
given_readable hs Classical g ps i p r s f t e = lone ps False p i s e false_readable
given_readable hs (AllIntro k) g ps i p r s f t e = lone ps (opened (Scalar (Fresh k)) s.0) p i s.2 e (body_readable k s.0 (subst IsReadable s.1 r))
given_readable hs (AllElim u) g ps i p r s f t e = lone ps (ForAll s.0) p i s.2 e (every_readable u s.0 (subst IsReadable s.1 r))
given_readable hs LabIntro g ps i p r s f t e = lone ps s.1 p i s.3 e (under_label s.0 s.1 (subst IsReadable s.2 r))
given_readable hs LabElim g ps i p r s f t e = lone ps (Lab s.0 g) p i s.1 e (label_readable s.0 g r)
given_readable hs (Linear factors) g ps i p r s f t e = cc
given_readable hs EqLe g ps i p r s f t e = lone ps (Eq s.0 s.1) p i s.2 e (⊎_elim (λ q. equation_of_order s.0 s.1 (subst IsReadable q r)) (λ q. equation_back s.0 s.1 (subst IsReadable q r)) s.3)
given_readable hs LeTotal g ps i p r s f t e = none ps p i s.3 e
given_readable hs EqSplit g ps i p r s f t e = none ps p i s.3 e
given_readable hs ReadPut g ps i p r s f t e = none ps p i s.7 e
given_readable hs ReadSame g ps i p r s f t e = let h : IsReadable (Eq (Read s.0 s.1 s.2) (Read s.0 s.3 s.4)) = subst IsReadable s.5 r in pair ps (Eq s.1 s.3) (Eq s.2 s.4) p i s.6 e (first_indexes s.0 s.1 s.2 s.3 s.4 h) (second_indexes s.0 s.1 s.2 s.3 s.4 h)

-- ---- contexts

abbrev AllReadable : List Formula → Type 0
AllReadable fs = All IsReadable fs

nothing : AllReadable []
nothing = All-nil IsReadable

one_more : (a : Formula) → IsReadable a → AllReadable (a ∷ [])
one_more a r = All-cons IsReadable a [] r nothing

only_first : (a : Formula) (i : ℕ) → IsReadable a → AllReadable (get_or ((a ∷ []) ∷ []) i [])
only_first a zero r = one_more a r
only_first a (suc i) r = nothing

each_side : (a b : Formula) (i : ℕ) → (0 < i → IsReadable (Or a b)) → AllReadable (get_or ([] ∷ (a ∷ []) ∷ (b ∷ []) ∷ []) i [])
each_side a b zero r = nothing
each_side a b (suc zero) r = one_more a (left_of_or a b (r (omega arith)))
each_side a b (suc (suc zero)) r = one_more b (right_of_or a b (r (omega arith)))
each_side a b (suc (suc (suc i))) r = nothing

sides_readable : (a b : Formula) (ps qs : List Formula) (i : ℕ) → ps ≡ Or a b ∷ qs → FirstReadable ps i → AllReadable (get_or (sides ps) i [])
unfolding hidden formula_shape formula_child
sides_readable a b ps qs i e f = subst (λ x. AllReadable (get_or (sides x) i [])) (sym e) (each_side a b i (λ lt. f (Or a b) qs lt e))

antecedent_readable : (g a b : Formula) (i : ℕ) → g ≡ Implies a b → IsReadable g → AllReadable (get_or (antecedent g) i [])
unfolding hidden formula_shape formula_child
antecedent_readable g a b i e r = subst (λ x. AllReadable (get_or (antecedent x) i [])) (sym e) (only_first a i (supposed a b (subst IsReadable e r)))

denied_readable : (g a : Formula) (i : ℕ) → g ≡ Not a → IsReadable g → AllReadable (get_or (denied g) i [])
unfolding hidden formula_shape formula_child
denied_readable g a i e r = subst (λ x. AllReadable (get_or (denied x) i [])) (sym e) (only_first a i (under_not a (subst IsReadable e r)))

added_readable : (hs : List Formula) (r : Rule) (g : Formula) (ps : List Formula) (i : ℕ) → IsReadable g → IsInstance hs r g ps → FirstReadable ps i → AllReadable (added r g ps i)
added_readable hs OrElim g ps i r s f = sides_readable s.0 s.1 ps (g ∷ g ∷ []) i s.2 f
added_readable hs ImpliesIntro g ps i r s f = antecedent_readable g s.0 s.1 i s.2 r
added_readable hs NotIntro g ps i r s f = denied_readable g s.0 i s.1 r
added_readable hs Classical g ps i r s f = only_first (Not g) i (not_readable g r)
added_readable hs x g ps i r s f = nothing

-- ---- steps

-- a hypothesis
pub of_all : (hs : List Formula) (n : ℕ) (g : Formula) → All IsReadable hs → slice_get hs n ≡ Some g → IsReadable g
of_all [] n g h e = cc
of_all (x ∷ hs) zero g h e = let q : x ≡ g = cc in subst IsReadable q (h zero x (omega arith))
of_all (x ∷ hs) (suc n) g h e = of_all hs n g (λ k d lt. h (suc k) d (omega arith)) e

checked_readable : (hs : List Formula) (t : ProofTree) → Checked hs t → IsReadable (goal_of t)
checked_readable hs (ProofTree' r g s row) c = c.0.0

goal_at : (ts : List ProofTree) (i : ℕ) (p : ProofTree) → slice_get ts i ≡ Some p → slice_get (map goal_of ts) i ≡ Some (goal_of p)
goal_at [] i p e = cc
goal_at (t ∷ ts) zero p e = let q : t ≡ p = cc in ap (λ x. Some (goal_of x)) q
goal_at (t ∷ ts) (suc i) p e = goal_at ts i p e

first_goal : (ts : List ProofTree) (q : Formula) (qs : List Formula) (Q : Formula → Type 0) → map goal_of ts ≡ q ∷ qs → ((p : ProofTree) → slice_get ts 0 ≡ Some p → Q (goal_of p)) → Q q
first_goal [] q qs Q e h = cc
first_goal (t ∷ ts) q qs Q e h = let s : goal_of t ≡ q = cc in subst Q s (h t refl)

-- What is known of premise number i, where the premises before it are checked.
pub premise_known : (hs : List Formula) (t : ProofTree) (i : ℕ) (p : ProofTree) (hyps : Bool) → (IsTrue hyps → All IsReadable hs) → IsStepOf hs t → ((k : ℕ) → k < i → PremiseIs hs t k Checked) → slice_get (out-ProofTree t).premises i ≡ Some p → KnowsWell (record { goal = given (out-ProofTree t).rule i; hyps = hyps }) (hs ++ added (out-ProofTree t).rule (out-ProofTree t).goal (map goal_of (out-ProofTree t).premises) i) (goal_of p)
premise_known hs t i p hyps all s before e =
    let f : FirstReadable (map goal_of (out-ProofTree t).premises) i = (λ q qs lt m. first_goal (out-ProofTree t).premises q qs IsReadable m (λ u n. checked_readable _ u (before 0 lt u n))) in
    record {
      goal = λ k. given_readable hs (out-ProofTree t).rule (out-ProofTree t).goal (map goal_of (out-ProofTree t).premises) i (goal_of p) s.0 s.2 f k (goal_at (out-ProofTree t).premises i p e);
      hyps = λ k. All-append IsReadable hs (added (out-ProofTree t).rule (out-ProofTree t).goal (map goal_of (out-ProofTree t).premises) i) (all k) (added_readable hs (out-ProofTree t).rule (out-ProofTree t).goal (map goal_of (out-ProofTree t).premises) i s.0 s.2 f);
    }

-- The two facts that the walk asks of premise number i, from what it has at hand there.
pub item_at : (ts us : List ProofTree) (i : ℕ) (x : ProofTree) → us ≡ ts → i < length ts → x ≡ get_or us i x → slice_get ts i ≡ Some x
item_at ts us i x q lt e = subst (λ l. slice_get l i ≡ Some x) q (slice_get_read us (length us) i x refl (omega (arith, ap length q)) e)

pub few_at_hand : (t x : ProofTree) (us : List ProofTree) (i : ℕ) → HasFewPremises t → i < length (out-ProofTree t).premises → us ≡ (out-ProofTree t).premises → x ≡ get_or us i x → HasFewPremises x
few_at_hand t x us i h lt q e = few_below t i x h (item_at (out-ProofTree t).premises us i x q lt e)

pub known_at_hand : (hs gs : List Formula) (t x : ProofTree) (us : List ProofTree) (i : ℕ) (b hyps : Bool) → x ≡ get_or us i x → us ≡ (out-ProofTree t).premises → b ≡ given (out-ProofTree t).rule i → gs ≡ hs ++ added (out-ProofTree t).rule (out-ProofTree t).goal (map goal_of (out-ProofTree t).premises) i → i < length (out-ProofTree t).premises → IsStepOf hs t → (IsTrue hyps → All IsReadable hs) → ((k : ℕ) → k < i → PremiseIs hs t k Checked) → KnowsWell (record { goal = b; hyps = hyps }) gs (goal_of x)
known_at_hand hs gs t x us i b hyps e q g n lt s all before = rw (g, n) (premise_known hs t i x hyps all s before (item_at (out-ProofTree t).premises us i x q lt e))

-- one formula more
pub readable_more : (fs : List Formula) (i : ℕ) (x : Formula) → x ≡ get_or fs i x → i < length fs → ((k : ℕ) (d : Formula) → k < i → IsReadable (get_or fs k d)) → IsReadable x → (k : ℕ) (d : Formula) → k < i + 1 → IsReadable (get_or fs k d)
readable_more [] i x e lt h r k d l = absurd (omega arith)
readable_more (f ∷ fs) zero x e lt h r zero d l = subst IsReadable e r
readable_more (f ∷ fs) zero x e lt h r (suc k) d l = absurd (omega arith)
readable_more (f ∷ fs) (suc i) x e lt h r zero d l = h zero d (omega arith)
readable_more (f ∷ fs) (suc i) x e lt h r (suc k) d l = readable_more fs i x e (omega arith) (λ m c n. h (suc m) c (omega arith)) r k d (omega arith)
