-- The steps of rules that a step of a plan stands for.
use Rattle.std.proofs.Common.{◌≡◌, ℕ, List, [], ◌∷◌, ◌++◌, length, Some, slice_get, refl, sym, subst, arith, append-nil}
use Rattle.ac_logic.specs.declared.formula.Term.{Term}
use Rattle.ac_logic.specs.declared.formula.Formula.{Formula, False}
use Rattle.ac_logic.specs.declared.formula.Formula.TheVariants.{Not, Or, Implies}
use Rattle.ac_logic.specs.Readable.{IsReadable}
use Rattle.ac_proof.specs.declared.rule.Rule.{Rule}
use Rattle.ac_proof.specs.declared.rule.Rule.TheVariants as rule
use Rattle.ac_proof.specs.declared.tree.ProofTree.{ProofTree}
use Rattle.ac_proof.specs.Rules.{in_order, equal_or_apart}
use Rattle.ac_steps.specs.Opened.{hidden, formula_shape, formula_child}
use Rattle.ac_steps.specs.Proofs.{IsProof, IsMadeOf}
use Rattle.ac_steps.specs.Steps.{IsHypothesisAt, IsSplit, IsAbsurdity, IsClash, IsByCases, IsSupposing, IsApplied}
use Rattle.ac_steps.proofs.Readable.{implies_readable, order_readable, equality_readable}
use Rattle.ac_steps.proofs.Made.{proof_readable, by_rule}

under_none : (hs : List Formula) (f : Formula) (t : ProofTree) → IsProof hs f t → IsProof (hs ++ []) f t
under_none hs f t p = subst (λ x. IsProof x f t) (sym (append-nil hs)) p

pub hypothesis_at : (place : ℕ) (f : Formula) (t : ProofTree) → IsMadeOf t (rule.Hyp place) f [] → IsHypothesisAt place f t
hypothesis_at place f t m hs at readable = by_rule hs t (rule.Hyp place) f [] [] m readable tt (refl, at) (omega arith) tt

pub absurdity : (g : Formula) (p t : ProofTree) → IsMadeOf t rule.FalseElim g (p ∷ []) → IsAbsurdity g p t
absurdity g p t m hs readable a = by_rule hs t rule.FalseElim g (False ∷ []) (p ∷ []) m readable tt refl (omega arith) (a, tt)

false_readable : IsReadable False
unfolding hidden formula_shape formula_child
false_readable = (tt, tt)

pub clash : (p q t : ProofTree) → IsMadeOf t rule.NotElim False (p ∷ q ∷ []) → IsClash p q t
clash p q t m hs a x y = by_rule hs t rule.NotElim False (Not a ∷ a ∷ []) (p ∷ q ∷ []) m false_readable tt (a, refl, refl) (omega arith) (x, (y, tt))

pub by_cases : (g : Formula) (p q r t : ProofTree) → IsMadeOf t rule.OrElim g (p ∷ q ∷ r ∷ []) → IsByCases g p q r t
unfolding hidden formula_shape formula_child
by_cases g p q r t m hs a b x y z = by_rule hs t rule.OrElim g (Or a b ∷ g ∷ g ∷ []) (p ∷ q ∷ r ∷ []) m (proof_readable (hs ++ a ∷ []) g q y) tt (a, b, refl) (omega arith) (under_none hs (Or a b) p x, (y, (z, tt)))

pub order : (u v : Term) (t : ProofTree) → IsMadeOf t rule.LeTotal (in_order u v) [] → IsSplit u v (in_order u v) t
order u v t m hs a b = by_rule hs t rule.LeTotal (in_order u v) [] [] m (order_readable u v a b) tt (u, v, refl, refl) (omega arith) tt

pub equality : (u v : Term) (t : ProofTree) → IsMadeOf t rule.EqSplit (equal_or_apart u v) [] → IsSplit u v (equal_or_apart u v) t
equality u v t m hs a b = by_rule hs t rule.EqSplit (equal_or_apart u v) [] [] m (equality_readable u v a b) tt (u, v, refl, refl) (omega arith) tt

pub supposing : (f : Formula) (p t : ProofTree) → IsMadeOf t rule.ImpliesIntro f (p ∷ []) → IsSupposing f p t
unfolding hidden formula_shape formula_child
supposing f p t m hs a b e readable x =
    let n : IsMadeOf t rule.ImpliesIntro (Implies a b) (p ∷ []) = subst (λ g. IsMadeOf t rule.ImpliesIntro g (p ∷ [])) e m in
    subst (λ g. IsProof hs g t) (sym e) (by_rule hs t rule.ImpliesIntro (Implies a b) (b ∷ []) (p ∷ []) n (implies_readable a b readable (proof_readable (hs ++ a ∷ []) b p x)) tt (a, b, refl, refl) (omega arith) (x, tt))

right_readable : (a g : Formula) → IsReadable (Implies a g) → IsReadable g
unfolding hidden formula_shape formula_child
right_readable a g h = (h.0.1, h.1.1)

pub applied : (g : Formula) (p q t : ProofTree) → IsMadeOf t rule.ImpliesElim g (p ∷ q ∷ []) → IsApplied g p q t
applied g p q t m hs a x y = by_rule hs t rule.ImpliesElim g (Implies a g ∷ a ∷ []) (p ∷ q ∷ []) m (right_readable a g (proof_readable hs (Implies a g) p x)) tt (a, refl) (omega arith) (x, (y, tt))

-- the hypothesis behind others
pub get_behind : (hs : List Formula) (f : Formula) (more : List Formula) → slice_get (hs ++ f ∷ more) (length hs) ≡ Some f
get_behind [] f more = refl
get_behind (h ∷ hs) f more = get_behind hs f more

pub get_next : (hs : List Formula) (f : Formula) (place : ℕ) → length hs ≡ place → slice_get (hs ++ f ∷ []) place ≡ Some f
get_next hs f place e = subst (λ n. slice_get (hs ++ f ∷ []) n ≡ Some f) e (get_behind hs f [])

-- a tree's last step, with its goal and premises by other names
pub made_as : (t : ProofTree) (r : Rule) (g f : Formula) (ts us : List ProofTree) → g ≡ f → ts ≡ us → IsMadeOf t r g ts → IsMadeOf t r f us
made_as t r g f ts us e q m = subst (λ x. IsMadeOf t r x us) e (subst (IsMadeOf t r g) q m)
