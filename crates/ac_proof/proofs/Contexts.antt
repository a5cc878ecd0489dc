-- Where the rules with contexts add nothing.
use Rattle.std.proofs.Common.{◌≡◌, ℕ, zero, suc, List, [], ◌∷◌, get_or, map, length, ◌≤◌, refl, sym, ap, ◌∙◌, arith}
use Rattle.ac_logic.specs.declared.formula.Formula.{Formula}
use Rattle.ac_logic.specs.declared.formula.Formula.TheVariants.{Not, Or, Implies}
use Rattle.ac_logic.specs.Patterns.{Negation, Disjunction, Implication}
use Rattle.ac_proof.specs.Opened.{hidden, formula_shape, formula_child}
use Rattle.ac_proof.specs.declared.tree.ProofTree.{ProofTree}
use Rattle.ac_proof.specs.Checked.{goal_of}
use Rattle.ac_proof.specs.Rules.{antecedent, denied, sides}

pub not_implication : (f : Formula) (i : ℕ) → ((a b : Formula) → f ≡ Implies a b → ⊥) → [] ≡ get_or (antecedent f) i []
unfolding hidden formula_shape formula_child
not_implication (Implication a b) i h = absurd (h a b refl)
not_implication f i h = refl

pub not_negation : (f : Formula) (i : ℕ) → ((a : Formula) → f ≡ Not a → ⊥) → [] ≡ get_or (denied f) i []
unfolding hidden formula_shape formula_child
not_negation (Negation a) i h = absurd (h a refl)
not_negation f i h = refl

pub not_disjunction : (f : Formula) (i : ℕ) → ((a b : Formula) → f ≡ Or a b → ⊥) → [] ≡ get_or (sides (f ∷ [])) i []
unfolding hidden formula_shape formula_child
not_disjunction (Disjunction a b) i h = absurd (h a b refl)
not_disjunction f i h = refl

pub neither_side : (a b : Formula) (i : ℕ) → (i ≡ 1 → ⊥) → (i ≡ 2 → ⊥) → [] ≡ get_or (sides (Or a b ∷ [])) i []
unfolding hidden formula_shape formula_child
neither_side a b zero m n = refl
neither_side a b (suc zero) m n = absurd (m refl)
neither_side a b (suc (suc zero)) m n = absurd (n refl)
neither_side a b (suc (suc (suc i))) m n = refl

pub sides_of_first : (f : Formula) (ps : List Formula) → sides (f ∷ ps) ≡ sides (f ∷ [])
unfolding hidden formula_shape formula_child
sides_of_first (Disjunction a b) ps = refl
sides_of_first f ps = refl

pub sides_of_goals : (ts : List ProofTree) (t : ProofTree) → 1 ≤ length ts → t ≡ get_or ts 0 t → sides (goal_of t ∷ []) ≡ sides (map goal_of ts)
sides_of_goals [] t lt e = absurd (omega arith)
sides_of_goals (u ∷ ts) t lt e = ap (λ x. sides (goal_of x ∷ [])) e ∙ sym (sides_of_first (goal_of u) (map goal_of ts))
