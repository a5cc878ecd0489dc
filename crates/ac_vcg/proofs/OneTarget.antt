-- The conditions of a target, put together.
use Rattle.std.proofs.Common.{◌≡◌, List, [], ◌∷◌, ◌++◌, None, refl, sym, ◌∙◌, ap, append-nil}
use Rattle.ac_tree.specs.declared.path.Cut.TheVariants.{Start}
use Rattle.ac_tree.specs.declared.path.Target.{Target}
use Rattle.ac_tree.specs.declared.policy.PolicyName.{PolicyName}
use Rattle.ac_tree.specs.declared.program.Program.{Program}
use Rattle.ac_tree.specs.declared.program.Stmt.{Stmt}
use Rattle.ac_logic.specs.declared.condition.Condition.{Condition}
use Rattle.ac_logic.specs.declared.formula.Formula.{Formula}
use Rattle.ac_conditions.specs.Conditions.{condition, list_conditions, conditions_at}
use Rattle.ac_conditions.specs.Part.{Part}
use Rattle.ac_conditions.specs.Preconditions.{before_list}
use Rattle.ac_conditions.specs.Ranges.{ranges}

pub whole_target : (p : Program) (name : PolicyName) (part : Part) (t : Target) (hs : List Formula) (body : List Stmt) → hs ≡ ranges p p.items → body ≡ p.body →
    condition p name part t Start (hs ++ []) (before_list p part t body None) ++ (list_conditions p name part t hs body None ++ []) ≡ conditions_at p name part t
whole_target p name part t hs body e f =
    ap (λ (l : List Formula). condition p name part t Start l (before_list p part t body None) ++ (list_conditions p name part t hs body None ++ [])) (append-nil hs)
    ∙ (ap (λ (l : List Condition). condition p name part t Start hs (before_list p part t body None) ++ l) (append-nil (list_conditions p name part t hs body None))
    ∙ (ap (λ (l : List Formula). condition p name part t Start l (before_list p part t body None) ++ list_conditions p name part t l body None) e
    ∙ ap (λ (b : List Stmt). condition p name part t Start (ranges p p.items) (before_list p part t b None) ++ list_conditions p name part t (ranges p p.items) b None) f))
