-- What stands for the goals of both sides of a test, and for the goals of a loop.
use Rattle.std.proofs.Common.{◌≡◌, Bool, true, List, Option, Some, refl, sym, subst}
use Rattle.ac_tree.specs.declared.node.NodeId.{NodeId}
use Rattle.ac_tree.specs.declared.path.Target.{Target}
use Rattle.ac_tree.specs.declared.program.Cond.{Cond}
use Rattle.ac_tree.specs.declared.program.CondKind.{CondKind}
use Rattle.ac_tree.specs.declared.program.CondKind.TheVariants as cond
use Rattle.ac_tree.specs.declared.program.Program.{Program}
use Rattle.ac_logic.specs.declared.formula.Change.{Change}
use Rattle.ac_logic.specs.declared.formula.Formula.{Formula}
use Rattle.ac_logic.specs.declared.label.LabelKind.{LabelKind}
use Rattle.ac_logic.specs.declared.label.LabelKind.TheVariants as label
use Rattle.ac_logic.specs.Patterns.{Negation as Not}
use Rattle.ac_logic.specs.Substitution.{formula_after}
use Rattle.ac_policy.specs.declared.site.Site.{Site}
use Rattle.ac_conditions.specs.Goals.{conjoined, goal_if, under, cond_goal}
use Rattle.ac_conditions.specs.Tests.{labelled, formula_of}
use Rattle.ac_preconditions.specs.Opened.{hidden, cond_shape, cond_child, formula_shape, formula_child}
use Rattle.ac_preconditions.specs.Stands.{StandsIf}

module _ (need : Site → Option Formula) (t : Target) (p : Program) where
  goal_of_and : (c d : Cond) → cond_goal need t p (cond.And c d) ≡ conjoined (cond_goal need t p c.kind) (under label.Guard c.node.id (formula_of p c.kind) (cond_goal need t p d.kind))
  unfolding hidden cond_shape cond_child formula_shape formula_child
  goal_of_and c d = refl

  goal_of_or : (c d : Cond) → cond_goal need t p (cond.Or c d) ≡ conjoined (cond_goal need t p c.kind) (under label.Guard c.node.id (Not (formula_of p c.kind)) (cond_goal need t p d.kind))
  unfolding hidden cond_shape cond_child formula_shape formula_child
  goal_of_or c d = refl

  module _ {G : Type 0} (stands : G → Formula → Type 0) where
    pub and_stands : (c d first second side : Cond) (k : CondKind) (made : Option G) → k ≡ cond.And c d → first ≡ c → second ≡ d → side ≡ c →
        StandsIf stands made (conjoined (cond_goal need t p first.kind) (under label.Guard side.node.id (formula_of p side.kind) (cond_goal need t p second.kind))) → StandsIf stands made (cond_goal need t p k)
    and_stands c d first second side k made e i j l h =
        subst (λ x. StandsIf stands made (cond_goal need t p x)) (sym e) (subst (λ f. StandsIf stands made f) (sym (goal_of_and c d))
        (subst (λ (x : Cond). StandsIf stands made (conjoined (cond_goal need t p x.kind) (under label.Guard c.node.id (formula_of p c.kind) (cond_goal need t p d.kind)))) i
        (subst (λ (x : Cond). StandsIf stands made (conjoined (cond_goal need t p first.kind) (under label.Guard c.node.id (formula_of p c.kind) (cond_goal need t p x.kind)))) j
        (subst (λ (x : Cond). StandsIf stands made (conjoined (cond_goal need t p first.kind) (under label.Guard x.node.id (formula_of p x.kind) (cond_goal need t p second.kind)))) l h))))

    pub or_stands : (c d first second side : Cond) (k : CondKind) (made : Option G) → k ≡ cond.Or c d → first ≡ c → second ≡ d → side ≡ c →
        StandsIf stands made (conjoined (cond_goal need t p first.kind) (under label.Guard side.node.id (Not (formula_of p side.kind)) (cond_goal need t p second.kind))) → StandsIf stands made (cond_goal need t p k)
    or_stands c d first second side k made e i j l h =
        subst (λ x. StandsIf stands made (cond_goal need t p x)) (sym e) (subst (λ f. StandsIf stands made f) (sym (goal_of_or c d))
        (subst (λ (x : Cond). StandsIf stands made (conjoined (cond_goal need t p x.kind) (under label.Guard c.node.id (Not (formula_of p c.kind)) (cond_goal need t p d.kind)))) i
        (subst (λ (x : Cond). StandsIf stands made (conjoined (cond_goal need t p first.kind) (under label.Guard c.node.id (Not (formula_of p c.kind)) (cond_goal need t p x.kind)))) j
        (subst (λ (x : Cond). StandsIf stands made (conjoined (cond_goal need t p first.kind) (under label.Guard x.node.id (Not (formula_of p x.kind)) (cond_goal need t p second.kind)))) l h))))

-- a goal after changes, where it is aimed at
pub changed_stands : {G : Type 0} (stands : G → Formula → Type 0) (kind : LabelKind) (n : NodeId) (made : G) (cs ds : List Change) (f g : Formula) (b : Bool) → b ≡ true → cs ≡ ds → f ≡ g →
    stands made (labelled kind n (formula_after cs f)) → StandsIf stands (Some made) (goal_if b (labelled kind n (formula_after ds g)))
changed_stands stands kind n made cs ds f g b e i j h =
    subst (λ x. StandsIf stands (Some made) (goal_if x (labelled kind n (formula_after ds g)))) (sym e)
    (subst (λ l. stands made (labelled kind n (formula_after l g))) i (subst (λ q. stands made (labelled kind n (formula_after cs q))) j h))
