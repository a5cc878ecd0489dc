use Rattle.std.proofs.Common.{◌≡◌, true, ◌≤◌, ℕ, List, ◌++◌, Option, drop, length}
use Rattle.ac_tree.specs.declared.policy.PolicyName.{PolicyName}
use Rattle.ac_tree.specs.Preorder.{nodes_of_list}
use Rattle.ac_logic.specs.declared.condition.Condition.{Condition}
use Rattle.ac_logic.specs.declared.formula.Formula.{Formula}
use Rattle.ac_conditions.specs.Conditions.{list_conditions}
use Rattle.ac_conditions.specs.Part.{part_of}
use Rattle.ac_conditions.specs.Preconditions.{before_list}
use Rattle.ac_preconditions.specs.Outside.{Rises, first_node}
use Rattle.ac_preconditions.specs.Stands.{StandsIf}
use Rattle.ac_vcg.specs.Stands.{AreFound}
use Rattle.ac_vcg.proofs.walk.+walk.Given as goal

abbrev pub decreases-walk_block-loop-left : goal.decreases-walk_block-loop-left
decreases-walk_block-loop-left g l = l.left

-- what is behind the rest was walked, and where it begins is known
abbrev pub invariant-walk_block-loop-left : goal.invariant-walk_block-loop-left
invariant-walk_block-loop-left g l = record {
  within : l.left ≤ length l.block;
  next : l.next ≡ first_node (drop l.left l.block);
  walked : (name : PolicyName) (Q : Option Formula) (cs : List Condition) → (l.aim.is_ordered ≡ true → Rises 0 (nodes_of_list l.block)) → StandsIf g.G.Precondition.stands l.fn.behind Q → AreFound g.G.Precondition.stands name l.initial.found.items cs →
      let part = part_of (g.P.Policy.need_of l.aim.policy.now l.aim.program.now) (g.P.Policy.effect_of l.aim.policy.now l.aim.program.now) (g.P.Policy.known_of l.aim.policy.now) l.aim.annotations.now in
      StandsIf g.G.Precondition.stands l.goal (before_list l.aim.program.now part l.aim.target (drop l.left l.block) Q)
      × AreFound g.G.Precondition.stands name l.found.items (list_conditions l.aim.program.now name part l.aim.target l.hypotheses (drop l.left l.block) Q ++ cs);
}
