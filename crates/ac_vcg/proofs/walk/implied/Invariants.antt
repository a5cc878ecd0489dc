use Rattle.std.proofs.Common.{◌≤◌, ℕ, drop, length}
use Rattle.ac_logic.specs.declared.formula.Formula.{Formula}
use Rattle.ac_conditions.specs.Conditions.{implied_by}
use Rattle.ac_vcg.proofs.walk.implied.Given as goal

abbrev pub decreases-loop-left : goal.decreases-loop-left
decreases-loop-left g l = l.left

-- the goal stands under the hypotheses behind
abbrev pub invariant-loop-left : goal.invariant-loop-left
invariant-loop-left g l = record {
  within : l.left ≤ length l.hypotheses;
  made : (f : Formula) → g.G.Precondition.stands l.fn.goal f → g.G.Precondition.stands l.goal (implied_by (drop l.left l.hypotheses) f);
}
