use Rattle.std.proofs.Common.{◌≡◌, ℕ, ◌++◌, List, drop}
use Rattle.ac_tree.specs.declared.path.Pair.{Pair}
use Rattle.ac_tree.specs.declared.path.Target.{Target}
use Rattle.ac_flow.specs.Pairs.{is_subject}
use Rattle.ac_logic.specs.declared.condition.Condition.{Condition}
use Rattle.ac_conditions.specs.AllConditions.{at_each}
use Rattle.ac_pair_count.specs.PairCount.{aimed_nodes}
use Rattle.ac_vcg.specs.Plan.{AreReached}
use Rattle.ac_vcg.proofs.plan.reached.Given as goal

-- the targets that are kept and those to come have all conditions
abbrev pub invariant-loop-target : goal.invariant-loop-target
invariant-loop-target l =
    (at : Target → List Condition) (pairs : List Pair) → ((n : ℕ) → is_subject l.fn.nodes n ≡ is_subject (aimed_nodes pairs) n) → AreReached at l.all pairs → at_each at l.kept.items ++ at_each at (drop l.target-index l.all) ≡ at_each at l.all
