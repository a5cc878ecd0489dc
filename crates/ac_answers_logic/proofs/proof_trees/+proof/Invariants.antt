use Rattle.std.proofs.Common.{◌<◌}
use Rattle.ac_answers_logic.proofs.proof_trees.+proof.Given as goal

abbrev pub decreases-proof : goal.decreases-proof
decreases-proof l = l.levels

abbrev pub invariant-loop-premise : goal.invariant-loop-premise
invariant-loop-premise l = 0 < l.levels
