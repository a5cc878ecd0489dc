-- The clauses are the lemmas.
use Rattle.ac_conditions.proofs.WeightsHold.{size_after, depth_after}
use Rattle.ac_conditions.proofs.laws.weights_law.Goals as goal

pub returns-clause-size : goal.returns-clause-size
returns-clause-size c = size_after

pub returns-clause-depth : goal.returns-clause-depth
returns-clause-depth c = depth_after
