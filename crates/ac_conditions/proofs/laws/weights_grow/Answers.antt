-- The clauses are the lemmas.
use Rattle.ac_conditions.proofs.WeightsHold.{size_grows, depth_grows}
use Rattle.ac_conditions.proofs.laws.weights_grow.Goals as goal

pub returns-clause-size : goal.returns-clause-size
returns-clause-size c = size_grows

pub returns-clause-depth : goal.returns-clause-depth
returns-clause-depth c = depth_grows
