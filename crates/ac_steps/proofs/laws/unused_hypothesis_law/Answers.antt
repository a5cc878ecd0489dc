use Rattle.ac_steps.proofs.Wider.{unused_hypothesis}
use Rattle.ac_steps.proofs.laws.unused_hypothesis_law.Goals as goal

pub returns : goal.returns
returns c = unused_hypothesis
