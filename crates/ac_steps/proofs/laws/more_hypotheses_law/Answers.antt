use Rattle.ac_steps.proofs.Wider.{more_hypotheses}
use Rattle.ac_steps.proofs.laws.more_hypotheses_law.Goals as goal

pub returns : goal.returns
returns c = more_hypotheses
