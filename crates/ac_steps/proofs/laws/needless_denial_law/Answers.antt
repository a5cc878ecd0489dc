use Rattle.ac_steps.proofs.Contradictions.{unused_step}
use Rattle.ac_steps.proofs.laws.needless_denial_law.Goals as goal

pub returns : goal.returns
returns c = unused_step
