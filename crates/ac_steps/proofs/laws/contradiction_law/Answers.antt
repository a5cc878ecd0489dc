use Rattle.ac_steps.proofs.Contradictions.{false_step}
use Rattle.ac_steps.proofs.laws.contradiction_law.Goals as goal

pub returns : goal.returns
returns c = false_step
