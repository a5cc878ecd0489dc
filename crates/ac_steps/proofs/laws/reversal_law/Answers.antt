use Rattle.ac_steps.proofs.Contradictions.{reversed_says}
use Rattle.ac_steps.proofs.laws.reversal_law.Goals as goal

pub returns : goal.returns
returns c = reversed_says
