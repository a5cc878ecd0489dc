use Rattle.ac_steps.proofs.Contradictions.{goal_step}
use Rattle.ac_steps.proofs.laws.comparison_law.Goals as goal

pub returns : goal.returns
returns c = goal_step
