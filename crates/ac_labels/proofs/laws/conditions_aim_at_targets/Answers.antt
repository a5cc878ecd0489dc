-- The clause is the lemma.
use Rattle.ac_labels.proofs.Aiming.{condition_aims}
use Rattle.ac_labels.proofs.laws.conditions_aim_at_targets.Goals as goal

pub returns : goal.returns
returns g = condition_aims
