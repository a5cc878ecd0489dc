-- The clause is the lemma.
use Rattle.ac_conditions.proofs.NodesMarked.{needed_marked}
use Rattle.ac_conditions.proofs.laws.needs_give_subjects.Goals as goal

pub returns : goal.returns
returns g = needed_marked
