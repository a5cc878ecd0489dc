-- The clause is the lemma.
use Rattle.ac_conditions.proofs.Barriers.{barriers_of}
use Rattle.ac_conditions.proofs.laws.annotations_give_barriers.Goals as goal

pub returns : goal.returns
returns g = λ annotations n. barriers_of n annotations
