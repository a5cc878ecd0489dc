-- The clause is the lemma.
use Rattle.ac_conditions.proofs.BarriersOfCuts.{barriers_of_places}
use Rattle.ac_conditions.proofs.laws.places_give_barriers_of_cuts.Goals as goal

pub returns : goal.returns
returns g = barriers_of_places
