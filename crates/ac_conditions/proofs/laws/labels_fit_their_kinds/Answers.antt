-- The clause is the lemma.
use Rattle.ac_conditions.proofs.ConditionsFit.{labels_fit}
use Rattle.ac_conditions.proofs.laws.labels_fit_their_kinds.Goals as goal

pub returns : goal.returns
returns g = labels_fit
