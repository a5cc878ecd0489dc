-- The clause is the lemma.
use Rattle.ac_labels.proofs.OnWalks.{labels_walked}
use Rattle.ac_labels.proofs.laws.labels_stand_on_walks.Goals as goal

pub returns : goal.returns
returns g p q need effect known annotations plain c i = labels_walked p q need effect known annotations plain.numbered plain.form plain.behind plain.unlabelled c i
