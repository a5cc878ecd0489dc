-- The clause is the lemma.
use Rattle.ac_flow.specs.Cuts.{has_barrier}
use Rattle.ac_flow.specs.Pairs.{is_subject}
use Rattle.ac_conditions.proofs.OneOrder.{one_order}
use Rattle.ac_conditions.proofs.laws.conditions_stand_in_order.Goals as goal

pub returns : goal.returns
returns g = λ p policy part cuts subject numbered barriers marked. one_order p policy part (has_barrier cuts) (is_subject subject) numbered barriers marked
