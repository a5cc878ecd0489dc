-- The two directions are the lemmas.
use Rattle.ac_flow.specs.Cuts.{has_barrier}
use Rattle.ac_flow.specs.Pairs.{is_subject}
use Rattle.ac_conditions.proofs.PairsOfConditions.{conditions_paired, pairs_conditioned}
use Rattle.ac_conditions.proofs.laws.conditions_follow_pairs.Goals as goal

pub returns : goal.returns
returns g = λ p policy part cuts subject barriers marked c t.
    (conditions_paired p policy part (has_barrier cuts) (is_subject subject) barriers marked c t, pairs_conditioned p policy part (has_barrier cuts) (is_subject subject) barriers marked c t)
