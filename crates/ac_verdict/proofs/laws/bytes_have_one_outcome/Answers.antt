use Rattle.ac_verdict.proofs.OneOutcome.{one_outcome}
use Rattle.ac_verdict.proofs.laws.bytes_have_one_outcome.Goals as goal

pub returns : goal.returns
returns c = one_outcome
