use Rattle.ac_codes.proofs.OneMatch.{one_match}
use Rattle.ac_codes.proofs.laws.a_run_has_at_most_one_match.Goals as goal

pub returns : goal.returns
returns c = one_match
