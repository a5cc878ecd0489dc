use Rattle.ac_parse.proofs.OneRefusal.{one_refusal}
use Rattle.ac_parse.proofs.laws.bytes_have_at_most_one_refusal.Goals as goal

pub returns : goal.returns
returns c = one_refusal
