use Rattle.ac_parse.proofs.Parsed.{never_refused}
use Rattle.ac_parse.proofs.laws.a_program_within_the_limits_is_parsed.Goals as goal

pub returns : goal.returns
returns c = never_refused
