use Rattle.ac_parse.proofs.SpelledPrints.{spelled_prints}
use Rattle.ac_parse.proofs.laws.a_parsed_program_prints_back.Goals as goal

pub returns : goal.returns
returns c = spelled_prints
