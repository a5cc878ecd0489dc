use Rattle.ac_parse.proofs.OneProgram.{one_spelled}
use Rattle.ac_parse.proofs.laws.bytes_spell_at_most_one_program.Goals as goal

pub returns : goal.returns
returns c = one_spelled
