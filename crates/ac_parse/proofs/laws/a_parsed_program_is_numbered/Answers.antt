use Rattle.std.proofs.Common.{sym, ◌∙◌, ap}
use Rattle.ac_tree.specs.Numbering.{numbered_program}
use Rattle.ac_numbering.proofs.NumberedTwice.{numbered_twice}
use Rattle.ac_parse.proofs.laws.a_parsed_program_is_numbered.Goals as goal

pub returns : goal.returns
returns c = λ bytes p s. s.numbers ∙ (sym (numbered_twice s.tree) ∙ ap numbered_program (sym s.numbers))
