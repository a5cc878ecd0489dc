use Rattle.std.proofs.Common.{◌∙◌}
use Rattle.ac_pattern_tokens.proofs.NamesAt.{sign_text, sign_piece, no_sign_piece}
use Rattle.ac_pattern_tokens.proofs.cutting.metavariable_at.Goals as goal

pub returns-in-None : goal.returns-in-None
returns-in-None c = no_sign_piece c.args.bytes.now c.args.at c.requires.within c.requires.sign c.in-None.ensures

pub ascii_text-requires : goal.ascii_text-requires
ascii_text-requires c = sign_text c.args.bytes.now c.args.at c.in-Some.end c.requires.within c.requires.sign c.in-Some.ensures

pub returns : goal.returns
returns c = sign_piece c.args.bytes.now c.args.at c.in-Some.end c.in_ok-name.name c.requires.within c.requires.sign c.in-Some.ensures (c.in_ok-name.ensures ∙ c.ascii_text.ensures)
