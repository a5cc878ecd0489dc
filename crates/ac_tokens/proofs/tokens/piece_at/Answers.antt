use Rattle.ac_tokens.proofs.Placed.{blank_piece}
use Rattle.ac_tokens.proofs.tokens.piece_at.Goals as goal

pub returns-in-Blank-clause-piece : goal.returns-in-Blank-clause-piece
returns-in-Blank-clause-piece c = blank_piece c.args.bytes.now c.args.at c.of.result c.blank.result c.requires.within c.of.ensures c.in-Blank.is c.blank.ensures
