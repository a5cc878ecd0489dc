use Rattle.std.proofs.Common.{subst, sym}
use Rattle.std.proofs.lemmas.Result.{IfOk-weaker}
use Rattle.ac_pattern_tokens.specs.CodePieces.{IsCodePieceAt}
use Rattle.ac_pattern_tokens.proofs.NamesAt.{plain_piece, no_piece}
use Rattle.ac_pattern_tokens.proofs.cutting.plain_at.Goals as goal

pub returns-in-Ok : goal.returns-in-Ok
returns-in-Ok c = plain_piece c.args.bytes.now c.args.at c.in-Ok.piece c.in-Ok.ensures.piece

pub returns-in-Err : goal.returns-in-Err
returns-in-Err c =
    IfOk-weaker c.nothing_at.result _ _
    (λ piece h. subst (λ q. IsCodePieceAt c.args.bytes.now c.args.at q) (sym h.0) (no_piece c.args.bytes.now c.args.at c.in-Err.fault c.requires.within c.requires.plain h.1 c.in-Err.ensures.fault))
    c.nothing_at.ensures
