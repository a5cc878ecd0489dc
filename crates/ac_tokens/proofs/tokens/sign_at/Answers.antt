use Rattle.std.proofs.Common.{arith, ◌≡◌, ◌+◌, drop, sym, ap, ◌∙◌, get_or, Some, None}
use Rattle.std.proofs.lemmas.List.{take_rest}
use Rattle.ac_tree.specs.declared.token.ByteKind.TheVariants.{Lone}
use Rattle.ac_tree.specs.declared.token.Mark.TheVariants as mark
use Rattle.ac_tree.specs.Tokens.{token, kind_of_byte}
use Rattle.ac_tokens.specs.Runs.{joined_with}
use Rattle.ac_tokens.proofs.Placed.{joined_cut, joined_within, lone_cut, token_piece_is}
use Rattle.ac_tokens.proofs.tokens.sign_at.Goals as goal

pub returns-in-Some-default-clause-piece : goal.returns-in-Some-default-clause-piece
returns-in-Some-default-clause-piece c =
    let joined : joined_with (kind_of_byte (get_or c.args.bytes.now c.args.at 0)) (drop (c.args.at + 1) c.args.bytes.now) ≡ Some c.in-Some-default.sign =
    ap (λ k. joined_with k (drop (c.args.at + 1) c.args.bytes.now)) (sym c.of-kind.ensures) ∙ (ap (joined_with c.of-kind.result) (sym (take_rest c.args.bytes.now (c.args.at + 1))) ∙ (sym c.joined_sign.ensures ∙ c.in-Some-default.is-0)) in
    token_piece_is c.args.bytes.now c.args.at (c.args.at + 2) (token (mark.Sign c.in-Some-default.sign) c.args.at (c.args.at + 2)) c.token_piece.result
    c.token_piece.ensures.token c.token_piece.ensures.end
    (joined_cut c.args.bytes.now c.args.at c.in-Some-default.sign c.requires.within joined)
    (omega arith) (joined_within c.args.bytes.now c.args.at _ c.in-Some-default.sign joined) (tt, tt)

pub returns-in-None-Lone-clause-piece : goal.returns-in-None-Lone-clause-piece
returns-in-None-Lone-clause-piece c =
    let lone : kind_of_byte (get_or c.args.bytes.now c.args.at 0) ≡ Lone c.in-None-Lone.sign = sym c.of-kind.ensures ∙ c.in-None-Lone.is-1 in
    let alone : joined_with (Lone c.in-None-Lone.sign) (drop (c.args.at + 1) c.args.bytes.now) ≡ None =
    ap (λ k. joined_with k (drop (c.args.at + 1) c.args.bytes.now)) (sym c.in-None-Lone.is-1) ∙ (ap (joined_with c.of-kind.result) (sym (take_rest c.args.bytes.now (c.args.at + 1))) ∙ (sym c.joined_sign.ensures ∙ c.in-None-Lone.is-0)) in
    token_piece_is c.args.bytes.now c.args.at (c.args.at + 1) (token (mark.Sign c.in-None-Lone.sign) c.args.at (c.args.at + 1)) c.token_piece-in-None-Lone.result
    c.token_piece-in-None-Lone.ensures.token c.token_piece-in-None-Lone.ensures.end
    (lone_cut c.args.bytes.now c.args.at c.in-None-Lone.sign c.requires.within lone alone)
    (omega arith) (omega arith) (tt, tt)
