use Rattle.std.proofs.Common.{arith, ◌≡◌, ◌+◌, ◌-◌, ◌≤◌, drop, take, refl, subst, sym, get_or, [], ◌∷◌}
use Rattle.ac_tree.specs.declared.token.Mark.TheVariants as mark
use Rattle.ac_tree.specs.Tokens.{token, Lexes, number_of}
use Rattle.ac_tokens.proofs.Placed.{literal_cut, zero_fault, digits_stand, token_piece_is}
use Rattle.ac_tokens.proofs.tokens.literal_at.Goals as goal
use Rattle.ac_tokens.proofs.tokens.literal_at.Goals.{else-bytes-at-eq48-via-then-bytes-at-eq48+else-end-at, else-bytes-at-eq48-via-else-bytes-at-eq48}

pub returns-then-end-at-clause-fault : goal.returns-then-end-at-clause-fault
returns-then-end-at-clause-fault c =
    (refl, zero_fault c.args.bytes.now c.args.at c.run_end-end.result c.requires.within c.if-bytes-at-eq48.true c.if-end-at.true c.run_end-end.ensures)

pub small_number-requires : goal.small_number-requires
small_number-requires c = digits_stand c.args.bytes.now c.args.at c.run_end-end.result c.requires.within c.requires.digit c.run_end-end.ensures

pub returns-in-Some-clause-piece : goal.returns-in-Some-clause-piece
returns-in-Some-clause-piece c =
    let ahead : c.args.at + 1 ≤ c.run_end-end.result = c.run_end-end.ensures.ahead in
    let short : get_or c.args.bytes.now c.args.at 0 ≡ 48 → c.run_end-end.result ≤ c.args.at + 1 =
    elim c.else-bytes-at-eq48.branch [
      | else-bytes-at-eq48-via-then-bytes-at-eq48+else-end-at w ↦ λ z. omega arith
      | else-bytes-at-eq48-via-else-bytes-at-eq48 w ↦ λ z. absurd (omega arith)
    ] in
    let known = c.in-Some.ensures in
    token_piece_is c.args.bytes.now c.args.at c.run_end-end.result (token (mark.Literal c.in-Some.number) c.args.at c.run_end-end.result) c.token_piece.result
    c.token_piece.ensures.token c.token_piece.ensures.end
    (subst (λ n. Lexes c.args.at (drop c.args.at c.args.bytes.now) (token (mark.Literal n) c.args.at c.run_end-end.result ∷ []) c.run_end-end.result (drop c.run_end-end.result c.args.bytes.now))
    (sym known.0)
    (literal_cut c.args.bytes.now c.args.at c.run_end-end.result c.requires.within c.requires.digit c.run_end-end.ensures short))
    (omega arith) c.run_end-end.ensures.inside (known.1, tt)

pub returns-in-None-clause-fault : goal.returns-in-None-clause-fault
returns-in-None-clause-fault c =
    let short : get_or c.args.bytes.now c.args.at 0 ≡ 48 → c.run_end-end.result ≤ c.args.at + 1 =
    elim c.else-bytes-at-eq48.branch [
      | else-bytes-at-eq48-via-then-bytes-at-eq48+else-end-at w ↦ λ z. omega arith
      | else-bytes-at-eq48-via-else-bytes-at-eq48 w ↦ λ z. absurd (omega arith)
    ] in (
      refl,
      (
        number_of (take (c.run_end-end.result - c.args.at) (drop c.args.at c.args.bytes.now)),
        c.run_end-end.result,
        drop c.run_end-end.result c.args.bytes.now,
        c.in-None.ensures,
        literal_cut c.args.bytes.now c.args.at c.run_end-end.result c.requires.within c.requires.digit c.run_end-end.ensures short,
      ),
    )
