use Rattle.std.proofs.Common.{arith, ◌≡◌, ◌+◌, ◌≤◌, drop, refl, subst, sym, ap, ◌∙◌, length, None, [], ◌∷◌}
use Rattle.ac_tree.specs.declared.limit.LimitKind.TheVariants as limit
use Rattle.ac_tree.specs.Limits.{limit_of}
use Rattle.ac_tree.specs.declared.token.Mark.TheVariants as mark
use Rattle.ac_tree.specs.Tokens.{token, Lexes, marked}
use Rattle.ac_tokens.specs.TokenFaults.{IsWithinLimits}
use Rattle.ac_tokens.proofs.ByteKinds.{names_ascii}
use Rattle.ac_tokens.proofs.Placed.{word_cut_as, name_stands, token_piece_is}
use Rattle.ac_tokens.proofs.tokens.word_at.Goals as goal
use Rattle.ac_tokens.proofs.tokens.word_at.Goals.{in-Some, in-None-2+in_ok-new-in-None-2}

pub ascii_text-word-requires : goal.ascii_text-word-requires
ascii_text-word-requires c = names_ascii _ (name_stands c.args.bytes.now c.args.at c.run_end-end.result c.requires.within c.requires.letter c.run_end-end.ensures)

pub returns-in-None-clause-fault : goal.returns-in-None-clause-fault
returns-in-None-clause-fault c = (
  refl,
  (
    c.ascii_text-word.result.now,
    c.run_end-end.result,
    drop c.run_end-end.result c.args.bytes.now,
    omega (arith, c.if-word-number.true, c.number.ensures),
    word_cut_as c.args.bytes.now c.args.at c.run_end-end.result c.ascii_text-word.result.now None c.requires.within c.requires.letter c.run_end-end.ensures
        c.ascii_text-word.ensures (sym c.in-None.is ∙ c.of.ensures),
  ),
)

pub returns-clause-piece : goal.returns-clause-piece
returns-clause-piece c =
    let ahead : c.args.at + 1 ≤ c.run_end-end.result = c.run_end-end.ensures.ahead in
    let known : (c.match-of.mark ≡ marked c.ascii_text-word.result.now c.of.result) × IsWithinLimits c.match-of.mark =
    elim c.match-of.branch [
      | in-Some w ↦ (w.mark-is ∙ ap (marked c.ascii_text-word.result.now) (sym w.in-Some.is), subst (λ m. IsWithinLimits m) (sym w.mark-is) tt)
      | in-None-2+in_ok-new-in-None-2 w ↦
          let named : w.in_ok-new-in-None-2.field-0 ≡ c.ascii_text-word.result.now = w.in_ok-new-in-None-2.ensures in (
            w.mark-is ∙ (ap mark.Name named ∙ ap (marked c.ascii_text-word.result.now) (sym w.in-None.is)),
            subst (λ m. IsWithinLimits m) (sym w.mark-is) (subst (λ n. length n ≤ limit_of limit.NameLength) (sym named) (omega (arith, w.if-word-number.false, w.number.ensures))),
          )
    ] in
    token_piece_is c.args.bytes.now c.args.at c.run_end-end.result (token c.match-of.mark c.args.at c.run_end-end.result) c.token_piece.result
    c.token_piece.ensures.token c.token_piece.ensures.end
    (subst (λ m. Lexes c.args.at (drop c.args.at c.args.bytes.now) (token m c.args.at c.run_end-end.result ∷ []) c.run_end-end.result (drop c.run_end-end.result c.args.bytes.now))
    (sym known.0)
    (word_cut_as c.args.bytes.now c.args.at c.run_end-end.result c.ascii_text-word.result.now c.of.result c.requires.within c.requires.letter c.run_end-end.ensures
    c.ascii_text-word.ensures c.of.ensures))
    (omega arith) c.run_end-end.ensures.inside (known.1, tt)
