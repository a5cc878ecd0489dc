use Rattle.std.proofs.Common.{arith, sym, ap, ◌∙◌}
use Rattle.ac_pattern_tokens.specs.CodePieces.{is_letter}
use Rattle.ac_tokens.proofs.ByteKinds.{names_ascii}
use Rattle.ac_tokens.proofs.Placed.{name_stands}
use Rattle.ac_pattern_tokens.proofs.NamesAt.{letter_kind, no_byte, no_letter, reserved_word, long_word, name_stands_there}
use Rattle.ac_pattern_tokens.proofs.cutting.name_end.Goals as goal

pub returns-then-at-bytes : goal.returns-then-at-bytes
returns-then-at-bytes c = no_byte c.args.bytes.now c.args.at (omega (arith, c.if-at-bytes.true))

pub returns-then-not-is_letter : goal.returns-then-not-is_letter
returns-then-not-is_letter c =
    no_letter c.args.bytes.now c.args.at (omega (arith, c.if-at-bytes.false)) (ap is_letter (sym c.of.ensures) ∙ (sym c.is_letter.ensures ∙ c.if-not-is_letter.true))

pub ascii_text-word-requires : goal.ascii_text-word-requires
ascii_text-word-requires c =
    names_ascii _
    (name_stands c.args.bytes.now c.args.at c.word_end-end.result (omega (arith, c.if-at-bytes.false)) (letter_kind _ (ap is_letter (sym c.of.ensures) ∙ (sym c.is_letter.ensures ∙ c.if-not-is_letter.false)))
    c.word_end-end.ensures)

pub returns-in-Some : goal.returns-in-Some
returns-in-Some c =
    reserved_word c.args.bytes.now c.ascii_text-word.result.now c.args.at c.word_end-end.result c.in-Some.field-0 (omega (arith, c.if-at-bytes.false))
    (letter_kind _ (ap is_letter (sym c.of.ensures) ∙ (sym c.is_letter.ensures ∙ c.if-not-is_letter.false))) c.word_end-end.ensures c.ascii_text-word.ensures (sym c.in-Some.is ∙ c.of-2.ensures)

pub returns-in-None : goal.returns-in-None
returns-in-None c =
    long_word c.args.bytes.now c.ascii_text-word.result.now c.args.at c.word_end-end.result (omega (arith, c.if-at-bytes.false))
    (letter_kind _ (ap is_letter (sym c.of.ensures) ∙ (sym c.is_letter.ensures ∙ c.if-not-is_letter.false))) c.word_end-end.ensures c.ascii_text-word.ensures (sym c.in-None.is ∙ c.of-2.ensures)
    (omega (arith, c.if-word-number.true, c.number.ensures))

pub returns-in-None-2 : goal.returns-in-None-2
returns-in-None-2 c =
    name_stands_there c.args.bytes.now c.ascii_text-word.result.now c.args.at c.word_end-end.result (omega (arith, c.if-at-bytes.false))
    (letter_kind _ (ap is_letter (sym c.of.ensures) ∙ (sym c.is_letter.ensures ∙ c.if-not-is_letter.false))) c.word_end-end.ensures c.ascii_text-word.ensures (sym c.in-None.is ∙ c.of-2.ensures)
    (omega (arith, c.if-word-number.false, c.number.ensures))
