use Rattle.std.proofs.Common.{arith}
use Rattle.ac_tokens.specs.declared.run.Run.TheVariants.{Name}
use Rattle.ac_formula_reader.proofs.Pieces.{run_rest, word_ascii, word_first}
use Rattle.ac_formula_reader.proofs.tokens.word.Goals as goal

pub word_mark-requires : goal.word_mark-requires
word_mark-requires c =
    let bytes = c.args.bytes.now in
    let n = c.run_length-len.result in
    word_ascii bytes n c.requires.within c.requires.letter (run_rest Name bytes n c.requires.within c.run_length-len.ensures).0

pub returns : goal.returns
returns c =
    let bytes = c.args.bytes.now in
    let n = c.run_length-len.result in
    let run = run_rest Name bytes n c.requires.within c.run_length-len.ensures in
    (word_first bytes n c.in_ok-mark.mark c.requires.within c.requires.letter run.0 c.in_ok-mark.ensures, omega arith, run.1)
