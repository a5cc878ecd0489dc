use Rattle.std.proofs.Common.{◌≡◌, take}
use Rattle.ac_formula_printer.specs.FormulaTokens.{literal_of}
use Rattle.ac_formula_reader.proofs.tokens.literal_of.Given as goal

abbrev pub invariant-loop-digit : goal.invariant-loop-digit
invariant-loop-digit l = l.number ≡ literal_of (take l.digit-index l.digits)
