use Rattle.std.proofs.Common.{drop}
use Rattle.ac_program_printer.specs.Names.{FitsList}
use Rattle.ac_program_printer.proofs.numbers.+fit_stmt.Given as goal

-- all fit where what is left fits
abbrev pub invariant-fit_block-loop-stmt : goal.invariant-fit_block-loop-stmt
invariant-fit_block-loop-stmt l = FitsList (drop l.stmt-index l.block) → FitsList l.block
