use Rattle.std.proofs.Common.{List, subst}
use Rattle.ac_tree.specs.declared.program.Item.{Item}
use Rattle.ac_tree.specs.declared.program.Stmt.{Stmt}
use Rattle.ac_program_printer.specs.Names.{FitsItems, FitsList}
use Rattle.ac_program_printer.proofs.Fits.{printable}
use Rattle.ac_program_printer.proofs.PrintPrograms.{program_reads_back}
use Rattle.ac_program_printer.proofs.laws.a_printed_program_reads_back.Goals as goal

pub returns : goal.returns
returns c = λ n h.
    program_reads_back c.args.program.now n
    (printable c.args.program.now h
    (subst (λ (l : List Item). FitsItems l) c.as_slice.ensures c.fit_items.ensures)
    (subst (λ (l : List Stmt). FitsList l) c.as_slice-2.ensures c.fit_block.ensures))
