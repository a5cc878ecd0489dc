use Rattle.std.proofs.Common.{codes}
use Rattle.ac_program_printer.proofs.PrintRules.{first_longer}
use Rattle.ac_program_printer.proofs.print_program.print.Goals as goal

pub write_block-requires : goal.write_block-requires
write_block-requires c = first_longer 0 _ _ (codes "begin") c.in_ok-write_line.ensures
