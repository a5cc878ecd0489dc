use Rattle.ac_program_printer.proofs.PrintRules.{header_written}
use Rattle.ac_program_printer.proofs.print_statement.write_header.Goals as goal

pub returns : goal.returns
returns c = header_written _ _ _ _ _ _ _ _ _ _ c.in_ok-write_indent.ensures c.in_ok-push_str.ensures.bytes c.text.ensures c.in_ok-push_str-2.ensures.bytes c.in_ok-write_bounds.ensures
