use Rattle.std.proofs.Common.{◌≡◌, ◌++◌, string_bytes}
use Rattle.ac_program_printer.specs.Printing.{indent}
use Rattle.ac_program_printer.proofs.print_statement.write_indent.Given as goal

abbrev pub invariant-loop : goal.invariant-loop
invariant-loop l = string_bytes l.out ≡ string_bytes l.initial.out ++ indent l.counter
