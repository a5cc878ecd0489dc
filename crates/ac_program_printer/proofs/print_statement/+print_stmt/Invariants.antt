use Rattle.std.proofs.Common.{◌≡◌, ◌≤◌, ◌++◌, drop, length, string_bytes}
use Rattle.ac_program_printer.specs.Printing.{list_text}
use Rattle.ac_program_printer.proofs.print_statement.+print_stmt.Given as goal

-- what the rest of the block adds makes the whole, and there are still as many bytes as blocks
abbrev pub invariant-write_block-loop-stmt : goal.invariant-write_block-loop-stmt
invariant-write_block-loop-stmt l = record {
  whole : string_bytes l.out ++ list_text l.fn.depth (drop l.stmt-index l.block) ≡ string_bytes l.initial.out ++ list_text l.fn.depth l.block;
  long : l.fn.depth ≤ length (string_bytes l.out);
}
