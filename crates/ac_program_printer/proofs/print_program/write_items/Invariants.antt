use Rattle.std.proofs.Common.{◌≡◌, ◌++◌, drop, string_bytes}
use Rattle.ac_program_printer.specs.Printing.{items_text}
use Rattle.ac_program_printer.proofs.print_program.write_items.Given as goal

-- what the rest of the declarations adds makes the whole
abbrev pub invariant-loop-item : goal.invariant-loop-item
invariant-loop-item l = string_bytes l.out ++ items_text (drop l.item-index l.items) ≡ string_bytes l.initial.out ++ items_text l.items
