use Rattle.std.proofs.Common.{drop}
use Rattle.ac_program_printer.specs.Names.{FitsItems}
use Rattle.ac_program_printer.proofs.numbers.fit_items.Given as goal

-- all fit where what is left fits
abbrev pub invariant-loop-item : goal.invariant-loop-item
invariant-loop-item l = FitsItems (drop l.item-index l.items) → FitsItems l.items
