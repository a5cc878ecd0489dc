use Rattle.std.proofs.Common.{◌≡◌, reverse, take}
use Rattle.ac_formula_printer.specs.FormulaText.{place_of}
use Rattle.ac_formula_machine.proofs.stack.find_name.Given as goal

abbrev pub invariant-loop-bound : goal.invariant-loop-bound
invariant-loop-bound l = l.place ≡ place_of l.name (reverse (take l.bound-index l.names))
