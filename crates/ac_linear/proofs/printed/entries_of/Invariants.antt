use Rattle.std.proofs.Common.{◌≡◌, map, take}
use Rattle.ac_linear.specs.Combination.{entry_of_part}
use Rattle.ac_linear.proofs.printed.entries_of.Given as goal

abbrev pub invariant-loop-part : goal.invariant-loop-part
invariant-loop-part l = l.items.items ≡ map entry_of_part (take l.part-index l.parts)
