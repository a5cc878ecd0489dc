use Rattle.std.proofs.Common.{◌≡◌, ◌++◌, drop}
use Rattle.ac_conditions.specs.Ranges.{ranges}
use Rattle.ac_targets.proofs.input_ranges.ranges.Given as goal

-- the ranges so far, and those of the rest, are all
abbrev pub invariant-loop-item : goal.invariant-loop-item
invariant-loop-item l = l.found.items ++ ranges l.program (drop l.item-index l.program.items) ≡ ranges l.program l.program.items
