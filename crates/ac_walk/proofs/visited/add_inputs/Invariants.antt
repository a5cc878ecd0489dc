use Rattle.std.proofs.Common.{◌≡◌, ◌++◌, drop}
use Rattle.ac_walk.specs.Walks.{inputs}
use Rattle.ac_walk.proofs.visited.add_inputs.Given as goal

-- the inputs so far, and those of the rest, are all
abbrev pub invariant-loop-item : goal.invariant-loop-item
invariant-loop-item l = l.found.items ++ inputs (drop l.item-index l.items) ≡ l.initial.found.items ++ inputs l.items
