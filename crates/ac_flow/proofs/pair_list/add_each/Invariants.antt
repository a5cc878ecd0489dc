use Rattle.std.proofs.Common.{◌≡◌, ◌++◌, drop}
use Rattle.ac_flow.specs.Pairs.{each}
use Rattle.ac_flow.proofs.pair_list.add_each.Given as goal

-- the pairs so far, and those of the rest, are all
abbrev pub invariant-loop-cut : goal.invariant-loop-cut
invariant-loop-cut l = l.found.items ++ each (drop l.cut-index l.cuts) l.target ≡ l.initial.found.items ++ each l.cuts l.target
