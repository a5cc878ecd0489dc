use Rattle.std.proofs.Common.{◌≡◌, ◌++◌, drop}
use Rattle.ac_ground.specs.Sums.{sums_of}
use Rattle.ac_ground.proofs.sum.sums_of.Given as goal

abbrev pub invariant-loop-pair : goal.invariant-loop-pair
invariant-loop-pair l = l.sums ++ sums_of l.valuation (drop l.pair-index l.pairs) ≡ sums_of l.valuation l.pairs
