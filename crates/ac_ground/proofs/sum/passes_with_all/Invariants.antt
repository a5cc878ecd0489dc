use Rattle.std.proofs.Common.{◌≡◌, drop}
use Rattle.std.specs.List.{list_all}
use Rattle.ac_ground.specs.Sums.{sums_pass}
use Rattle.ac_ground.proofs.sum.passes_with_all.Given as goal

abbrev pub invariant-loop-other : goal.invariant-loop-other
invariant-loop-other l = list_all (sums_pass l.sum) (drop l.other-index l.others) ≡ list_all (sums_pass l.sum) l.others
