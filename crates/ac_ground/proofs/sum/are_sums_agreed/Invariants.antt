use Rattle.std.proofs.Common.{◌≡◌, drop}
use Rattle.std.specs.List.{list_all}
use Rattle.ac_ground.specs.Sums.{sums_pass}
use Rattle.ac_ground.proofs.sum.are_sums_agreed.Given as goal

abbrev pub invariant-loop-sum : goal.invariant-loop-sum
invariant-loop-sum l = list_all (λ a. list_all (sums_pass a) l.sums) (drop l.sum-index l.sums) ≡ list_all (λ a. list_all (sums_pass a) l.sums) l.sums
