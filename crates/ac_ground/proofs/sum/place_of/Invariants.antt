use Rattle.std.proofs.Common.{◌≡◌, false, take}
use Rattle.std.specs.List.{list_any}
use Rattle.ac_ground.specs.Sums.{part_eq}
use Rattle.ac_ground.proofs.sum.place_of.Given as goal

abbrev pub invariant-loop-place : goal.invariant-loop-place
invariant-loop-place l = list_any (part_eq l.part) (take l.place l.parts) ≡ false
