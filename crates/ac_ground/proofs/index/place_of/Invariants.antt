use Rattle.std.proofs.Common.{◌≡◌, false, take}
use Rattle.std.specs.List.{list_any}
use Rattle.ac_ground.specs.Table.{index, index_eq}
use Rattle.ac_ground.proofs.index.place_of.Given as goal

abbrev pub invariant-loop-place : goal.invariant-loop-place
invariant-loop-place l = list_any (index_eq (index l.array l.term)) (take l.place l.indexes) ≡ false
