use Rattle.std.proofs.Common.{◌≡◌, drop}
use Rattle.ac_ground.specs.Sums.{pairs_off}
use Rattle.ac_ground.proofs.sum.can_be_paired.Given as goal

abbrev pub invariant-loop-part : goal.invariant-loop-part
invariant-loop-part l = pairs_off (drop l.part-index l.left) l.rest ≡ pairs_off l.left l.right
