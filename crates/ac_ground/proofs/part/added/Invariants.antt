use Rattle.std.proofs.Common.{◌≡◌, drop}
use Rattle.ac_ground.specs.Numbers.{added}
use Rattle.ac_ground.proofs.part.added.Given as goal

abbrev pub invariant-loop-part : goal.invariant-loop-part
invariant-loop-part l = added l.sum (drop l.part-index l.rest) ≡ added l.fn.first l.rest
