use Rattle.std.proofs.Common.{◌≡◌, ◌++◌, drop}
use Rattle.ac_ground.specs.Falsifies.{numbered}
use Rattle.ac_ground.proofs.sum.numbered.Given as goal

abbrev pub invariant-loop-part : goal.invariant-loop-part
invariant-loop-part l = l.parts ++ numbered l.valuation (drop l.part-index l.side) ≡ numbered l.valuation l.side
