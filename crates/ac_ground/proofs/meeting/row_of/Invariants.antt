use Rattle.std.proofs.Common.{◌≡◌, ◌++◌, drop, map}
use Rattle.ac_ground.specs.Table.{meet}
use Rattle.ac_ground.proofs.meeting.row_of.Given as goal

abbrev pub invariant-loop-other : goal.invariant-loop-other
invariant-loop-other l = l.bits ++ map (meet l.valuation l.index) (drop l.other-index l.indexes) ≡ map (meet l.valuation l.index) l.indexes
