use Rattle.std.proofs.Common.{◌≡◌, ◌++◌, drop, map}
use Rattle.ac_ground.specs.Table.{row}
use Rattle.ac_ground.proofs.meeting.all_rows.Given as goal

abbrev pub invariant-loop-index : goal.invariant-loop-index
invariant-loop-index l = l.all ++ map (row l.valuation l.indexes) (drop l.index-index l.indexes) ≡ map (row l.valuation l.indexes) l.indexes
