use Rattle.std.proofs.Common.{◌≡◌, drop}
use Rattle.std.specs.List.{list_all}
use Rattle.ac_ground.specs.Table.{agrees}
use Rattle.ac_ground.proofs.meeting.is_agreed_with_all.Given as goal

abbrev pub invariant-loop-other : goal.invariant-loop-other
invariant-loop-other l = list_all (λ q. agrees l.valuation l.read.cell q.cell) (drop l.other-index l.others) ≡ list_all (λ q. agrees l.valuation l.read.cell q.cell) l.others
