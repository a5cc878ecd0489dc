use Rattle.std.proofs.Common.{◌≡◌, drop}
use Rattle.std.specs.List.{list_all}
use Rattle.ac_ground.specs.Table.{agrees}
use Rattle.ac_ground.proofs.meeting.are_agreed.Given as goal

abbrev pub invariant-loop-read : goal.invariant-loop-read
invariant-loop-read l = list_all (λ p. list_all (λ q. agrees l.valuation p.cell q.cell) l.reads) (drop l.read-index l.reads) ≡ list_all (λ p. list_all (λ q. agrees l.valuation p.cell q.cell) l.reads) l.reads
