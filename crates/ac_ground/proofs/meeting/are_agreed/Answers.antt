use Rattle.std.specs.List.{list_all}
use Rattle.ac_ground.specs.Table.{agrees}
use Rattle.ac_ground.proofs.Once.{all_next}
use Rattle.ac_ground.proofs.meeting.are_agreed.Goals as goal

pub loop-read-preserved : goal.loop-read-preserved
loop-read-preserved c =
    all_next (λ p. list_all (λ q. agrees c.args.valuation.now p.cell q.cell) c.args.reads.now) c.args.reads.now c.loop-read.read-index c.read-item.result c.in_ok-is_agreed_with_all.field-0 c.loop-read-test.true c.read-item.is c.if-not-branch.false c.in_ok-is_agreed_with_all.ensures c.loop-read.invariant
