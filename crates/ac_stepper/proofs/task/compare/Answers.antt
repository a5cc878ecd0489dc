use Rattle.std.proofs.Common.{rules}
use Rattle.std.proofs.lemmas.Int.{to_z-of_z}
use Rattle.ac_stepper.proofs.Planning.{low_plans, high_plans}
use Rattle.ac_stepper.proofs.task.compare.Goals as goal

pub returns-then-is_low : goal.returns-then-is_low
returns-then-is_low c =
    low_plans c.args.store.now.program c.args.store.now.start c.args.store.now.memory c.args.name.now c.args.hi c.args.body.now c.in-Ok.variable c.in-Ok.ensures c.is_at_most-is_low.result _ c.enters_quietly.result (search (rules, c.is_at_most-is_low.ensures)) c.if-is_low.true c.enters_quietly.ensures (search (rules, to_z-of_z))

pub returns : goal.returns
returns c =
    high_plans c.args.store.now.program c.args.store.now.start c.args.store.now.memory c.args.name.now c.args.hi c.args.body.now c.in-Ok.variable c.in-Ok.ensures c.is_at_most-is_low.result c.enters_quietly-else-is_low.result (search (rules, c.is_at_most-is_low.ensures)) c.if-is_low.false c.enters_quietly-else-is_low.ensures
