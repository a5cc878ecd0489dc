use Rattle.std.proofs.Common.{rules}
use Rattle.std.proofs.lemmas.Int.{to_z-of_z}
use Rattle.ac_stepper.proofs.Planning.{advance_plans, advance_stops}
use Rattle.ac_stepper.proofs.task.advance.Goals as goal

pub returns-in-Ok-successor : goal.returns-in-Ok-successor
returns-in-Ok-successor c =
    advance_plans c.args.store.now.program c.args.store.now.start c.args.store.now.memory c.args.name.now c.args.hi c.args.body.now c.in-Ok.variable c.in-Ok.ensures _ c.new-events.ensures.items c.writes_scalar.result _ c.in-Ok-successor.number _ c.in-Ok-successor.ensures c.writes_scalar.ensures (search (rules, to_z-of_z)) (search (rules, to_z-of_z))

pub returns : goal.returns
returns c =
    advance_stops c.args.store.now.program c.args.store.now.start c.args.store.now.memory c.args.name.now c.args.hi c.args.body.now c.in-Ok.variable c.in-Ok.ensures _ c.new-events.ensures.items c.stops.result _ c.in-Err.ensures c.stops.ensures
