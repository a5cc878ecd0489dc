use Rattle.std.proofs.Common.{refl, rules}
use Rattle.std.proofs.lemmas.Int.{to_z-of_z}
use Rattle.ac_run.specs.Memory.{scalar}
use Rattle.ac_run.specs.Evaluation.{value_of}
use Rattle.ac_run.specs.Run.{written}
use Rattle.ac_evaluation.specs.Numbers.{numbers_of}
use Rattle.ac_stepper.proofs.Planning.{assigns, stop_plans}
use Rattle.ac_stepper.proofs.statement.set.Goals as goal

pub returns-in-Ok : goal.returns-in-Ok
returns-in-Ok c =
    assigns c.args.store.now.program c.args.store.now.start c.args.store.now.memory (value_of c.args.store.now.program c.args.store.now.start c.args.store.now.memory c.args.value.now.kind)
    (numbers_of c.args.store.now.program c.args.store.now.start c.args.store.now.memory c.args.value.now.kind)
    _ _ c.new-events.ensures.items (λ n. scalar c.args.name.now) (λ n. n) c.in-Ok.number (scalar c.args.name.now) _ c.writes_scalar.result c.in-Ok.ensures c.writes_scalar.ensures refl (search (rules, to_z-of_z))

pub returns-in-Err : goal.returns-in-Err
returns-in-Err c =
    stop_plans c.args.store.now.program c.args.store.now.start c.args.store.now.memory (value_of c.args.store.now.program c.args.store.now.start c.args.store.now.memory c.args.value.now.kind)
    (numbers_of c.args.store.now.program c.args.store.now.start c.args.store.now.memory c.args.value.now.kind)
    _ _ c.new-events.ensures.items (λ n. written c.args.store.now.program c.args.store.now.start (scalar c.args.name.now) n) _ c.stops.result c.in-Err.ensures c.stops.ensures
