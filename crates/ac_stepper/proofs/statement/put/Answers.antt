use Rattle.std.proofs.Common.{rules}
use Rattle.std.proofs.lemmas.Int.{to_z-of_z}
use Rattle.ac_run.specs.Evaluation.{both, value_of, indexes_of}
use Rattle.ac_run.specs.Run.{written}
use Rattle.ac_evaluation.specs.Numbers.{numbers_of, numbers_of_index, numbers_of_both}
use Rattle.ac_stepper.proofs.Planning.{assigns, stop_plans}
use Rattle.ac_stepper.proofs.statement.put.Goals as goal

pub returns-in-Ok : goal.returns-in-Ok
returns-in-Ok c =
    assigns c.args.store.now.program c.args.store.now.start c.args.store.now.memory (both (indexes_of c.args.store.now.program c.args.store.now.start c.args.store.now.memory c.args.index.now) (value_of c.args.store.now.program c.args.store.now.start c.args.store.now.memory c.args.value.now.kind))
    (numbers_of_both (numbers_of_index c.args.store.now.program c.args.store.now.start c.args.store.now.memory c.args.index.now) (indexes_of c.args.store.now.program c.args.store.now.start c.args.store.now.memory c.args.index.now) (numbers_of c.args.store.now.program c.args.store.now.start c.args.store.now.memory c.args.value.now.kind))
    _ _ c.new-events.ensures.items (λ a. record { name = c.args.name.now; i = a.0.0; j = a.0.1 }) (λ a. a.1) c.in-Ok.found _ _ c.writes_element.result c.in-Ok.ensures c.writes_element.ensures (search (rules, to_z-of_z)) (search (rules, to_z-of_z))

pub returns-in-Err : goal.returns-in-Err
returns-in-Err c =
    stop_plans c.args.store.now.program c.args.store.now.start c.args.store.now.memory (both (indexes_of c.args.store.now.program c.args.store.now.start c.args.store.now.memory c.args.index.now) (value_of c.args.store.now.program c.args.store.now.start c.args.store.now.memory c.args.value.now.kind))
    (numbers_of_both (numbers_of_index c.args.store.now.program c.args.store.now.start c.args.store.now.memory c.args.index.now) (indexes_of c.args.store.now.program c.args.store.now.start c.args.store.now.memory c.args.index.now) (numbers_of c.args.store.now.program c.args.store.now.start c.args.store.now.memory c.args.value.now.kind))
    _ _ c.new-events.ensures.items (λ a. written c.args.store.now.program c.args.store.now.start (record { name = c.args.name.now; i = a.0.0; j = a.0.1 }) a.1) _ c.stops.result c.in-Err.ensures c.stops.ensures
