use Rattle.std.proofs.Common.{rules, [], ◌∷◌}
use Rattle.std.proofs.lemmas.Int.{to_z-of_z}
use Rattle.ac_run.specs.Memory.{scalar}
use Rattle.ac_run.specs.Evaluation.{both, value_of}
use Rattle.ac_run.specs.Run.{Compare, go_to, written}
use Rattle.ac_evaluation.specs.Numbers.{numbers_of, numbers_of_both}
use Rattle.ac_stepper.proofs.Planning.{assigns_first, stop_plans}
use Rattle.ac_stepper.proofs.statement.begin_for.Goals as goal

pub returns-in-Ok : goal.returns-in-Ok
returns-in-Ok c =
    assigns_first c.args.store.now.program c.args.store.now.start c.args.store.now.memory (both (value_of c.args.store.now.program c.args.store.now.start c.args.store.now.memory c.args.lo.now.kind) (value_of c.args.store.now.program c.args.store.now.start c.args.store.now.memory c.args.hi.now.kind))
    (numbers_of_both (numbers_of c.args.store.now.program c.args.store.now.start c.args.store.now.memory c.args.lo.now.kind) (value_of c.args.store.now.program c.args.store.now.start c.args.store.now.memory c.args.lo.now.kind) (numbers_of c.args.store.now.program c.args.store.now.start c.args.store.now.memory c.args.hi.now.kind))
    _ _ c.new-events.ensures.items c.args.name.now (λ a. Compare c.args.name.now a.1 c.args.body.now) (λ a. a.0) c.in-Ok.ends _ _ c.writes_scalar.result c.in-Ok.ensures c.writes_scalar.ensures (search (rules, to_z-of_z)) (search (rules, to_z-of_z))

pub returns-in-Err : goal.returns-in-Err
returns-in-Err c =
    stop_plans c.args.store.now.program c.args.store.now.start c.args.store.now.memory (both (value_of c.args.store.now.program c.args.store.now.start c.args.store.now.memory c.args.lo.now.kind) (value_of c.args.store.now.program c.args.store.now.start c.args.store.now.memory c.args.hi.now.kind))
    (numbers_of_both (numbers_of c.args.store.now.program c.args.store.now.start c.args.store.now.memory c.args.lo.now.kind) (value_of c.args.store.now.program c.args.store.now.start c.args.store.now.memory c.args.lo.now.kind) (numbers_of c.args.store.now.program c.args.store.now.start c.args.store.now.memory c.args.hi.now.kind))
    _ _ c.new-events.ensures.items (λ a d. go_to (Compare c.args.name.now a.1 c.args.body.now ∷ []) (written c.args.store.now.program c.args.store.now.start (scalar c.args.name.now) a.0 d)) _ c.stops.result c.in-Err.ensures c.stops.ensures
