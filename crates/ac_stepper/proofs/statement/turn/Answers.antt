use Rattle.std.proofs.Common.{map, if◌then◌else◌, List, [], ◌∷◌, ◌++◌}
use Rattle.std.proofs.Common.{ap, sym, Bool}
use Rattle.ac_run.specs.Evaluation.{truth_of}
use Rattle.ac_run.specs.Run.{Task, Do, go_to}
use Rattle.ac_evaluation.specs.Numbers.{numbers_of_condition}
use Rattle.ac_stepper.proofs.Planning.{enter_plans, stop_plans}
use Rattle.ac_stepper.proofs.statement.turn.Goals as goal

pub returns-then-holds : goal.returns-then-holds
returns-then-holds c =
    enter_plans c.args.store.now.program c.args.store.now.start c.args.store.now.memory (truth_of c.args.store.now.program c.args.store.now.start c.args.store.now.memory c.args.test.now.kind)
    (numbers_of_condition c.args.store.now.program c.args.store.now.start c.args.store.now.memory c.args.test.now.kind)
    _ _ c.new-events.ensures.items (λ b. if b then map Do c.args.body.now ++ Do c.args.again.now ∷ [] else []) c.in-Ok.holds _ c.enters.result c.in-Ok.ensures c.enters.ensures
    (ap (λ (b : Bool). let ts : List Task = if b then map Do c.args.body.now ++ Do c.args.again.now ∷ [] else [] in ts) (sym c.if-holds.true))

pub returns-else-holds : goal.returns-else-holds
returns-else-holds c =
    enter_plans c.args.store.now.program c.args.store.now.start c.args.store.now.memory (truth_of c.args.store.now.program c.args.store.now.start c.args.store.now.memory c.args.test.now.kind)
    (numbers_of_condition c.args.store.now.program c.args.store.now.start c.args.store.now.memory c.args.test.now.kind)
    _ _ c.new-events.ensures.items (λ b. if b then map Do c.args.body.now ++ Do c.args.again.now ∷ [] else []) c.in-Ok.holds _ c.enters-else-holds.result c.in-Ok.ensures c.enters-else-holds.ensures
    (ap (λ (b : Bool). let ts : List Task = if b then map Do c.args.body.now ++ Do c.args.again.now ∷ [] else [] in ts) (sym c.if-holds.false))

pub returns-in-Err : goal.returns-in-Err
returns-in-Err c =
    stop_plans c.args.store.now.program c.args.store.now.start c.args.store.now.memory (truth_of c.args.store.now.program c.args.store.now.start c.args.store.now.memory c.args.test.now.kind)
    (numbers_of_condition c.args.store.now.program c.args.store.now.start c.args.store.now.memory c.args.test.now.kind)
    _ _ c.new-events.ensures.items (λ b. go_to (if b then map Do c.args.body.now ++ Do c.args.again.now ∷ [] else [])) _ c.stops.result c.in-Err.ensures c.stops.ensures
