use Rattle.std.proofs.Common.{map, if◌then◌else◌, List}
use Rattle.std.proofs.lemmas.List.{append-nil}
use Rattle.std.proofs.Common.{ap, ◌∙◌}
use Rattle.ac_tree.specs.declared.program.Stmt.{Stmt}
use Rattle.ac_run.specs.Evaluation.{truth_of}
use Rattle.ac_run.specs.Run.{Do, go_to}
use Rattle.ac_evaluation.specs.Numbers.{numbers_of_condition}
use Rattle.ac_stepper.proofs.Planning.{enter_plans, stop_plans}
use Rattle.ac_stepper.proofs.statement.choose.Goals as goal

pub returns-in-Ok : goal.returns-in-Ok
returns-in-Ok c =
    enter_plans c.args.store.now.program c.args.store.now.start c.args.store.now.memory (truth_of c.args.store.now.program c.args.store.now.start c.args.store.now.memory c.args.test.now.kind)
    (numbers_of_condition c.args.store.now.program c.args.store.now.start c.args.store.now.memory c.args.test.now.kind)
    _ _ c.new-events.ensures.items (λ b. map Do (if b then c.args.yes.now else c.args.no.now)) c.in-Ok.holds _ c.enters.result c.in-Ok.ensures c.enters.ensures
    (append-nil _ ∙ ap (λ (sts : List Stmt). map Do sts) c.one_of.ensures)

pub returns-in-Err : goal.returns-in-Err
returns-in-Err c =
    stop_plans c.args.store.now.program c.args.store.now.start c.args.store.now.memory (truth_of c.args.store.now.program c.args.store.now.start c.args.store.now.memory c.args.test.now.kind)
    (numbers_of_condition c.args.store.now.program c.args.store.now.start c.args.store.now.memory c.args.test.now.kind)
    _ _ c.new-events.ensures.items (λ b. go_to (map Do (if b then c.args.yes.now else c.args.no.now))) _ c.stops.result c.in-Err.ensures c.stops.ensures
