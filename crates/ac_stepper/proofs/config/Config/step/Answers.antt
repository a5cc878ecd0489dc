use Rattle.std.proofs.Common.{◌≡◌, List, ◌∷◌, ap, sym, ◌∙◌, subst}
use Rattle.std.specs.Prelude.{Err}
use Rattle.ac_stepper.specs.Steps.{Steps}
use Rattle.ac_stepper.specs.declared.pending.Pending.{Pending}
use Rattle.ac_stepper.specs.Running.{Running}
use Rattle.ac_stepper.specs.Tasks.{first_of, tasks_of, rest_of}
use Rattle.ac_stepper.proofs.Stepping.{halted_steps, ended_steps, made_steps_at, refused_steps}
use Rattle.ac_stepper.proofs.config.Config.step.Goals as goal

pub returns-then-self : goal.returns-then-self
returns-then-self c =
    let run : Running = record { program = c.self.inside.store.program; start = c.self.inside.store.start; now = record { tasks = tasks_of c.self.inside.tasks.items; memory = c.self.inside.store.memory; trace = c.self.inside.trace.items; has_halted = c.self.inside.has_halted } } in
    rw (← c.self.view_is) (halted_steps run c.if-self.true)

pub returns-in_default : goal.returns-in_default
returns-in_default c =
    let run : Running = record { program = c.self.inside.store.program; start = c.self.inside.store.start; now = record { tasks = tasks_of c.self.inside.tasks.items; memory = c.self.inside.store.memory; trace = c.self.inside.trace.items; has_halted = c.self.inside.has_halted } } in
    rw (← c.self.view_is) (ended_steps run c.if-self.false (ap tasks_of (sym c.as_slice.ensures.value) ∙ c.in_default.ensures))

pub returns-in-Ok : goal.returns-in-Ok
returns-in-Ok c =
    let run : Running = record { program = c.self.inside.store.program; start = c.self.inside.store.start; now = record { tasks = tasks_of c.self.inside.tasks.items; memory = c.self.inside.store.memory; trace = c.self.inside.trace.items; has_halted = c.self.inside.has_halted } } in
    let same : c.as_slice.result.now ≡ c.self.inside.tasks.items = c.as_slice.ensures.value in
    let next : tasks_of c.self.inside.tasks.items ≡ first_of c.in-Some.task ∷ rest_of (tasks_of c.self.inside.tasks.items) =
    ap tasks_of (sym same) ∙ c.in-Some.ensures ∙ ap (λ (ts : List Pending). first_of c.in-Some.task ∷ rest_of (tasks_of ts)) same in
    made_steps_at run c.args.self.now c.self.view_is (first_of c.in-Some.task) c.if-self.false next _ c.in-Ok.change c.make.result c.in-Ok.ensures c.make.ensures

pub returns-in-Err : goal.returns-in-Err
returns-in-Err c =
    let run : Running = record { program = c.self.inside.store.program; start = c.self.inside.store.start; now = record { tasks = tasks_of c.self.inside.tasks.items; memory = c.self.inside.store.memory; trace = c.self.inside.trace.items; has_halted = c.self.inside.has_halted } } in
    let same : c.as_slice.result.now ≡ c.self.inside.tasks.items = c.as_slice.ensures.value in
    let next : tasks_of c.self.inside.tasks.items ≡ first_of c.in-Some.task ∷ rest_of (tasks_of c.self.inside.tasks.items) =
    ap tasks_of (sym same) ∙ c.in-Some.ensures ∙ ap (λ (ts : List Pending). first_of c.in-Some.task ∷ rest_of (tasks_of ts)) same in
    subst (λ (b : Running). Steps b (Err c.in-Err.fault) b) c.self.view_is (refused_steps run (first_of c.in-Some.task) c.if-self.false next c.in-Err.fault c.in-Err.ensures)
