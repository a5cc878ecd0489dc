-- A change in the place of the next task is the step.
use Rattle.std.proofs.Common.{◌≡◌, Bool, true, false, if◌then◌else◌, List, [], ◌∷◌, ℤ, refl, sym, ap, ◌∙◌, subst}
use Rattle.std.specs.Prelude.{Result, Ok, Err, MatchResult, FitsSigned}
use Rattle.std.specs.Int.{w128}
use Rattle.std.proofs.lemmas.List.Elements.{All-nil}
use Rattle.ac_tree.specs.declared.program.Program.{Program}
use Rattle.ac_run.specs.declared.start.Start.{Start}
use Rattle.ac_run.specs.Run.{Task, Config, step, step_first, step_task}
use Rattle.ac_evaluation.specs.Evaluates.{AllFit}
use Rattle.ac_stepper.specs.declared.fault.StepFault.{StepFault}
use Rattle.ac_stepper.specs.declared.fault.StepFault.TheVariants as fault
use Rattle.ac_stepper.specs.declared.fault.Stepped.{Stepped}
use Rattle.ac_stepper.specs.declared.fault.Stepped.TheVariants.{Went, Halted, Ended}
use Rattle.ac_stepper.specs.declared.change.Change.{Change}
use Rattle.ac_stepper.specs.Running.{Running}
use Rattle.ac_stepper.specs.Tasks.{rest_of}
use Rattle.ac_stepper.specs.Numbers.{numbers_of_task, numbers_of_first, numbers_of_step}
use Rattle.ac_stepper.specs.Steps.{went_or_ended, ending, Steps}
use Rattle.ac_stepper.specs.Changes.{changed, Plans}

-- how a step ends that had a task
pub halts : (before after : Config) → after.has_halted ≡ true → Halted ≡ ending before after
halts before after is = sym (ap (λ (b : Bool). if b then Halted else went_or_ended before.tasks) is)

pub goes_on : (before after : Config) (t : Task) (rest : List Task) → before.tasks ≡ t ∷ rest → after.has_halted ≡ false → Went ≡ ending before after
goes_on before after t rest next is = sym (ap (λ (b : Bool). if b then Halted else went_or_ended before.tasks) is ∙ ap went_or_ended next)

module _ (p : Program) (start : Start) (c : Config) where
  pub halted_stays : c.has_halted ≡ true → step p start c ≡ c
  halted_stays is = ap (λ (b : Bool). if b then c else step_first p start c.tasks c) is

  pub ended_stays : c.tasks ≡ [] → step p start c ≡ c
  ended_stays is = ap (λ (ts : List Task). if c.has_halted then c else step_first p start ts c) is ∙ same c.has_halted
    where
      same : (b : Bool) → (if b then c else c) ≡ c
      same true = refl
      same false = refl

  pub halted_makes_none : c.has_halted ≡ true → numbers_of_step p start c ≡ []
  halted_makes_none is = ap (λ (b : Bool). if b then [] else numbers_of_first p start c.memory c.tasks) is

  abbrev none : List ℤ
  none = []

  pub ended_makes_none : c.tasks ≡ [] → numbers_of_step p start c ≡ []
  ended_makes_none is = ap (λ (ts : List Task). if c.has_halted then [] else numbers_of_first p start c.memory ts) is ∙ same c.has_halted
    where
      same : (b : Bool) → (if b then none else none) ≡ none
      same true = refl
      same false = refl

  module _ (t : Task) (going_on : c.has_halted ≡ false) (next : c.tasks ≡ t ∷ rest_of c.tasks) where
    pub numbers_are : numbers_of_step p start c ≡ numbers_of_task p start c.memory t
    numbers_are = ap (λ (b : Bool). if b then [] else numbers_of_first p start c.memory c.tasks) going_on ∙ ap (λ (ts : List Task). numbers_of_first p start c.memory ts) next

    pub change_is_step : (change : Change) → Plans p start (step_task p start t) (numbers_of_task p start c.memory t) c.memory (Ok change) →
        changed p start change (record c { tasks = rest_of c.tasks }) ≡ step p start c
    change_is_step change h =
        sym (ap (λ (b : Bool). if b then c else step_first p start c.tasks c) going_on
        ∙ ap (λ (ts : List Task). step_first p start ts c) next
        ∙ ap (λ (b : Bool). step_task p start t (record { tasks = rest_of c.tasks; memory = c.memory; trace = c.trace; has_halted = b })) going_on
        ∙ h.0 (rest_of c.tasks) c.trace)

    pub numbers_fit : (change : Change) → Plans p start (step_task p start t) (numbers_of_task p start c.memory t) c.memory (Ok change) → AllFit (numbers_of_step p start c)
    numbers_fit change h = subst AllFit (sym numbers_are) h.1

    pub too_wide : (e : StepFault) → Plans p start (step_task p start t) (numbers_of_task p start c.memory t) c.memory (Err e) → e ≡ fault.Wide → ¬ AllFit (numbers_of_step p start c)
    too_wide fault.Wide h is = λ fit. h (subst AllFit numbers_are fit)
    too_wide fault.OutOfMemory h is = absurd (cc is)

-- a call of `step`, by its ends

abbrev at_config : Running → Config → Running
at_config run c = record run { now = c }

pub halted_steps : (run : Running) → run.now.has_halted ≡ true → Steps run (Ok Halted) run
halted_steps run is = (
  ap (λ (c : Config). at_config run c) (sym (halted_stays run.program run.start run.now is)),
  halts run.now run.now is,
  subst AllFit (sym (halted_makes_none run.program run.start run.now is)) (All-nil (FitsSigned w128)),
)

pub ended_steps : (run : Running) → run.now.has_halted ≡ false → run.now.tasks ≡ [] → Steps run (Ok Ended) run
ended_steps run is none = (
  ap (λ (c : Config). at_config run c) (sym (ended_stays run.program run.start run.now none)),
  sym (ap (λ (b : Bool). if b then Halted else went_or_ended run.now.tasks) is ∙ ap went_or_ended none),
  subst AllFit (sym (ended_makes_none run.program run.start run.now none)) (All-nil (FitsSigned w128)),
)

-- a change was made in the place of the next task, or want of memory left the run as it was
abbrev IsMade : Running → Change → Result Stepped StepFault → Running → Type 0
IsMade before change res after =
    MatchResult res
    (λ stepped. (after ≡ record before { now = changed before.program before.start change (record before.now { tasks = rest_of before.now.tasks }) }) × (stepped ≡ (if after.now.has_halted then Halted else Went)))
    (λ e. (e ≡ fault.OutOfMemory) × (after ≡ before))

module _ (before : Running) (t : Task) (going_on : before.now.has_halted ≡ false) (next : before.now.tasks ≡ t ∷ rest_of before.now.tasks) where
  made_steps : (after : Running) (change : Change) (res : Result Stepped StepFault) →
      Plans before.program before.start (step_task before.program before.start t) (numbers_of_task before.program before.start before.now.memory t) before.now.memory (Ok change) →
      IsMade before change res after → Steps before res after
  made_steps after change (Ok stepped) plan made = (
    made.0 ∙ ap (λ (c : Config). at_config before c) (change_is_step before.program before.start before.now t going_on next change plan),
    made.1 ∙ ap (λ (s : Stepped). if after.now.has_halted then Halted else s) (sym (ap went_or_ended next)),
    numbers_fit before.program before.start before.now t going_on next change plan,
  )
  made_steps after change (Err fault.OutOfMemory) plan made = made.1
  made_steps after change (Err fault.Wide) plan made = absurd (cc made.0)

  pub refused_steps : (e : StepFault) →
      Plans before.program before.start (step_task before.program before.start t) (numbers_of_task before.program before.start before.now.memory t) before.now.memory (Err e) → Steps before (Err e) before
  refused_steps fault.Wide plan = (refl, too_wide before.program before.start before.now t going_on next fault.Wide plan refl)
  refused_steps fault.OutOfMemory plan = refl

pub made_steps_at : (run before : Running) → run ≡ before → (t : Task) → run.now.has_halted ≡ false → run.now.tasks ≡ t ∷ rest_of run.now.tasks → (after : Running) (change : Change) (res : Result Stepped StepFault) →
    Plans run.program run.start (step_task run.program run.start t) (numbers_of_task run.program run.start run.now.memory t) run.now.memory (Ok change) → IsMade before change res after → Steps before res after
made_steps_at run before same t going_on next after change res plan =
    subst (λ (b : Running). IsMade b change res after → Steps b res after) same (made_steps run t going_on next after change res plan)
