-- What a step does to a run, and how it ends.
use Rattle.std.specs.Prelude.{◌≡◌, if◌then◌else◌, List, [], ◌∷◌, Result, Ok, Err}
use Rattle.ac_run.specs.Run.{Task, Config, step}
use Rattle.ac_evaluation.specs.Evaluates.{AllFit}
use Rattle.ac_stepper.specs.declared.fault.StepFault.{StepFault}
use Rattle.ac_stepper.specs.declared.fault.StepFault.TheVariants.{Wide, OutOfMemory}
use Rattle.ac_stepper.specs.declared.fault.Stepped.{Stepped}
use Rattle.ac_stepper.specs.declared.fault.Stepped.TheVariants.{Went, Halted, Ended}
use Rattle.ac_stepper.specs.Numbers.{numbers_of_step}
use Rattle.ac_stepper.specs.Running.{Running}

-- 128 bits hold all numbers of the next step
abbrev pub HasFittingNumbers : Running → Type 0
HasFittingNumbers run = AllFit (numbers_of_step run.program run.start run.now)

-- how a step ends by the tasks before it, where it halts nothing
abbrev pub went_or_ended : List Task → Stepped
went_or_ended [] = Ended
went_or_ended (t ∷ ts) = Went

-- The run halted in this step or before; or it hasn't halted and no task was left; or it went on.
abbrev pub ending : Config → Config → Stepped
ending before after = if after.has_halted then Halted else went_or_ended before.tasks

-- A call of `step` makes the defined step, says how it ended, and then 128 bits hold all its numbers. Or it leaves the run as
-- it was, and where the cause is a number, 128 bits don't hold all of them.
abbrev pub Steps : Running → Result Stepped StepFault → Running → Type 0
Steps before (Ok stepped) after =
    (after ≡ record before { now = step before.program before.start before.now }) × (stepped ≡ ending before.now after.now) × HasFittingNumbers before
Steps before (Err Wide) after = (after ≡ before) × ¬ HasFittingNumbers before
Steps before (Err OutOfMemory) after = after ≡ before
