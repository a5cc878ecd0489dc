-- What the code finds out of a task before it changes anything. No promise rests on this file.
use Rattle.std.specs.Prelude.{◌≡◌, Bool, true, false, if◌then◌else◌, List, [], ◌++◌, map, Option, Some, None, Result, Ok, Err, ℤ}
use Rattle.ac_tree.specs.declared.program.Program.{Program}
use Rattle.ac_run.specs.declared.start.Start.{Start}
use Rattle.ac_run.specs.declared.event.Cell.{Cell}
use Rattle.ac_run.specs.declared.event.Event.{Event}
use Rattle.ac_run.specs.Memory.{Memory, is_inside, write}
use Rattle.ac_run.specs.Run.{Task, Do, Config}
use Rattle.ac_evaluation.specs.declared.stop.Stop.{Stop}
use Rattle.ac_evaluation.specs.declared.stop.Stop.TheVariants.{Outside, Wide, OutOfMemory}
use Rattle.ac_evaluation.specs.Evaluates.{AllFit}
use Rattle.ac_stepper.specs.declared.fault.StepFault.{StepFault}
use Rattle.ac_stepper.specs.declared.fault.StepFault.TheVariants as fault
use Rattle.ac_stepper.specs.declared.change.Change.{Change}
use Rattle.ac_stepper.specs.Tasks.{tasks_if}

abbrev pub Write : Type 0
Write = Option (Cell × ℤ)

-- The change has these events, this write, whether it halts, and these tasks to come next.
pub record IsChange (events : List Event) (at : Write) (halts : Bool) (more : List Task) (change : Change) : Type 0 where
  pub events_are : change.events.items ≡ events
  pub write_is : change.write ≡ at
  pub halts_is : change.halts ≡ halts
  pub tasks_are : map Do change.block.now ++ tasks_if change.behind ≡ more

-- how an evaluation without an answer ends the task
abbrev pub Stops : Stop → List Event → Result Change StepFault → Type 0
Stops Outside events (Ok change) = IsChange events None true [] change
Stops Wide events (Err fault.Wide) = Unit {0}
Stops OutOfMemory events (Err fault.OutOfMemory) = Unit {0}
Stops _ events _ = ⊥

-- a configuration that goes on
abbrev pub going : Memory → List Task → List Event → Config
going m tasks trace = record { tasks = tasks; memory = m; trace = trace; has_halted = false }

module _ (p : Program) (start : Start) where
  -- the memory after a write; where its cell is outside it stays
  abbrev pub stored : Write → Memory → Memory
  stored None m = m
  stored (Some w) m = if is_inside p start w.0 then write p start m w.0 w.1 else m

  -- whether the run has halted after it
  abbrev pub halted : Write → Bool → Bool
  halted None halts = halts
  halted (Some w) halts = if is_inside p start w.0 then halts else true

  abbrev pub made : List Event → Write → Bool → List Task → Config → Config
  made events at halts more c =
      record { tasks = more ++ c.tasks; memory = stored at c.memory; trace = c.trace ++ events; has_halted = halted at halts }

  abbrev pub changed : Change → Config → Config
  changed change c = made change.events.items change.write change.halts (map Do change.block.now ++ tasks_if change.behind) c

  -- The change does to each configuration with this memory what the step does, or a number of the step is too wide.
  abbrev pub Plans : (Config → Config) → List ℤ → Memory → Result Change StepFault → Type 0
  Plans go numbers m (Ok change) = ((tasks : List Task) (trace : List Event) → go (going m tasks trace) ≡ changed change (going m tasks trace)) × AllFit numbers
  Plans go numbers m (Err fault.Wide) = ¬ AllFit numbers
  Plans go numbers m (Err fault.OutOfMemory) = Unit {0}
