-- The tasks that the code keeps, the next one at the end. Clauses see a run by its list of tasks alone, which this file gives.
use Rattle.std.specs.Prelude.{List, [], ◌∷◌, ◌++◌, map, Option, Some, None}
use Rattle.ac_run.specs.Run.{Task, Do, Compare, Advance}
use Rattle.ac_stepper.specs.declared.pending.Pending.{Pending}
use Rattle.ac_stepper.specs.declared.pending.Pending.TheVariants as pending

abbrev pub first_of : Pending → Task
first_of (pending.Block st statements) = Do st.now
first_of (pending.Compare x hi body) = Compare x.now hi body.now
first_of (pending.Advance x hi body) = Advance x.now hi body.now

abbrev pub behind_of : Pending → List Task
behind_of (pending.Block st statements) = map Do statements.now
behind_of (pending.Compare x hi body) = []
behind_of (pending.Advance x hi body) = []

abbrev pub tasks_in : Pending → List Task
tasks_in t = first_of t ∷ behind_of t

abbrev pub tasks_of : List Pending → List Task
tasks_of [] = []
tasks_of (t ∷ ts) = tasks_of ts ++ tasks_in t

abbrev pub tasks_if : Option Pending → List Task
tasks_if None = []
tasks_if (Some t) = tasks_in t

-- the tasks without the next one
abbrev pub rest_of : List Task → List Task
rest_of [] = []
rest_of (t ∷ ts) = ts
