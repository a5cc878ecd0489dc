-- What the conditions of a policy are for: no run has an event that is bad after those before it.
use Rattle.std.specs.Prelude.{◌≡◌, ℕ, List, ◌∷◌, ◌++◌}
use Rattle.ac_tree.specs.declared.program.Program.{Program}
use Rattle.ac_run.specs.declared.event.Event.{Event}
use Rattle.ac_run.specs.declared.start.Start.{Start}
use Rattle.ac_run.specs.Run.{run}
use Rattle.ac_run.specs.Start.{Fits}

-- some event is bad after those before it
abbrev pub HasBad : (List Event → Event → Type 0) → List Event → Type 0
HasBad Bad trace = (before : List Event) × (event : Event) × (after : List Event) × (trace ≡ before ++ event ∷ after) × Bad before event

-- none is in any run, from any start that fits and for any number of steps
abbrev pub NeverBad : Program → (Start → List Event → Event → Type 0) → Type 0
NeverBad p Bad = (start : Start) (n : ℕ) → Fits p start → ¬ HasBad (Bad start) (run p start n).trace
