-- The laws of a policy, for its formulas in a part and for one start.
use Rattle.std.specs.Prelude.{List}
use Rattle.ac_tree.specs.declared.program.Program.{Program}
use Rattle.ac_run.specs.declared.event.Event.{Event}
use Rattle.ac_run.specs.declared.start.Start.{Start}
use Rattle.ac_policy.specs.Laws.{LawForm, LawEffect, LawNeed, LawKnown, LawFor}
use Rattle.ac_policy.specs.State.{Shadow}
use Rattle.ac_conditions.specs.Part.{Part}

pub record MeetsLaws (p : Program) (start : Start) (part : Part) (shadow : List Event → Shadow) (Bad : List Event → Event → Type 0) : Type 0 where
  pub form : LawForm part.need part.effect part.known
  pub effect : LawEffect p start shadow part.effect
  pub need : LawNeed p start shadow Bad part.need
  pub known : LawKnown p start shadow part.known
  pub for_write : LawFor p start Bad
