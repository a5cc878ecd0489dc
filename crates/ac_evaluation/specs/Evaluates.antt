-- How an evaluation ends.
use Rattle.std.specs.Prelude.{◌≡◌, List, ◌++◌, map, All, Option, Some, None, Result, Ok, Err, ℤ, FitsSigned}
use Rattle.std.specs.Int.{w128}
use Rattle.ac_run.specs.declared.event.Event.{Event}
use Rattle.ac_run.specs.declared.event.Event.TheVariants.{Read}
use Rattle.ac_run.specs.Evaluation.{Reading}
use Rattle.ac_evaluation.specs.declared.stop.Stop.{Stop}
use Rattle.ac_evaluation.specs.declared.stop.Stop.TheVariants.{Outside, Wide, OutOfMemory}

-- 128 bits hold each of the numbers
abbrev pub AllFit : List ℤ → Type 0
AllFit numbers = All (FitsSigned w128) numbers

-- The reading has this answer, its reads stand behind the events that were there, and 128 bits hold all numbers made.
pub record Answers {A : Type 0} (r : Reading A) (numbers : List ℤ) (answer : Option A) (before after : List Event) : Type 0 where
  pub answered : r.1 ≡ answer
  pub traced : after ≡ before ++ map Read r.0
  pub fit : AllFit numbers

abbrev pub Evaluates : {A : Type 0} → Reading A → List ℤ → Result A Stop → List Event → List Event → Type 0
Evaluates r numbers (Ok x) before after = Answers r numbers (Some x) before after
Evaluates r numbers (Err Outside) before after = Answers r numbers None before after
Evaluates r numbers (Err Wide) before after = ¬ AllFit numbers
Evaluates r numbers (Err OutOfMemory) before after = Unit {0}
