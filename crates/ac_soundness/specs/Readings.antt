-- Readings of expressions and tests whose reads are not bad and whose answers are those that the logic gives.
use Rattle.std.specs.Prelude.{◌≡◌, Bool, true, false, List, [], ◌∷◌, Some}
use Rattle.ac_run.specs.declared.event.Cell.{Cell}
use Rattle.ac_run.specs.declared.event.Event.{Event}
use Rattle.ac_run.specs.declared.event.Event.TheVariants as event
use Rattle.ac_run.specs.Evaluation.{Reading}
use Rattle.ac_policy.specs.State.{Shadow}

-- a truth value says of a statement that it holds, or that it fails
abbrev pub Says : Bool → Type 0 → Type 0
Says true P = P
Says false P = ¬ P

module _ (shadow : List Event → Shadow) (Bad : List Event → Event → Type 0) (s : Shadow) where
  -- the read is not bad, whatever trace has the shadow
  abbrev pub Fine : Cell → Type 0
  Fine c = (trace : List Event) → shadow trace ≡ s → ¬ Bad trace (event.Read c)

  abbrev pub AllFine : List Cell → Type 0
  AllFine [] = Unit {0}
  AllFine (c ∷ cs) = Fine c × AllFine cs

  -- the reads are fine, and the answer, if there is one, is the given one
  abbrev pub Gives : {A : Type 0} → Reading A → A → Type 0
  Gives {A} r a = AllFine r.0 × ((x : A) → r.1 ≡ Some x → a ≡ x)

  -- the reads are fine, and the answer, if there is one, is the truth of the statement
  abbrev pub Tells : Reading Bool → Type 0 → Type 0
  Tells r P = AllFine r.0 × ((b : Bool) → r.1 ≡ Some b → Says b P)
