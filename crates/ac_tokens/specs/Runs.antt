-- Runs: the bytes of one kind at the front of a text, as far as they go; and the signs of two bytes.
use Rattle.std.specs.Prelude.{◌≡◌, ℕ, ◌-◌, ◌≤◌, List, [], ◌∷◌, length, take, drop, Option, None, Bool, true, false, if◌then◌else◌}
use Rattle.ac_tree.specs.declared.token.Sign.{Sign}
use Rattle.ac_tree.specs.declared.token.ByteKind.{ByteKind}
use Rattle.ac_tree.specs.declared.token.ByteKind.TheVariants.{Newline, Blank, Letter, Digit, Underscore}
use Rattle.ac_tree.specs.Tokens.{kind_of_byte, joined, InName, InNumber, InLine, IsBlank, Each, Ends}
use Rattle.ac_tokens.specs.declared.run.Run.{Run}
use Rattle.ac_tokens.specs.declared.run.Run.TheVariants as run

-- what a run goes on with
abbrev pub goes_on : Run → ByteKind → Bool
goes_on run.Name Letter = true
goes_on run.Name Digit = true
goes_on run.Name Underscore = true
goes_on run.Bound Letter = true
goes_on run.Bound Digit = true
goes_on run.Number Digit = true
goes_on run.Line Newline = false
goes_on run.Line _ = true
goes_on run.Blank Blank = true
goes_on run.Blank Newline = true
goes_on _ _ = false

-- the longest front of a run, and what follows it
abbrev pub front : Run → List ℕ → List ℕ
front r [] = []
front r (b ∷ bytes) = if goes_on r (kind_of_byte b) then b ∷ front r bytes else []

abbrev pub behind : Run → List ℕ → List ℕ
behind r [] = []
behind r (b ∷ bytes) = if goes_on r (kind_of_byte b) then behind r bytes else b ∷ bytes

-- a run takes this many bytes
pub record IsRun (r : Run) (bytes : List ℕ) (n : ℕ) : Type 0 where
  pub inside : n ≤ length bytes
  pub ahead : front r bytes ≡ take n bytes
  pub after : behind r bytes ≡ drop n bytes

-- the sign that a byte makes with the next one
abbrev pub joined_with : ByteKind → List ℕ → Option Sign
joined_with kind [] = None
joined_with kind (b ∷ bytes) = joined kind (kind_of_byte b)

-- the same kinds as facts
abbrev pub InBound : ByteKind → Type 0
InBound Letter = Unit {0}
InBound Digit = Unit {0}
InBound _ = ⊥

abbrev pub GoesOn : Run → ByteKind → Type 0
GoesOn run.Name = InName
GoesOn run.Bound = InBound
GoesOn run.Number = InNumber
GoesOn run.Line = InLine
GoesOn run.Blank = IsBlank

-- the bytes of the kind go from one place to the other and no further
pub record IsRunFrom (P : ByteKind → Type 0) (bytes : List ℕ) (from to : ℕ) : Type 0 where
  pub ahead : from ≤ to
  pub inside : to ≤ length bytes
  pub each : Each P (take (to - from) (drop from bytes))
  pub ends : Ends P (drop to bytes)
