-- What is told of the contents of files, and what a call leaves of it.
use Rattle.std.specs.Prelude.{◌≡◌, ◌≢◌, ℕ, List, Option}

-- the contents by name, where they are told
abbrev pub Told : Type 0
Told = List ℕ → Option (List ℕ)

-- all contents are as before
abbrev pub SameContents : Told → Told → Type 0
SameContents before now = (name : List ℕ) → now name ≡ before name

-- all contents but those of this name are as before
abbrev pub SameElsewhere : List ℕ → Told → Told → Type 0
SameElsewhere name before now = (other : List ℕ) → other ≢ name → now other ≡ before other
