-- One name in memory, as contracts see it.
use Rattle.std.specs.Prelude.{ℕ, ◌+◌, Bool, List, Option, Some, None}
use Rattle.std.specs.Str.{bytes_eq}

-- a name, its bytes where it has contents, and how many bytes it can take without memory
pub record StoredFile : Type 0 where
  pub name : List ℕ
  pub bytes : Option (List ℕ)
  pub room : ℕ

abbrev pub has_name : List ℕ → StoredFile → Bool
has_name name file = bytes_eq file.name name

-- the contents of a name, by its file
abbrev pub bytes_of : Option StoredFile → Option (List ℕ)
bytes_of None = None
bytes_of (Some file) = file.bytes

-- the spare of a name, by its file: one more than what the file can take
abbrev pub room_of : Option StoredFile → ℕ
room_of None = 0
room_of (Some file) = file.room + 1
