-- What a change of one name leaves of a list of files.
use Rattle.std.specs.Prelude.{◌≡◌, ◌≢◌, ℕ, List, find}
use Rattle.ac_io.specs.StoredFile.{StoredFile, has_name, bytes_of}

-- every other name has its file
abbrev pub SameOthers : List ℕ → List StoredFile → List StoredFile → Type 0
SameOthers name old new = (other : List ℕ) → other ≢ name → find (has_name other) new ≡ find (has_name other) old

-- every name has its contents
abbrev pub SameBytes : List StoredFile → List StoredFile → Type 0
SameBytes old new = (name : List ℕ) → bytes_of (find (has_name name) new) ≡ bytes_of (find (has_name name) old)
