-- Where a name stands first. No promise rests on this file: it says what the tables of names keep.
use Rattle.std.specs.Prelude.{◌≡◌, ℕ, ◌+◌, List, [], ◌∷◌, Option, Some, None, if◌then◌else◌}
use Rattle.std.specs.Option.{option_map}
use Rattle.std.specs.Map.{lookup}
use Rattle.std.specs.Str.{bytes_eq}
use Rattle.ac_run.specs.Declarations.{NameBytes}

abbrev pub place_of : List NameBytes → NameBytes → Option ℕ
place_of [] x = None
place_of (n ∷ ns) x = if bytes_eq n x then Some 0 else option_map (λ i. i + 1) (place_of ns x)

abbrev pub Entries : Type 0
Entries = List (NameBytes × ℕ)

abbrev pub ArePlaces : List NameBytes → Entries → Type 0
ArePlaces names entries = (x : NameBytes) → lookup (bytes_eq x) entries ≡ place_of names x
