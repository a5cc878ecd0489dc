-- Where a name is declared first.
use Rattle.std.specs.Prelude.{◌≡◌, ℕ, ◌+◌, List, [], ◌∷◌, Option, Some, None, if◌then◌else◌, bytes_eq}
use Rattle.std.specs.Option.{option_map}
use Rattle.std.specs.Map.{lookup}
use denote.Ref.{Bor}
use Rattle.ac_tree.specs.declared.program.Item.{Item}
use Rattle.ac_tree.specs.StaticRules.{NameBytes}

-- the place of the first declaration of a name
abbrev pub place_in : List Item → NameBytes → Option ℕ
place_in [] x = None
place_in (d ∷ ds) x = if bytes_eq d.name x then Some 0 else option_map (λ i. i + 1) (place_in ds x)

-- the entries of a map by texts are the places of the declared names
abbrev pub ArePlaces : List Item → List (Bor (List ℕ) × ℕ) → Type 0
ArePlaces items entries = (x : NameBytes) → lookup (λ k. bytes_eq x k.now) entries ≡ place_in items x
