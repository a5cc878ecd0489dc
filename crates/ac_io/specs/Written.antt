-- What a put does to the bytes that a sink tells.
use Rattle.std.specs.Prelude.{◌≡◌, ℕ, List, ◌++◌, take, Option, Some}
use Rattle.std.specs.Option.{ForSome}

-- where they are told, the bytes written grew by these
abbrev pub Adds : Option (List ℕ) → Option (List ℕ) → List ℕ → Type 0
Adds before now bytes = ForSome before (λ told. now ≡ Some (told ++ bytes))

-- where they are told, the bytes written grew by the first so many of these
abbrev pub AddsPrefix : Option (List ℕ) → Option (List ℕ) → List ℕ → Type 0
AddsPrefix before now bytes = ForSome before (λ told. (kept : ℕ) × (now ≡ Some (told ++ take kept bytes)))
