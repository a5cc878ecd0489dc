-- A name is its bytes.
use Rattle.std.specs.Prelude.{ℕ, List}

abbrev pub NameBytes : Type 0
NameBytes = List ℕ
