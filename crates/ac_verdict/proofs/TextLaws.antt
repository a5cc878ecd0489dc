-- The laws of program text that the verdict stands on.
use Rattle.std.specs.Prelude.{◌≡◌, ℕ, List}
use Rattle.ac_tree.specs.declared.program.Program.{Program}
use Rattle.ac_tree.specs.Spelling.{Spells}
use Rattle.ac_parse.specs.Parsing.{SpellsWithin}
use Rattle.ac_parse.proofs.OneProgram.{one_spelled}
pub use Rattle.ac_parse.proofs.OneRefusal.{one_refusal}
pub use Rattle.ac_parse.proofs.Parsed.{never_refused}

-- bytes that spell a program within the limits spell no other
pub only_one : (bytes : List ℕ) (p : Program) → SpellsWithin bytes p → (other : Program) → Spells bytes other → other ≡ p
only_one bytes p within other s = one_spelled bytes other p s within.spells
