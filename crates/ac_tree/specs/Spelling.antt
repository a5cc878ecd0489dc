-- Which bytes spell which program.
use Rattle.std.specs.Prelude.{◌≡◌, ℕ, List}
use Rattle.ac_tree.specs.declared.program.Program.{Program}
use Rattle.ac_tree.specs.Grammar.{Tokens, SpellsProgram}
use Rattle.ac_tree.specs.Numbering.{numbered_program}
use Rattle.ac_tree.specs.Tokens.{IsCutInto}

-- the bytes are cut into tokens, these spell a tree, and the program is that tree with its nodes numbered
pub record Spells (bytes : List ℕ) (program : Program) : Type 0 where
  pub tokens : Tokens
  pub cut : IsCutInto bytes tokens
  pub tree : Program
  pub spelled : SpellsProgram tree tokens
  pub numbers : program ≡ numbered_program tree
