-- The headline: what is known where bytes are accepted.
use Rattle.std.specs.Prelude.{◌≡◌, ℕ, List}
use Rattle.ac_tree.specs.declared.program.Program.{Program}
use Rattle.ac_tree.specs.Spelling.{Spells}
use Rattle.ac_tree.specs.StaticRules.{KeepsStaticRules}
use Rattle.ac_run.specs.Safety.{Policies, Safe}
use Rattle.ac_verdict.specs.Policy.{Selects}

-- the bytes spell this program and no other
pub record SpellsOne (bytes : List ℕ) (tree : Program) : Type 0 where
  pub spelled : Spells bytes tree
  pub only : (other : Program) → Spells bytes other → other ≡ tree

-- The bytes of the program spell exactly one program, it keeps the static rules, and no run of it, from any start within
-- its declared ranges, violates a policy that the bytes of the policy file select.
pub record IsCertified (program policy : List ℕ) : Type 0 where
  pub tree : Program
  pub spells : SpellsOne program tree
  pub rules : KeepsStaticRules tree
  pub policies : Policies
  pub selected : Selects policy policies
  pub safe : Safe tree policies
