-- A program that is parsed has fewer nodes than 32 bits count, which `positions` asks for.
use Rattle.std.proofs.Common.{◌≡◌, ℕ, ◌<◌, ◌≤◌, List, arith}
use Rattle.ac_tree.specs.declared.program.Program.{Program}
use Rattle.ac_tree.specs.Numbering.{program_nodes}
use Rattle.ac_tree.proofs.NodeLaws.{spelled_count}
use Rattle.ac_parse.specs.Parsing.{SpellsWithin}

pub few_nodes : (bytes : List ℕ) (p : Program) → SpellsWithin bytes p → program_nodes p < 4294967296
few_nodes bytes p s =
    let same : program_nodes p ≡ program_nodes s.spells.tree = spelled_count bytes p s.spells in
    let few : program_nodes s.spells.tree ≤ 50000 = s.few in
    omega (arith, same, few)
