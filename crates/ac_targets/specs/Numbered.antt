-- Nodes that are numbered one after the other.
use Rattle.std.specs.Prelude.{◌≡◌, ℕ, ◌+◌, List, [], ◌∷◌}
use Rattle.ac_tree.specs.declared.node.NodeId.{NodeId}
use Rattle.ac_tree.specs.declared.program.Program.{Program}
use Rattle.ac_tree.specs.Preorder.{nodes_of}

-- from a first number on, up to the one that is next behind them
abbrev pub AreNumbered : ℕ → List NodeId → ℕ → Type 0
AreNumbered first [] next = first ≡ next
AreNumbered first (n ∷ ns) next = (n.0 ≡ first) × AreNumbered (first + 1) ns next

-- the nodes of a program, from 0 on
pub record IsInOrder (p : Program) : Type 0 where
  pub next : ℕ
  pub numbers : AreNumbered 0 (nodes_of p) next
