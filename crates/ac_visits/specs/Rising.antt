-- Nodes in the order of their numbers, and each once.
use Rattle.std.specs.Prelude.{ℕ, ◌+◌, ◌≤◌, List, [], ◌∷◌}
use Rattle.ac_tree.specs.declared.node.NodeId.{NodeId}
use Rattle.ac_flow.specs.Listed.{IsListed}

-- numbers rise from one on
abbrev pub Rises : ℕ → List NodeId → Type 0
Rises i [] = Unit {0}
Rises i (n ∷ ns) = (i ≤ n.0) × Rises (n.0 + 1) ns

-- no node stands twice
abbrev pub IsOnce : List NodeId → Type 0
IsOnce [] = Unit {0}
IsOnce (n ∷ ns) = (IsListed ns n → ⊥) × IsOnce ns
