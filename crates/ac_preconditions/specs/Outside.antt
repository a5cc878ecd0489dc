-- When a target stands at no node of a statement: in a program whose nodes are numbered in preorder, before the node of the
-- statement, or not before that of the statement behind it.
use Rattle.std.specs.Prelude.{◌≡◌, ℕ, ◌+◌, ◌≤◌, nat_eq, nat_lt, nat_le, Bool, true, false, ◌||◌, List, [], ◌∷◌, Option, Some, None}
use Rattle.ac_tree.specs.declared.node.NodeId.{NodeId}
use Rattle.ac_tree.specs.declared.path.Target.{Target}
use Rattle.ac_tree.specs.declared.path.Target.TheVariants.{Entry, Keep, Barrier, Site}
use Rattle.ac_tree.specs.declared.program.Stmt.{Stmt}

-- numbers rise from one on
abbrev pub Rises : ℕ → List NodeId → Type 0
Rises i [] = Unit {0}
Rises i (n ∷ ns) = (i ≤ n.0) × Rises (n.0 + 1) ns

-- the node of a target
abbrev pub node_of : Target → NodeId
node_of (Entry n) = n
node_of (Keep n) = n
node_of (Barrier n) = n
node_of (Site n) = n

-- a target is at none of some nodes
abbrev pub IsAtNone : Target → List NodeId → Type 0
IsAtNone t [] = Unit {0}
IsAtNone t (n ∷ ns) = (nat_eq (node_of t).0 n.0 ≡ false) × IsAtNone t ns

-- the node of the first of some statements
abbrev pub first_node : List Stmt → Option NodeId
first_node [] = None
first_node (st ∷ rest) = Some st.node.id

-- whether a node is not before another, if there is one
abbrev pub is_from : NodeId → Option NodeId → Bool
is_from n None = false
is_from n (Some first) = nat_le first.0 n.0

abbrev pub is_outside : Target → NodeId → Option NodeId → Bool
is_outside t n next = nat_lt (node_of t).0 n.0 || is_from (node_of t) next
