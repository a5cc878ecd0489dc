use Rattle.std.proofs.Common.{◌≡◌, ℕ, ◌||◌, drop}
use Rattle.std.specs.List.{list_any}
use Rattle.ac_flow.specs.Pairs.{is_node}
use Rattle.ac_flow.specs.Marks.{mark_at}
use Rattle.ac_flow.proofs.marks.mark_nodes.Given as goal

-- the marks so far, and those of the rest, are all
abbrev pub invariant-loop-node : goal.invariant-loop-node
invariant-loop-node l = (n : ℕ) → (mark_at l.marks.items n || list_any (is_node n) (drop l.node-index l.nodes)) ≡ list_any (is_node n) l.nodes
