-- What the loop of this function keeps.
use Rattle.std.proofs.Common.{drop}
use Rattle.ac_tree.proofs.AddedNodes.{ItemsLeft}
use Rattle.ac_tree.proofs.node_positions.add_items.Given as goal

abbrev pub invariant-loop-i : goal.invariant-loop-i
invariant-loop-i l = ItemsLeft l.items (drop l.i l.items) l.parent l.i l.initial.found.items l.found.items
