use Rattle.std.proofs.Common.{ℕ, drop}
use Rattle.ac_tree.specs.Preorder.{nodes_of_items}
use Rattle.ac_targets.specs.Numbered.{AreNumbered}
use Rattle.ac_targets.proofs.numbered.behind_items.Given as goal

-- where the rest is numbered from here on, all are
abbrev pub invariant-loop-item : goal.invariant-loop-item
invariant-loop-item l = (end : ℕ) → AreNumbered l.at (nodes_of_items (drop l.item-index l.items)) end → AreNumbered l.fn.next (nodes_of_items l.items) end
