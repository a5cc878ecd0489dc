use Rattle.std.proofs.Common.{ℕ, drop}
use Rattle.ac_tree.specs.Preorder.{nodes_of_list}
use Rattle.ac_targets.specs.Numbered.{AreNumbered}
use Rattle.ac_targets.proofs.numbered.+numbered_block.Given as goal

-- where the rest is numbered from here on, all are
abbrev pub invariant-behind_block-loop-stmt : goal.invariant-behind_block-loop-stmt
invariant-behind_block-loop-stmt l = (end : ℕ) → AreNumbered l.at (nodes_of_list (drop l.stmt-index l.block)) end → AreNumbered l.fn.next (nodes_of_list l.block) end
