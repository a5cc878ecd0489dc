-- What the loop over the statements of a block keeps.
use Rattle.std.proofs.Common.{drop}
use Rattle.ac_tree.proofs.AddedNodes.{BlockLeft}
use Rattle.ac_tree.proofs.node_positions.+stmt_position.Given as goal

abbrev pub invariant-add_block-loop-i : goal.invariant-add_block-loop-i
invariant-add_block-loop-i l = BlockLeft l.stmts (drop l.i l.stmts) l.parent l.block l.i l.initial.found.items l.found.items
