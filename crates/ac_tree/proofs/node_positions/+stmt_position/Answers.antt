-- Each production of statements adds what is defined, and so does the loop over a block.
use Rattle.std.proofs.Common.{[]}
use Rattle.ac_tree.proofs.AddedNodes.{adds-node, one_le-stmt_nodes, filled-Set, filled-Put, filled-If, filled-For, filled-While, filled-Hand, filled-Skip, block-begins, block-step, block-end}
use Rattle.ac_tree.proofs.node_positions.+stmt_position.Goals as goal

pub add_stmt-returns : goal.add_stmt-returns
add_stmt-returns t c = adds-node _ _ _ _ _ _ _ _ (one_le-stmt_nodes _) c.in_ok-own.ensures c.in_ok-add_inner.ensures c.close.ensures

pub add_block-loop-i-init : goal.add_block-loop-i-init
add_block-loop-i-init t c = block-begins _ _ _ _

pub add_block-loop-i-preserved : goal.add_block-loop-i-preserved
add_block-loop-i-preserved t c =
    block-step c.args.stmts.now c.loop-i.i c.index-stmts-i.result c.args.parent c.args.block c.number-place.result _ c.loop-i.found.items _
    c.loop-i-test.true c.index-stmts-i.is c.number-place.ensures c.loop-i.invariant c.in_ok-add_stmt.ensures

pub add_block-returns : goal.add_block-returns
add_block-returns t c = block-end _ _ _ _ _ _ c.loop-i-test.false c.loop-i.invariant

pub add_inner-returns-in-Set : goal.add_inner-returns-in-Set
add_inner-returns-in-Set t c = rw c.in-Set.is (filled-Set _ _ _ _ [] [] _ _ c.add_expr.ensures)

pub add_inner-returns-in_ok-add_index-in-Put : goal.add_inner-returns-in_ok-add_index-in-Put
add_inner-returns-in_ok-add_index-in-Put t c =
    rw c.in-Put.is (filled-Put _ _ _ _ _ [] _ _ _ _ c.index_places.ensures c.in_ok-add_index-in-Put.ensures c.add_expr-in-Put.ensures)

pub add_inner-returns-in_ok-add_block-in-If : goal.add_inner-returns-in_ok-add_block-in-If
add_inner-returns-in_ok-add_block-in-If t c =
    rw c.in-If.is
    (filled-If _ _ _ _ _ _ _ _ _ _ _ c.as_slice.ensures c.as_slice-in-If.ensures c.in_ok-add_cond-in-If.ensures c.in_ok-add_block-in-If.ensures c.add_block-in-If.ensures)

pub add_inner-returns-in_ok-add_expr-in-For-2 : goal.add_inner-returns-in_ok-add_expr-in-For-2
add_inner-returns-in_ok-add_expr-in-For-2 t c =
    rw c.in-For.is
    (filled-For _ _ _ _ _ _ _ _ _ _ _ c.as_slice-in-For.ensures c.in_ok-add_expr-in-For.ensures c.in_ok-add_expr-in-For-2.ensures c.add_block-in-For.ensures)

pub add_inner-returns-in_ok-add_cond-in-While : goal.add_inner-returns-in_ok-add_cond-in-While
add_inner-returns-in_ok-add_cond-in-While t c =
    rw c.in-While.is (filled-While _ _ _ _ _ [] _ _ _ c.as_slice-in-While.ensures c.in_ok-add_cond-in-While.ensures c.add_block-in-While.ensures)

pub add_inner-returns-in-Hand : goal.add_inner-returns-in-Hand
add_inner-returns-in-Hand t c = rw c.in-Hand.is (filled-Hand _ _ _ _)

pub add_inner-returns-in-Skip : goal.add_inner-returns-in-Skip
add_inner-returns-in-Skip t c = rw c.in-Skip.is (filled-Skip _ _)
