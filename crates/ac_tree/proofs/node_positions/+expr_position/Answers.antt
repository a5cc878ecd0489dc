-- Each production of expressions adds what is defined.
use Rattle.std.proofs.Common.{[]}
use Rattle.ac_tree.proofs.AddedNodes.{opened-inside, adds-node, one_le-expr_nodes, filled-Num, filled-Get, filled-Read, filled-Neg, filled-binary, added-One, added-Two}
use Rattle.ac_tree.proofs.node_positions.+expr_position.Goals as goal

pub add_expr-returns : goal.add_expr-returns
add_expr-returns t c = adds-node _ _ _ _ _ _ _ _ (one_le-expr_nodes _) c.in_ok-own.ensures c.in_ok-add_operands.ensures c.close.ensures

pub add_index-returns-in-One : goal.add_index-returns-in-One
add_index-returns-in-One t c = rw c.in-One.is (added-One _ _ _ _ _ _ c.get.ensures c.add_expr.ensures)

pub add_index-returns-in_ok-add_expr-in-Two : goal.add_index-returns-in_ok-add_expr-in-Two
add_index-returns-in_ok-add_expr-in-Two t c =
    rw c.in-Two.is (added-Two _ _ _ _ _ _ _ _ _ c.get-in-Two.ensures c.get-in-Two-2.ensures c.in_ok-add_expr-in-Two.ensures c.add_expr-in-Two-2.ensures)

pub add_operands-returns-in-Read : goal.add_operands-returns-in-Read
add_operands-returns-in-Read t c = rw c.in-Read.is (filled-Read _ _ _ _ _ _ c.add_index.ensures)

pub add_operands-returns-in-Neg : goal.add_operands-returns-in-Neg
add_operands-returns-in-Neg t c = rw c.in-Neg.is (filled-Neg _ _ _ _ _ _ c.get.ensures c.add_expr.ensures)

pub add_operands-returns-in-Num : goal.add_operands-returns-in-Num
add_operands-returns-in-Num t c = rw c.in-Num.is (filled-Num _ _ [] _)

pub add_operands-returns-in-Get : goal.add_operands-returns-in-Get
add_operands-returns-in-Get t c = rw c.in-Get.is (filled-Get _ _ [] _)

pub add_operands-returns-in_ok-add_expr-in-Add : goal.add_operands-returns-in_ok-add_expr-in-Add
add_operands-returns-in_ok-add_expr-in-Add t c =
    filled-binary _ _ _ _ _ _ _ _ _ _ c.in-Add.is c.get-in-Add.ensures c.get-in-Add-2.ensures c.in_ok-add_expr-in-Add.ensures c.add_expr-in-Add-2.ensures
