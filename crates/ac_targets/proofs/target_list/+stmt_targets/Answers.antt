use Rattle.ac_targets.proofs.Blocks.{added_if, added_for, added_while}
use Rattle.ac_targets.proofs.target_list.+stmt_targets.Goals as goal

pub add_stmt-returns-in_ok-add_block-in-If-2 : goal.add_stmt-returns-in_ok-add_block-in-If-2
add_stmt-returns-in_ok-add_block-in-If-2 t c =
    rw c.in-If.is
    (added_if _ c.args.stmt.now.node.id c.in-If.test _ _ _ _ _ _ _ _ _ c.in_ok-push-in-If.ensures.items c.in_ok-add_cond-in-If.ensures c.as_slice.ensures c.in_ok-add_block-in-If.ensures
    c.as_slice-in-If.ensures c.in_ok-add_block-in-If-2.ensures)

pub add_stmt-returns-in_ok-add_block-in-For : goal.add_stmt-returns-in_ok-add_block-in-For
add_stmt-returns-in_ok-add_block-in-For t c =
    rw c.in-For.is
    (added_for _ c.args.stmt.now.node.id c.in-For.name c.in-For.lo c.in-For.hi _ _ _ _ _ _ _ c.in_ok-add_loop-in-For.ensures c.in_ok-add_expr-in-For.ensures c.in_ok-add_expr-in-For-2.ensures
    c.as_slice-in-For.ensures c.in_ok-add_block-in-For.ensures)

pub add_stmt-returns-in_ok-add_block-in-While : goal.add_stmt-returns-in_ok-add_block-in-While
add_stmt-returns-in_ok-add_block-in-While t c =
    rw c.in-While.is
    (added_while _ c.args.stmt.now.node.id c.in-While.test _ _ _ _ _ _ c.in_ok-add_loop-in-While.ensures c.in_ok-add_cond-in-While.ensures c.as_slice-in-While.ensures
    c.in_ok-add_block-in-While.ensures)
