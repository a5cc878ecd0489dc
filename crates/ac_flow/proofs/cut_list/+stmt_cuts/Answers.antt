use Rattle.ac_flow.proofs.Blocks.{cuts_added_if, cuts_added_for, cuts_added_while}
use Rattle.ac_flow.proofs.cut_list.+stmt_cuts.Goals as goal

pub add_stmt-returns-in_ok-add_block-in-If-2 : goal.add_stmt-returns-in_ok-add_block-in-If-2
add_stmt-returns-in_ok-add_block-in-If-2 t c =
    rw c.in-If.is
    (cuts_added_if _ _ c.in-If.test _ _ _ _ _ _ _ _ c.in_ok-add_after-in-If.ensures c.as_slice.ensures c.in_ok-add_block-in-If.ensures c.as_slice-in-If.ensures
    c.in_ok-add_block-in-If-2.ensures)

pub add_stmt-returns-in_ok-add_block-in-For : goal.add_stmt-returns-in_ok-add_block-in-For
add_stmt-returns-in_ok-add_block-in-For t c =
    rw c.in-For.is
    (cuts_added_for _ _ c.in-For.name c.in-For.lo c.in-For.hi _ _ _ _ _ c.in_ok-add_loop-in-For.ensures c.as_slice-in-For.ensures c.in_ok-add_block-in-For.ensures)

pub add_stmt-returns-in_ok-add_block-in-While : goal.add_stmt-returns-in_ok-add_block-in-While
add_stmt-returns-in_ok-add_block-in-While t c =
    rw c.in-While.is
    (cuts_added_while _ _ c.in-While.test _ _ _ _ _ c.in_ok-add_loop-in-While.ensures c.as_slice-in-While.ensures c.in_ok-add_block-in-While.ensures)
