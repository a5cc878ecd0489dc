use Rattle.ac_flow.proofs.Blocks.{left_yes, left_no}
use Rattle.ac_flow.proofs.through.+passing.Goals as goal

pub is_left-returns-then-is_passed : goal.is_left-returns-then-is_passed
is_left-returns-then-is_passed t c =
    rw c.in-If.is (left_yes _ _ c.in-If.test _ _ _ _ _ c.is_marked.ensures c.if-is_marked.false c.as_slice.ensures c.is_passed.ensures c.if-is_passed.true)

pub is_left-returns-else-is_passed : goal.is_left-returns-else-is_passed
is_left-returns-else-is_passed t c =
    rw c.in-If.is
    (left_no _ _ c.in-If.test _ _ _ _ _ _ _ c.is_marked.ensures c.if-is_marked.false c.as_slice.ensures c.is_passed.ensures c.if-is_passed.false
    c.as_slice-else-is_passed.ensures c.is_passed-else-is_passed.ensures)
