use Rattle.ac_flow.proofs.Blocks.{leaving_if}
use Rattle.ac_flow.proofs.through.+leaving.Goals as goal

pub add_leaving-returns-in_ok-add_exits-in-If-2 : goal.add_leaving-returns-in_ok-add_exits-in-If-2
add_leaving-returns-in_ok-add_exits-in-If-2 t c =
    rw c.in-If.is
    (leaving_if _ _ c.in-If.test _ _ _ _ _ _ _ _ c.is_marked.ensures c.if-is_marked.false c.as_slice.ensures c.as_slice-in-If.ensures
    c.in_ok-add_exits-in-If.ensures c.in_ok-add_exits-in-If-2.ensures)
