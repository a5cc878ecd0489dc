use Rattle.ac_codes.proofs.Listing.{added_around}
use Rattle.ac_codes.proofs.meta_list.+add_stmt.Goals as goal

pub add_block-returns-in_ok-add_run-in-Around-2 : goal.add_block-returns-in_ok-add_run-in-Around-2
add_block-returns-in_ok-add_run-in-Around-2 t c =
    rw c.in-Around.is
    (added_around _ _ _ _ c.in-Around.first _ c.in-Around.last _ c.in-Around.meta c.as_slice-in-Around.ensures c.in_ok-add_run-in-Around.ensures
    c.in_ok-add_meta-in-Around.ensures c.as_slice-in-Around-2.ensures c.in_ok-add_run-in-Around-2.ensures)
