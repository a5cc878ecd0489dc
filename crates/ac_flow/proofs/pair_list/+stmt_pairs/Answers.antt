use Rattle.std.proofs.Common.{ap, refl, ◌∙◌, drop}
use Rattle.ac_flow.proofs.Blocks.{pairs_added_if, pairs_added_for, pairs_added_while, joined_as, loop_as, cond_as, expr_as, sliced-same}
use Rattle.ac_flow.proofs.pair_list.+stmt_pairs.Goals as goal

pub add_stmt-returns-in_ok-add_block-in-If-2-clause-pairs : goal.add_stmt-returns-in_ok-add_block-in-If-2-clause-pairs
add_stmt-returns-in_ok-add_block-in-If-2-clause-pairs t c =
    rw c.in-If.is
    (pairs_added_if _ _ (drop c.args.base c.args.live.now.items) _ c.in-If.test _ _ c.as_slice.result.now c.as_slice-in-If.result.now _ _ _ _ _ _ _ _ _
    c.as_slice.ensures c.as_slice-in-If.ensures c.as_slice-in-If-2.ensures c.as_slice-in-If-3.ensures
    (ap (λ w. drop c.args.base w) c.in_ok-add_joined-in-If.ensures.restored)
    (ap (λ w. drop c.args.base w) (c.in_ok-add_block-in-If.ensures.restored ∙ c.in_ok-add_joined-in-If.ensures.restored))
    (joined_as _ _ (drop c.args.base c.args.live.now.items) _ c.as_slice.result.now c.as_slice-in-If.result.now _ _ c.as_slice-barriers.ensures.value c.in_ok-add_joined-in-If.ensures.pairs)
    (cond_as _ _ _ _ c.in-If.test _ _ c.as_slice-subject.ensures.value (sliced-same c.args.base _ _ _ c.deref-in-If.ensures.value c.in_ok-add_joined-in-If.ensures.restored) c.in_ok-add_cond-in-If.ensures)
    c.in_ok-add_block-in-If.ensures.pairs c.in_ok-add_block-in-If-2.ensures.pairs)

pub add_stmt-returns-in_ok-add_body-in-For-clause-pairs : goal.add_stmt-returns-in_ok-add_body-in-For-clause-pairs
add_stmt-returns-in_ok-add_body-in-For-clause-pairs t c =
    rw c.in-For.is
    (pairs_added_for _ _ (drop c.args.base c.args.live.now.items) _ c.in-For.name c.in-For.lo c.in-For.hi _ c.as_slice-in-For.result.now _ _ _ _ _ _ c.as_slice-in-For.ensures c.as_slice-in-For-2.ensures
    (loop_as _ _ (drop c.args.base c.args.live.now.items) _ c.as_slice-in-For.result.now _ _ c.as_slice-barriers.ensures.value c.in_ok-add_loop-in-For.ensures.pairs)
    (expr_as _ _ _ _ c.in-For.lo _ _ c.as_slice-subject.ensures.value (sliced-same c.args.base _ _ _ c.deref-in-For.ensures.value c.in_ok-add_loop-in-For.ensures.restored) c.in_ok-add_expr-in-For.ensures)
    (expr_as _ _ _ _ c.in-For.hi _ _ c.as_slice-subject.ensures.value (sliced-same c.args.base _ _ _ c.deref-in-For-2.ensures.value c.in_ok-add_loop-in-For.ensures.restored) c.in_ok-add_expr-in-For-2.ensures)
    c.in_ok-add_body-in-For.ensures.pairs)

pub add_stmt-returns-in_ok-add_body-in-While-clause-pairs : goal.add_stmt-returns-in_ok-add_body-in-While-clause-pairs
add_stmt-returns-in_ok-add_body-in-While-clause-pairs t c =
    rw c.in-While.is
    (pairs_added_while _ _ (drop c.args.base c.args.live.now.items) _ c.in-While.test _ c.as_slice-in-While.result.now _ _ _ _ _ c.as_slice-in-While.ensures c.as_slice-in-While-2.ensures
    (loop_as _ _ (drop c.args.base c.args.live.now.items) _ c.as_slice-in-While.result.now _ _ c.as_slice-barriers.ensures.value c.in_ok-add_loop-in-While.ensures.pairs)
    (cond_as _ _ _ _ c.in-While.test _ _ c.as_slice-subject.ensures.value refl c.in_ok-add_cond-in-While.ensures)
    c.in_ok-add_body-in-While.ensures.pairs)
