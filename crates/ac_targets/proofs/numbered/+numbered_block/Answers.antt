use Rattle.std.proofs.Common.{◌≡◌, ◌<◌, get_or, length, ap, rules, arith}
use Rattle.ac_tree.specs.declared.program.StmtKind.{StmtKind}
use Rattle.ac_tree.specs.Preorder.{inside_stmt}
use Rattle.ac_targets.proofs.Ordered.{told_weaker, after_own, index_and_expr, numbered_if, numbered_for, numbered_while, drop_next, block_next}
use Rattle.ac_targets.proofs.numbered.+numbered_block.Goals as goal

pub behind_block-loop-stmt-preserved : goal.behind_block-loop-stmt-preserved
behind_block-loop-stmt-preserved t c = λ end h.
    let block = c.args.block.now in
    let i = c.loop-stmt.stmt-index in
    let st = c.stmt-item.result in
    let low : i < length block = first_of (search rules, omega (arith, c.loop-stmt-test.true)) in
    let read : st ≡ get_or block i st = first_of (cc, search rules) in
    c.loop-stmt.invariant end (block_next block i c.loop-stmt.at c.in_ok-at.at end st (drop_next block i st low read) c.in_ok-at.ensures h)

pub behind_stmt-returns-in_ok-middle-in-Put : goal.behind_stmt-returns-in_ok-middle-in-Put
behind_stmt-returns-in_ok-middle-in-Put t c =
    told_weaker _ _
    (λ d h. after_own c.args.next c.in_ok-inner.inner d c.args.stmt.now.node.id (inside_stmt c.args.stmt.now.kind) c.in_ok-inner.ensures
    (index_and_expr c.in_ok-inner.inner c.in_ok-middle-in-Put.middle d (inside_stmt c.args.stmt.now.kind) c.in-Put.index c.in-Put.value (ap (λ (k : StmtKind). inside_stmt k) c.in-Put.is) c.in_ok-middle-in-Put.ensures h))
    c.behind_expr-in-Put.result c.behind_expr-in-Put.ensures

pub behind_stmt-returns-in_ok-second-in-If : goal.behind_stmt-returns-in_ok-second-in-If
behind_stmt-returns-in_ok-second-in-If t c =
    told_weaker _ _
    (λ d h. numbered_if c.args.next c.in_ok-inner.inner c.in_ok-first-in-If.first c.in_ok-second-in-If.second d c.args.stmt.now.node.id c.args.stmt.now.kind c.in-If.test _ _ c.as_slice.result.now c.as_slice-in-If.result.now
    c.in-If.is c.as_slice.ensures c.as_slice-in-If.ensures c.in_ok-inner.ensures c.in_ok-first-in-If.ensures c.in_ok-second-in-If.ensures h)
    c.behind_block-in-If.result c.behind_block-in-If.ensures

pub behind_stmt-returns-in_ok-second-in-For : goal.behind_stmt-returns-in_ok-second-in-For
behind_stmt-returns-in_ok-second-in-For t c =
    told_weaker _ _
    (λ d h. numbered_for c.args.next c.in_ok-inner.inner c.in_ok-first-in-For.first c.in_ok-second-in-For.second d c.args.stmt.now.node.id c.args.stmt.now.kind c.in-For.name c.in-For.lo c.in-For.hi _ c.as_slice-in-For.result.now
    c.in-For.is c.as_slice-in-For.ensures c.in_ok-inner.ensures c.in_ok-first-in-For.ensures c.in_ok-second-in-For.ensures h)
    c.behind_block-in-For.result c.behind_block-in-For.ensures

pub behind_stmt-returns-in_ok-first-in-While : goal.behind_stmt-returns-in_ok-first-in-While
behind_stmt-returns-in_ok-first-in-While t c =
    told_weaker _ _
    (λ d h. numbered_while c.args.next c.in_ok-inner.inner c.in_ok-first-in-While.first d c.args.stmt.now.node.id c.args.stmt.now.kind c.in-While.test _ c.as_slice-in-While.result.now
    c.in-While.is c.as_slice-in-While.ensures c.in_ok-inner.ensures c.in_ok-first-in-While.ensures h)
    c.behind_block-in-While.result c.behind_block-in-While.ensures
