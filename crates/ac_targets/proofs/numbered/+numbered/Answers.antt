use Rattle.std.proofs.Common.{ap}
use Rattle.ac_tree.specs.declared.program.ExprKind.{ExprKind}
use Rattle.ac_tree.specs.declared.program.Index.{Index}
use Rattle.ac_tree.specs.Preorder.{inside_expr, inside_index}
use Rattle.ac_targets.specs.Opened.{hidden, expr_shape, expr_child}
use Rattle.ac_targets.proofs.Ordered.{told_weaker, after_own, two_exprs}
use Rattle.ac_targets.proofs.numbered.+numbered.Goals as goal

pub behind_expr-returns-in_ok-middle-in-Add : goal.behind_expr-returns-in_ok-middle-in-Add
unfolding hidden expr_shape expr_child
behind_expr-returns-in_ok-middle-in-Add t c =
    told_weaker _ _
    (λ d h. after_own c.args.next c.in_ok-inner.inner d c.args.expr.now.node.id (inside_expr c.args.expr.now.kind) c.in_ok-inner.ensures
    (two_exprs c.in_ok-inner.inner c.in_ok-middle-in-Add.middle d (inside_expr c.args.expr.now.kind) c.in-Add.a c.in-Add.b c.get-in-Add.result.now c.get-in-Add-2.result.now
    (ap (λ (k : ExprKind). inside_expr k) c.in-Add.is) c.get-in-Add.ensures c.get-in-Add-2.ensures c.in_ok-middle-in-Add.ensures h))
    c.behind_expr-in-Add-2.result c.behind_expr-in-Add-2.ensures

pub behind_expr-returns-in_ok-middle-in-Sub : goal.behind_expr-returns-in_ok-middle-in-Sub
unfolding hidden expr_shape expr_child
behind_expr-returns-in_ok-middle-in-Sub t c =
    told_weaker _ _
    (λ d h. after_own c.args.next c.in_ok-inner.inner d c.args.expr.now.node.id (inside_expr c.args.expr.now.kind) c.in_ok-inner.ensures
    (two_exprs c.in_ok-inner.inner c.in_ok-middle-in-Sub.middle d (inside_expr c.args.expr.now.kind) c.in-Sub.a c.in-Sub.b c.get-in-Sub.result.now c.get-in-Sub-2.result.now
    (ap (λ (k : ExprKind). inside_expr k) c.in-Sub.is) c.get-in-Sub.ensures c.get-in-Sub-2.ensures c.in_ok-middle-in-Sub.ensures h))
    c.behind_expr-in-Sub-2.result c.behind_expr-in-Sub-2.ensures

pub behind_expr-returns-in_ok-middle-in-Mul : goal.behind_expr-returns-in_ok-middle-in-Mul
unfolding hidden expr_shape expr_child
behind_expr-returns-in_ok-middle-in-Mul t c =
    told_weaker _ _
    (λ d h. after_own c.args.next c.in_ok-inner.inner d c.args.expr.now.node.id (inside_expr c.args.expr.now.kind) c.in_ok-inner.ensures
    (two_exprs c.in_ok-inner.inner c.in_ok-middle-in-Mul.middle d (inside_expr c.args.expr.now.kind) c.in-Mul.a c.in-Mul.b c.get-in-Mul.result.now c.get-in-Mul-2.result.now
    (ap (λ (k : ExprKind). inside_expr k) c.in-Mul.is) c.get-in-Mul.ensures c.get-in-Mul-2.ensures c.in_ok-middle-in-Mul.ensures h))
    c.behind_expr-in-Mul-2.result c.behind_expr-in-Mul-2.ensures

pub behind_index-returns-in_ok-middle-in-Two : goal.behind_index-returns-in_ok-middle-in-Two
unfolding hidden expr_shape expr_child
behind_index-returns-in_ok-middle-in-Two t c =
    told_weaker _ _
    (λ d h. two_exprs c.args.next c.in_ok-middle-in-Two.middle d (inside_index c.args.index.now) c.in-Two.a c.in-Two.b c.get-in-Two.result.now c.get-in-Two-2.result.now
    (ap (λ (x : Index). inside_index x) c.in-Two.is) c.get-in-Two.ensures c.get-in-Two-2.ensures c.in_ok-middle-in-Two.ensures h)
    c.behind_expr-in-Two-2.result c.behind_expr-in-Two-2.ensures
