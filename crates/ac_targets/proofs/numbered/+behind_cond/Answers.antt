use Rattle.std.proofs.Common.{ap}
use Rattle.ac_tree.specs.declared.program.CondKind.{CondKind}
use Rattle.ac_tree.specs.Preorder.{inside_cond}
use Rattle.ac_targets.specs.Opened.{hidden, cond_shape, cond_child}
use Rattle.ac_targets.proofs.Ordered.{told_weaker, after_own, two_exprs, two_conds}
use Rattle.ac_targets.proofs.numbered.+behind_cond.Goals as goal

pub returns-in_ok-middle-in-Rel : goal.returns-in_ok-middle-in-Rel
unfolding hidden cond_shape cond_child
returns-in_ok-middle-in-Rel t c =
    told_weaker _ _
    (λ d h. after_own c.args.next c.in_ok-inner.inner d c.args.cond.now.node.id (inside_cond c.args.cond.now.kind) c.in_ok-inner.ensures
    (two_exprs c.in_ok-inner.inner c.in_ok-middle-in-Rel.middle d (inside_cond c.args.cond.now.kind) c.in-Rel.a c.in-Rel.b c.get.result.now c.get-in-Rel.result.now
    (ap (λ (k : CondKind). inside_cond k) c.in-Rel.is) c.get.ensures c.get-in-Rel.ensures c.in_ok-middle-in-Rel.ensures h))
    c.behind_expr-in-Rel.result c.behind_expr-in-Rel.ensures

pub returns-in_ok-middle-in-And : goal.returns-in_ok-middle-in-And
unfolding hidden cond_shape cond_child
returns-in_ok-middle-in-And t c =
    told_weaker _ _
    (λ d h. after_own c.args.next c.in_ok-inner.inner d c.args.cond.now.node.id (inside_cond c.args.cond.now.kind) c.in_ok-inner.ensures
    (two_conds c.in_ok-inner.inner c.in_ok-middle-in-And.middle d (inside_cond c.args.cond.now.kind) c.in-And.a c.in-And.b c.get-in-And.result.now c.get-in-And-2.result.now
    (ap (λ (k : CondKind). inside_cond k) c.in-And.is) c.get-in-And.ensures c.get-in-And-2.ensures c.in_ok-middle-in-And.ensures h))
    c.behind_cond-in-And-2.result c.behind_cond-in-And-2.ensures

pub returns-in_ok-middle-in-Or : goal.returns-in_ok-middle-in-Or
unfolding hidden cond_shape cond_child
returns-in_ok-middle-in-Or t c =
    told_weaker _ _
    (λ d h. after_own c.args.next c.in_ok-inner.inner d c.args.cond.now.node.id (inside_cond c.args.cond.now.kind) c.in_ok-inner.ensures
    (two_conds c.in_ok-inner.inner c.in_ok-middle-in-Or.middle d (inside_cond c.args.cond.now.kind) c.in-Or.a c.in-Or.b c.get-in-Or.result.now c.get-in-Or-2.result.now
    (ap (λ (k : CondKind). inside_cond k) c.in-Or.is) c.get-in-Or.ensures c.get-in-Or-2.ensures c.in_ok-middle-in-Or.ensures h))
    c.behind_cond-in-Or-2.result c.behind_cond-in-Or-2.ensures
