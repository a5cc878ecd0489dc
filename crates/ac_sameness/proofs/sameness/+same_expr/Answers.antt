-- Where the first is a negation and the second none, and so on.
use Rattle.std.proofs.Common.{◌≡◌, false, sym, subst}
use Rattle.ac_tree.specs.declared.program.ExprKind.{ExprKind}
use Rattle.ac_codes.specs.Sameness.{same_expr as same_expr_of}
use Rattle.ac_sameness.proofs.Others.{unlike_negative, unlike_plus, unlike_minus, unlike_times}
use Rattle.ac_sameness.proofs.sameness.+same_expr.Goals as goal

pub same_expr-returns-in_default-4 : goal.same_expr-returns-in_default-4
same_expr-returns-in_default-4 t c =
    subst (λ (k : ExprKind). false ≡ same_expr_of k c.args.b.now.kind) (sym c.in_default.is-0) (unlike_negative c.in_default.field-0-0 c.args.b.now.kind c.in_default.not-Neg-1)

pub same_expr-returns-in_default-5 : goal.same_expr-returns-in_default-5
same_expr-returns-in_default-5 t c =
    subst (λ (k : ExprKind). false ≡ same_expr_of k c.args.b.now.kind) (sym c.in_default.is-0) (unlike_plus c.in_default.field-0-0 c.in_default.field-1-0 c.args.b.now.kind c.in_default.not-Add-1)

pub same_expr-returns-in_default-6 : goal.same_expr-returns-in_default-6
same_expr-returns-in_default-6 t c =
    subst (λ (k : ExprKind). false ≡ same_expr_of k c.args.b.now.kind) (sym c.in_default.is-0) (unlike_minus c.in_default.field-0-0 c.in_default.field-1-0 c.args.b.now.kind c.in_default.not-Sub-1)

pub same_expr-returns-in_default-7 : goal.same_expr-returns-in_default-7
same_expr-returns-in_default-7 t c =
    subst (λ (k : ExprKind). false ≡ same_expr_of k c.args.b.now.kind) (sym c.in_default.is-0) (unlike_times c.in_default.field-0-0 c.in_default.field-1-0 c.args.b.now.kind c.in_default.not-Mul-1)
