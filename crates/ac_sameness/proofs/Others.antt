-- Trees of two productions are not the same.
use Rattle.std.proofs.Common.{◌≡◌, false, refl}
use Rattle.ac_tree.specs.declared.program.Cond.{Cond}
use Rattle.ac_tree.specs.declared.program.CondKind.{CondKind}
use Rattle.ac_tree.specs.declared.program.CondKind.TheVariants as cond
use Rattle.ac_tree.specs.declared.program.Expr.{Expr}
use Rattle.ac_tree.specs.declared.program.ExprKind.{ExprKind}
use Rattle.ac_tree.specs.declared.program.ExprKind.TheVariants as expr
use Rattle.ac_tree.specs.Patterns.{Negative, Plus, Minus, Times, Negation, Conjunction, Disjunction}
use Rattle.ac_codes.specs.Sameness.{same_expr, same_cond}
use Rattle.ac_sameness.specs.Opened.{hidden, expr_shape, expr_child, cond_shape, cond_child}

pub unlike_negative : (x : Expr) (e : ExprKind) → ((y : Expr) → e ≡ expr.Neg y → ⊥) → false ≡ same_expr (expr.Neg x) e
unfolding hidden expr_shape expr_child
unlike_negative x (Negative m b) h = absurd (h (record { node = m; kind = b }) refl)
unlike_negative x _ h = refl

pub unlike_plus : (x y : Expr) (e : ExprKind) → ((v w : Expr) → e ≡ expr.Add v w → ⊥) → false ≡ same_expr (expr.Add x y) e
unfolding hidden expr_shape expr_child
unlike_plus x y (Plus m c k d) h = absurd (h (record { node = m; kind = c }) (record { node = k; kind = d }) refl)
unlike_plus x y _ h = refl

pub unlike_minus : (x y : Expr) (e : ExprKind) → ((v w : Expr) → e ≡ expr.Sub v w → ⊥) → false ≡ same_expr (expr.Sub x y) e
unfolding hidden expr_shape expr_child
unlike_minus x y (Minus m c k d) h = absurd (h (record { node = m; kind = c }) (record { node = k; kind = d }) refl)
unlike_minus x y _ h = refl

pub unlike_times : (x y : Expr) (e : ExprKind) → ((v w : Expr) → e ≡ expr.Mul v w → ⊥) → false ≡ same_expr (expr.Mul x y) e
unfolding hidden expr_shape expr_child
unlike_times x y (Times m c k d) h = absurd (h (record { node = m; kind = c }) (record { node = k; kind = d }) refl)
unlike_times x y _ h = refl

pub unlike_negation : (x : Cond) (e : CondKind) → ((y : Cond) → e ≡ cond.Not y → ⊥) → false ≡ same_cond (cond.Not x) e
unfolding hidden cond_shape cond_child
unlike_negation x (Negation m b) h = absurd (h (record { node = m; kind = b }) refl)
unlike_negation x _ h = refl

pub unlike_conjunction : (x y : Cond) (e : CondKind) → ((v w : Cond) → e ≡ cond.And v w → ⊥) → false ≡ same_cond (cond.And x y) e
unfolding hidden cond_shape cond_child
unlike_conjunction x y (Conjunction m c k d) h = absurd (h (record { node = m; kind = c }) (record { node = k; kind = d }) refl)
unlike_conjunction x y _ h = refl

pub unlike_disjunction : (x y : Cond) (e : CondKind) → ((v w : Cond) → e ≡ cond.Or v w → ⊥) → false ≡ same_cond (cond.Or x y) e
unfolding hidden cond_shape cond_child
unlike_disjunction x y (Disjunction m c k d) h = absurd (h (record { node = m; kind = c }) (record { node = k; kind = d }) refl)
unlike_disjunction x y _ h = refl
