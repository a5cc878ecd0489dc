use Rattle.std.proofs.Common.{[], ◌∷◌, refl, pos, inl, inr, arith}
use Rattle.ac_tree.specs.declared.policy.PolicyName.TheVariants.{Symm}
use Rattle.ac_run.specs.declared.event.Event.TheVariants as event
use Rattle.ac_run.specs.Opened.{hidden, expr_shape, expr_child, cond_shape, cond_child, stmt_shape, stmt_child}
use Rattle.ac_run.specs.Examples.{a, k, covariance, use_matrix, matrix}
use Rattle.ac_run.proofs.Judging.{fine_never}
use Rattle.ac_run.proofs.examples.a_listed_role_asks_for_symmetry.Goals as goal

pub returns-clause-symmetric : goal.returns-clause-symmetric
unfolding hidden expr_shape expr_child cond_shape cond_child stmt_shape stmt_child
returns-clause-symmetric c = fine_never (use_matrix 2 2) (matrix (pos 1 ∷ pos 2 ∷ pos 2 ∷ pos 4 ∷ [])) (covariance ∷ []) Symm _ refl

pub returns-clause-mirrored : goal.returns-clause-mirrored
unfolding hidden expr_shape expr_child cond_shape cond_child stmt_shape stmt_child
returns-clause-mirrored c = ([], event.Hand a covariance (pos 1 ∷ pos 2 ∷ pos 3 ∷ pos 4 ∷ []), [], refl, ((0, omega arith, refl), inr (0, 1, omega arith, omega arith, λ e. cc)))

pub returns-clause-unlisted : goal.returns-clause-unlisted
unfolding hidden expr_shape expr_child cond_shape cond_child stmt_shape stmt_child
returns-clause-unlisted c = fine_never (use_matrix 2 2) (matrix (pos 1 ∷ pos 2 ∷ pos 3 ∷ pos 4 ∷ [])) (k ∷ []) Symm _ refl

pub returns-clause-not_square : goal.returns-clause-not_square
unfolding hidden expr_shape expr_child cond_shape cond_child stmt_shape stmt_child
returns-clause-not_square c = ([], event.Hand a covariance (pos 1 ∷ pos 1 ∷ []), [], refl, ((0, omega arith, refl), inl (λ e. omega (arith, e))))

pub returns-clause-vector : goal.returns-clause-vector
unfolding hidden expr_shape expr_child cond_shape cond_child stmt_shape stmt_child
returns-clause-vector c = ([], event.Hand a covariance (pos 1 ∷ []), [], refl, ((0, omega arith, refl), tt))
