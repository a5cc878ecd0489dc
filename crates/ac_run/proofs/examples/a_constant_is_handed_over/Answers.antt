use Rattle.std.proofs.Common.{[], ◌∷◌, refl, pos, arith}
use Rattle.ac_run.specs.declared.event.Event.TheVariants as event
use Rattle.ac_run.specs.Opened.{hidden, expr_shape, expr_child, cond_shape, cond_child, stmt_shape, stmt_child}
use Rattle.ac_run.specs.Memory.{scalar}
use Rattle.ac_run.specs.Examples.{k, covariance}
use Rattle.ac_run.proofs.Judging.{wrote-false}
use Rattle.ac_run.proofs.examples.a_constant_is_handed_over.Goals as goal

pub returns-clause-not_written : goal.returns-clause-not_written
unfolding hidden expr_shape expr_child cond_shape cond_child stmt_shape stmt_child
returns-clause-not_written c = ([], event.Hand k covariance (pos 3 ∷ []), [], refl, (refl, (scalar k, refl, refl, wrote-false [] (scalar k) refl)))

pub returns-clause-no_matrix : goal.returns-clause-no_matrix
unfolding hidden expr_shape expr_child cond_shape cond_child stmt_shape stmt_child
returns-clause-no_matrix c = ([], event.Hand k covariance (pos 3 ∷ []), [], refl, ((0, omega arith, refl), tt))
