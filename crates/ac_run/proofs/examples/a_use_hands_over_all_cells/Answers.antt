use Rattle.std.proofs.Common.{[], ◌∷◌, refl, pos}
use Rattle.ac_tree.specs.declared.policy.PolicyName.TheVariants.{Init}
use Rattle.ac_run.specs.declared.event.Event.TheVariants as event
use Rattle.ac_run.specs.Opened.{hidden, expr_shape, expr_child, cond_shape, cond_child, stmt_shape, stmt_child}
use Rattle.ac_run.specs.Examples.{a, covariance, cell, matrix, use_nothing, use_written, second_write}
use Rattle.ac_run.proofs.Judging.{wrote-false, fine_never}
use Rattle.ac_run.proofs.examples.a_use_hands_over_all_cells.Goals as goal

pub returns-clause-some_missing : goal.returns-clause-some_missing
unfolding hidden expr_shape expr_child cond_shape cond_child stmt_shape stmt_child
returns-clause-some_missing c = (event.Write (cell a (pos 0)) (pos 1) ∷ [], event.Hand a covariance (pos 1 ∷ pos 7 ∷ []), [], refl, (refl, (cell a (pos 1), refl, refl, wrote-false (event.Write (cell a (pos 0)) (pos 1) ∷ []) (cell a (pos 1)) refl)))

pub returns-clause-all_written : goal.returns-clause-all_written
unfolding hidden expr_shape expr_child cond_shape cond_child stmt_shape stmt_child
returns-clause-all_written c = fine_never (use_written second_write) (matrix (pos 7 ∷ pos 7 ∷ [])) [] Init _ refl

pub returns-clause-no_cells : goal.returns-clause-no_cells
unfolding hidden expr_shape expr_child cond_shape cond_child stmt_shape stmt_child
returns-clause-no_cells c = fine_never use_nothing (matrix []) [] Init _ refl
