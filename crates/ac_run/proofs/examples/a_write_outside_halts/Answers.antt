use Rattle.std.proofs.Common.{[], refl, pos}
use Rattle.ac_tree.specs.declared.policy.PolicyName.TheVariants.{Init}
use Rattle.ac_run.specs.declared.event.Event.TheVariants as event
use Rattle.ac_run.specs.Opened.{hidden, expr_shape, expr_child, cond_shape, cond_child, stmt_shape, stmt_child}
use Rattle.ac_run.specs.Examples.{a, cell, write_outside, four, start_with}
use Rattle.ac_run.proofs.Judging.{fine_never}
use Rattle.ac_run.proofs.examples.a_write_outside_halts.Goals as goal

pub returns-clause-outside : goal.returns-clause-outside
unfolding hidden expr_shape expr_child cond_shape cond_child stmt_shape stmt_child
returns-clause-outside c = ([], event.Write (cell a (pos 4)) (pos 1), [], refl, refl)

pub returns-clause-reads_nothing : goal.returns-clause-reads_nothing
unfolding hidden expr_shape expr_child cond_shape cond_child stmt_shape stmt_child
returns-clause-reads_nothing c = fine_never write_outside (start_with four) [] Init _ refl
