use Rattle.std.proofs.Common.{[], refl}
use Rattle.ac_tree.specs.declared.policy.PolicyName.TheVariants.{Init, Bounds}
use Rattle.ac_run.specs.Opened.{hidden, expr_shape, expr_child, cond_shape, cond_child, stmt_shape, stmt_child}
use Rattle.ac_run.specs.Examples.{fill, fill_start}
use Rattle.ac_run.proofs.Judging.{fine_never}
use Rattle.ac_run.proofs.examples.a_whole_array_is_filled.Goals as goal

pub returns-clause-written_before : goal.returns-clause-written_before
unfolding hidden expr_shape expr_child cond_shape cond_child stmt_shape stmt_child
returns-clause-written_before c = fine_never (fill 9) fill_start [] Init _ refl

pub returns-clause-inside : goal.returns-clause-inside
unfolding hidden expr_shape expr_child cond_shape cond_child stmt_shape stmt_child
returns-clause-inside c = fine_never (fill 9) fill_start [] Bounds _ refl
