use Rattle.std.proofs.Common.{[], refl, pos}
use Rattle.ac_run.specs.declared.event.Event.TheVariants as event
use Rattle.ac_run.specs.Opened.{hidden, expr_shape, expr_child, cond_shape, cond_child, stmt_shape, stmt_child}
use Rattle.ac_run.specs.Examples.{a, cell}
use Rattle.ac_run.proofs.Judging.{wrote-false}
use Rattle.ac_run.proofs.examples.a_read_outside_halts.Goals as goal

pub returns-clause-outside : goal.returns-clause-outside
unfolding hidden expr_shape expr_child cond_shape cond_child stmt_shape stmt_child
returns-clause-outside c = ([], event.Read (cell a (pos 4)), [], refl, refl)

pub returns-clause-not_written : goal.returns-clause-not_written
unfolding hidden expr_shape expr_child cond_shape cond_child stmt_shape stmt_child
returns-clause-not_written c = ([], event.Read (cell a (pos 4)), [], refl, (refl, wrote-false [] (cell a (pos 4)) refl))
