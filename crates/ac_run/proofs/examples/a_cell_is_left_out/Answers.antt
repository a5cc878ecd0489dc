use Rattle.std.proofs.Common.{[], ◌∷◌, refl, pos}
use Rattle.ac_run.specs.declared.event.Event.TheVariants as event
use Rattle.ac_run.specs.Opened.{hidden, expr_shape, expr_child, cond_shape, cond_child, stmt_shape, stmt_child}
use Rattle.ac_run.specs.Memory.{scalar}
use Rattle.ac_run.specs.Examples.{a, x, cell, nine_turns}
use Rattle.ac_run.proofs.Judging.{wrote-false}
use Rattle.ac_run.proofs.examples.a_cell_is_left_out.Goals as goal

pub returns-clause-not_written : goal.returns-clause-not_written
unfolding hidden expr_shape expr_child cond_shape cond_child stmt_shape stmt_child
returns-clause-not_written c = (nine_turns, event.Read (cell a (pos 9)), event.Write (scalar x) (pos 7) ∷ [], refl, (refl, wrote-false nine_turns (cell a (pos 9)) refl))
