-- The clauses are the lemmas.
use Rattle.ac_tree.proofs.StaticLaws.{keeps_loop, ends_read_no_variable}
use Rattle.ac_tree.proofs.laws.accepted_loops_are_kept.Goals as goal

pub returns-clause-kept : goal.returns-clause-kept
returns-clause-kept c = keeps_loop

pub returns-clause-ends : goal.returns-clause-ends
returns-clause-ends c = ends_read_no_variable
