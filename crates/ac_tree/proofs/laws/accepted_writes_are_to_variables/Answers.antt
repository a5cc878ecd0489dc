-- The clauses are the lemmas.
use Rattle.ac_tree.proofs.StaticLaws.{written_is_variable, runs_over_scalar}
use Rattle.ac_tree.proofs.laws.accepted_writes_are_to_variables.Goals as goal

pub returns-clause-written : goal.returns-clause-written
returns-clause-written c = written_is_variable

pub returns-clause-scalar : goal.returns-clause-scalar
returns-clause-scalar c = runs_over_scalar
