-- The clauses are the lemmas.
use Rattle.ac_tree.proofs.StaticLaws.{named_as_declared, handed_is_declared}
use Rattle.ac_tree.proofs.laws.accepted_names_are_declared.Goals as goal

pub returns-clause-named : goal.returns-clause-named
returns-clause-named c = named_as_declared

pub returns-clause-handed : goal.returns-clause-handed
returns-clause-handed c = handed_is_declared
