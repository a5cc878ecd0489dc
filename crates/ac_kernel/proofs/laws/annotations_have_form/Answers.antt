-- The clauses are the lemmas.
use Rattle.ac_kernel.proofs.InForm.{behind_statements, without_labels}
use Rattle.ac_kernel.proofs.laws.annotations_have_form.Goals as goal

pub returns-clause-behind : goal.returns-clause-behind
returns-clause-behind g = behind_statements

pub returns-clause-unlabelled : goal.returns-clause-unlabelled
returns-clause-unlabelled g = without_labels
