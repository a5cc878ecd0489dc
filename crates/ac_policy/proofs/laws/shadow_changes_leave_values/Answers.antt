-- The clauses are the lemmas.
use Rattle.ac_policy.proofs.ShadowChanges.{closed_changes, values_stay, arrays_stay, new_scalars_stay, new_arrays_stay}
use Rattle.ac_policy.proofs.laws.shadow_changes_leave_values.Goals as goal

pub returns-clause-closed : goal.returns-clause-closed
returns-clause-closed c = closed_changes

pub returns-clause-scalars : goal.returns-clause-scalars
returns-clause-scalars c = values_stay

pub returns-clause-arrays : goal.returns-clause-arrays
returns-clause-arrays c = arrays_stay

pub returns-clause-new_scalars : goal.returns-clause-new_scalars
returns-clause-new_scalars c = new_scalars_stay

pub returns-clause-new_arrays : goal.returns-clause-new_arrays
returns-clause-new_arrays c = new_arrays_stay
