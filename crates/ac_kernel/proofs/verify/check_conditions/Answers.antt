use Rattle.ac_kernel.proofs.Reasons.{entries_refused}
use Rattle.ac_kernel.proofs.verify.check_conditions.Goals as goal

pub returns-in_err-check_entries-clause-refused : goal.returns-in_err-check_entries-clause-refused
returns-in_err-check_entries-clause-refused c =
    entries_refused c.args.conditions.now c.args.part.now c.as_slice-entries.result.now c.from_residual.result _ c.as_slice-entries.ensures c.from_residual.ensures.1 c.in_err-check_entries.ensures.refused
