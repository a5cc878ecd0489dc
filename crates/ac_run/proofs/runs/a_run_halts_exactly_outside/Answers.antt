use Rattle.ac_run.proofs.Halts.{halted_where_bad}
use Rattle.ac_run.proofs.runs.a_run_halts_exactly_outside.Goals as goal

pub returns : goal.returns
returns c = halted_where_bad
