use Rattle.ac_run.proofs.Growth.{run-grows}
use Rattle.ac_run.proofs.runs.a_trace_only_grows.Goals as goal

pub returns : goal.returns
returns c = run-grows
