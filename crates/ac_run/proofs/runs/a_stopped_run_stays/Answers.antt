use Rattle.ac_run.proofs.Growth.{run-stays}
use Rattle.ac_run.proofs.runs.a_stopped_run_stays.Goals as goal

pub returns : goal.returns
returns c = run-stays
