use Rattle.ac_run.proofs.SomeStart.{some_start}
use Rattle.ac_run.proofs.start.some_start_fits.Goals as goal

pub returns : goal.returns
returns c = some_start
