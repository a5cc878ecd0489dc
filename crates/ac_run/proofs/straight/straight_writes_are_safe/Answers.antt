use Rattle.ac_run.proofs.WritesWithin.{straight_safe}
use Rattle.ac_run.proofs.straight.straight_writes_are_safe.Goals as goal

pub returns : goal.returns
returns c = straight_safe
