use Rattle.std.proofs.Common.{length}
use Rattle.ac_logic.proofs.closed.+are_changes_closed.Given as goal

abbrev pub decreases-are_changes_closed : goal.decreases-are_changes_closed
decreases-are_changes_closed l = length l.changes.now
