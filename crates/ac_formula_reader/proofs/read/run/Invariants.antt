use Rattle.std.proofs.Common.{ℕ, length, ◌-◌, ◌≤◌}
use Rattle.ac_formula_reader.proofs.Running.{Runs}
use Rattle.ac_formula_reader.proofs.read.run.Given as goal

abbrev pub invariant-loop-at : goal.invariant-loop-at
invariant-loop-at l = (l.at ≤ length l.bytes) × Runs l.fn.begun l.bytes l.stack l.state l.at

abbrev pub decreases-loop-at : goal.decreases-loop-at
decreases-loop-at l = length l.bytes - l.at
