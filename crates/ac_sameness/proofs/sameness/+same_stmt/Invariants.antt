use Rattle.std.proofs.Common.{◌≡◌, drop}
use Rattle.ac_codes.specs.Sameness.{same_run as same_run_of}
use Rattle.ac_sameness.proofs.sameness.+same_stmt.Given as goal

-- what is left decides
abbrev pub invariant-same_run-loop-at : goal.invariant-same_run-loop-at
invariant-same_run-loop-at l = same_run_of (drop l.at l.a) (drop l.at l.b) ≡ same_run_of l.a l.b
