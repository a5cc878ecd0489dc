use Rattle.std.proofs.Common.{◌≡◌, drop}
use Rattle.ac_codes.specs.SideConditions.{run_writes}
use Rattle.ac_sameness.proofs.writes.+does_write.Given as goal

-- what is left decides
abbrev pub invariant-does_write-loop-stmt : goal.invariant-does_write-loop-stmt
invariant-does_write-loop-stmt l = run_writes l.name (drop l.stmt-index l.run) ≡ run_writes l.name l.run
