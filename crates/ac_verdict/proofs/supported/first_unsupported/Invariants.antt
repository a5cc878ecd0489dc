use Rattle.std.proofs.Common.{◌≤◌, take}
use Rattle.ac_verdict.specs.Supported.{AreStraight}
use Rattle.ac_verdict.proofs.supported.first_unsupported.Given as goal

-- the statements so far have a verdict
abbrev pub invariant-loop-i : goal.invariant-loop-i
invariant-loop-i l = AreStraight l.program (take l.i l.statement-items) × (l.i ≤ 1000)
