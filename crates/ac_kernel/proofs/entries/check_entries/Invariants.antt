use Rattle.ac_kernel.specs.Entries.{AreShown}
use Rattle.ac_kernel.proofs.entries.check_entries.Given as goal

-- the conditions before are shown
abbrev pub invariant-loop-i : goal.invariant-loop-i
invariant-loop-i l = AreShown l.conditions l.entries l.i
