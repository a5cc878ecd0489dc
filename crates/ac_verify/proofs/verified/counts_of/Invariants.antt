use Rattle.std.proofs.Common.{take}
use Rattle.ac_verify.proofs.Parts.{AreCounted}
use Rattle.ac_verify.proofs.verified.counts_of.Given as goal

-- the parts before are accepted and counted
abbrev pub invariant-loop-i : goal.invariant-loop-i
invariant-loop-i l = AreCounted l.program l.set (take l.i l.parts) l.counts.items
