use Rattle.std.proofs.Common.{◌≡◌, take}
use Rattle.ac_proof.proofs.check.copied.Given as goal

abbrev pub invariant-loop-f : goal.invariant-loop-f
invariant-loop-f l = l.copy.items ≡ take l.f-index l.hyps
