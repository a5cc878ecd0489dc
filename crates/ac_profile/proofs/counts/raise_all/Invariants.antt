use Rattle.std.proofs.Common.{◌≡◌}
use Rattle.ac_profile.proofs.Raised.{raised_to}
use Rattle.ac_profile.proofs.counts.raise_all.Given as goal

abbrev pub invariant-loop-occurrence : goal.invariant-loop-occurrence
invariant-loop-occurrence l = l.occurrence-items ≡ raised_to l.by l.occurrence-index l.initial.occurrence-items
