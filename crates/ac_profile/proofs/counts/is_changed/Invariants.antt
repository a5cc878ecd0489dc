use Rattle.std.proofs.Common.{◌≡◌, drop}
use Rattle.ac_profile.specs.Added.{is_changed}
use Rattle.ac_profile.proofs.counts.is_changed.Given as goal

abbrev pub invariant-loop-change : goal.invariant-loop-change
invariant-loop-change l = is_changed l.changes l.is_array l.symbol ≡ is_changed (drop l.change-index l.changes) l.is_array l.symbol
