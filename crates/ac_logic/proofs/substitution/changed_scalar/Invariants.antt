use Rattle.std.proofs.Common.{◌≡◌, drop}
use Rattle.ac_logic.specs.Substitution.{scalar_after}
use Rattle.ac_logic.proofs.substitution.changed_scalar.Given as goal

abbrev pub invariant-loop-change : goal.invariant-loop-change
invariant-loop-change l = scalar_after l.changes l.symbol ≡ scalar_after (drop l.change-index l.changes) l.symbol
