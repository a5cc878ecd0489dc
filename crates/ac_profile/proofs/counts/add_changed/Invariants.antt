use Rattle.std.proofs.Common.{◌≡◌, ℕ, drop}
use Rattle.ac_conditions.specs.Weights.{Weights, after}
use Rattle.ac_profile.specs.Profile.{symbol_weight}
use Rattle.ac_profile.proofs.counts.add_changed.Given as goal

-- nothing is added yet, and the changes so far are of other symbols
abbrev pub invariant-loop-change : goal.invariant-loop-change
invariant-loop-change l = record {
  kept : l.profile ≡ l.initial.profile;
  past : (join : ℕ → ℕ → ℕ) (u : Weights) → symbol_weight (after join u l.changes) l.occurrence.is_array l.occurrence.symbol ≡ symbol_weight (after join u (drop l.change-index l.changes)) l.occurrence.is_array l.occurrence.symbol;
}
