use Rattle.std.proofs.Common.{◌≡◌, ◌+◌, max, drop}
use Rattle.ac_logic.specs.Size.{saturated}
use Rattle.ac_conditions.specs.Weights.{Weights, after}
use Rattle.ac_profile.specs.Profile.{sizes, depths, profile_size, profile_depth}
use Rattle.ac_profile.proofs.counts.add_all_changed.Given as goal

-- with what the changes put in the place of the rest the profile is one with all
abbrev pub invariant-loop-occurrence : goal.invariant-loop-occurrence
invariant-loop-occurrence l = record {
  size : (u : Weights) → saturated (profile_size u l.profile + sizes (after ◌+◌ u l.changes) (drop l.occurrence-index l.symbols)) ≡ saturated (profile_size u l.initial.profile + sizes (after ◌+◌ u l.changes) l.symbols);
  depth : (u : Weights) → saturated (max (profile_depth u l.profile) (depths (after max u l.changes) (drop l.occurrence-index l.symbols))) ≡ saturated (max (profile_depth u l.initial.profile) (depths (after max u l.changes) l.symbols));
}
