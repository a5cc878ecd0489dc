use Rattle.std.proofs.Common.{◌≡◌, ◌+◌, max, drop}
use Rattle.ac_logic.specs.Size.{saturated}
use Rattle.ac_conditions.specs.Weights.{Weights}
use Rattle.ac_profile.specs.Profile.{sizes, depths, profile_size, profile_depth}
use Rattle.ac_profile.proofs.counts.add_all.Given as goal

-- with the rest the profile is one with all
abbrev pub invariant-loop-occurrence : goal.invariant-loop-occurrence
invariant-loop-occurrence l = record {
  size : (u : Weights) → saturated (profile_size u l.profile + sizes u (drop l.occurrence-index l.symbols)) ≡ saturated (profile_size u l.initial.profile + sizes u l.symbols);
  depth : (u : Weights) → saturated (max (profile_depth u l.profile) (depths u (drop l.occurrence-index l.symbols))) ≡ saturated (max (profile_depth u l.initial.profile) (depths u l.symbols));
}
