use Rattle.std.proofs.Common.{◌≡◌, ◌+◌, max, vec_len}
use Rattle.ac_conditions.specs.Weights.{Weights, after}
use Rattle.ac_profile.specs.Profile.{sizes, depths}
use Rattle.ac_profile.proofs.counts.part.Given as goal

abbrev pub decreases-loop-occurrence : goal.decreases-loop-occurrence
decreases-loop-occurrence l = vec_len l.symbols

-- those left and those in the two parts are all
abbrev pub invariant-loop-occurrence : goal.invariant-loop-occurrence
invariant-loop-occurrence l = record {
  size : (u : Weights) → sizes (after ◌+◌ u l.changes) l.symbols.items + sizes u l.kept.items + sizes (after ◌+◌ u l.changes) l.changed.items ≡ sizes (after ◌+◌ u l.changes) l.initial.symbols.items;
  depth : (u : Weights) → max (max (depths (after max u l.changes) l.symbols.items) (depths u l.kept.items)) (depths (after max u l.changes) l.changed.items) ≡ depths (after max u l.changes) l.initial.symbols.items;
}
