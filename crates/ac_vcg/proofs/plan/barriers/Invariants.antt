use Rattle.std.proofs.Common.{◌≡◌, ℕ, ◌||◌, drop}
use Rattle.ac_flow.specs.Cuts.{has_barrier, has_place}
use Rattle.ac_conditions.specs.Part.{places_of}
use Rattle.ac_vcg.proofs.plan.barriers.Given as goal

abbrev pub invariant-loop-annotation : goal.invariant-loop-annotation
invariant-loop-annotation l = (n : ℕ) → (has_barrier l.cuts.items n || has_place (places_of (drop l.annotation-index l.annotations)) n) ≡ has_place (places_of l.annotations) n
