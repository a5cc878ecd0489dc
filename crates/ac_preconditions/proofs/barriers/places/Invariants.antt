use Rattle.std.proofs.Common.{◌≡◌, ◌++◌, drop}
use Rattle.ac_conditions.specs.Part.{places_of}
use Rattle.ac_preconditions.proofs.barriers.places.Given as goal

abbrev pub invariant-loop-annotation : goal.invariant-loop-annotation
invariant-loop-annotation l = l.found.items ++ places_of (drop l.annotation-index l.annotations) ≡ places_of l.annotations
