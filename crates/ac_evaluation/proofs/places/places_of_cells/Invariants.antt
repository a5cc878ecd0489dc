use Rattle.std.proofs.Common.{map, take}
use Rattle.ac_evaluation.specs.Places.{ArePlaces}
use Rattle.ac_evaluation.proofs.places.places_of_cells.Given as goal

-- the names so far have their places
abbrev pub invariant-loop-place : goal.invariant-loop-place
invariant-loop-place l = ArePlaces (map (λ d. d.name) (take l.place l.cells)) l.places.entries
