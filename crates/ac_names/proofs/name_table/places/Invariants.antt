-- The declarations so far have their places.
use Rattle.std.proofs.Common.{take}
use Rattle.ac_names.specs.Places.{ArePlaces}
use Rattle.ac_names.proofs.name_table.places.Given as goal

abbrev pub invariant-loop-place : goal.invariant-loop-place
invariant-loop-place l = ArePlaces (take l.place l.items) l.places.entries
