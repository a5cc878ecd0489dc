use Rattle.std.proofs.Common.{ap}
use Rattle.ac_evaluation.proofs.NamePlaces.{entered_next, kept_next}
use Rattle.ac_evaluation.proofs.places.places_of_cells.Goals as goal
use Rattle.ac_evaluation.proofs.places.places_of_cells.Goals.{then-not-contains_key+in_ok-name+in_ok-insert, else-not-contains_key}

pub loop-place-preserved : goal.loop-place-preserved
loop-place-preserved c = elim c.if-not-contains_key.branch [
  | then-not-contains_key+in_ok-name+in_ok-insert w ↦
      entered_next (λ d. d.name) c.args.cells.now c.loop-place.place c.index-cells-place.result c.loop-place-test.true c.index-cells-place.is
      c.loop-place.places.entries c.if-not-contains_key.places.entries w.in_ok-name.name c.contains_key.result
      c.loop-place.invariant w.in_ok-name.ensures.cases c.contains_key.ensures w.if-not-contains_key.true (rw w.places-is w.in_ok-insert.ensures.entries)
  | else-not-contains_key w ↦
      kept_next (λ d. d.name) c.args.cells.now c.loop-place.place c.index-cells-place.result c.loop-place-test.true c.index-cells-place.is
      c.loop-place.places.entries c.if-not-contains_key.places.entries c.contains_key.result
      c.loop-place.invariant c.contains_key.ensures w.if-not-contains_key.false (ap (λ m. m.entries) w.places-is)
]
