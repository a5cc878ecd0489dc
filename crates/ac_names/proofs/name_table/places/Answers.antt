-- The table, declaration by declaration.
use Rattle.std.proofs.Common.{arith}
use Rattle.std.proofs.lemmas.Map.Text.{text_keys}
use Rattle.ac_names.proofs.Places.{place_in-step}
use Rattle.ac_names.proofs.name_table.places.Goals as goal

pub loop-place-preserved : goal.loop-place-preserved
loop-place-preserved c = λ x.
    rw (place_in-step c.args.items.now c.loop-place.place c.index-items-place.result x (omega arith) c.index-items-place.is)
    (grind (arith, text_keys, c.loop-place.invariant x, c.loop-place.invariant c.index-items-place.result.name))
