use Rattle.std.proofs.Common.{refl, sym, ◌∙◌}
use Rattle.ac_ground.proofs.Tables.{found_index}
use Rattle.ac_ground.proofs.index.place_of.Goals as goal

pub returns-then-is_index-clause-place : goal.returns-then-is_index-clause-place
returns-then-is_index-clause-place c = found_index c.args.indexes.now _ c.loop-place.place _ c.index-indexes-place.result refl c.loop-place-test.true c.index-indexes-place.is (sym c.is_index.ensures ∙ c.if-is_index.true)
