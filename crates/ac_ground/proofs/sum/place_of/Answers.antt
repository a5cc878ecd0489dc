use Rattle.std.proofs.Common.{sym, ◌∙◌}
use Rattle.ac_ground.proofs.Pairing.{without_at}
use Rattle.ac_ground.proofs.sum.place_of.Goals as goal

pub returns-then-is_equal_part-clause-rest : goal.returns-then-is_equal_part-clause-rest
returns-then-is_equal_part-clause-rest c = without_at c.args.part c.args.parts.now c.loop-place.place _ c.loop-place-test.true c.loop-place.invariant (sym c.is_equal_part.ensures ∙ c.if-is_equal_part.true)
