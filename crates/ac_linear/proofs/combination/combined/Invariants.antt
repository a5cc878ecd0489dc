use Rattle.std.proofs.Common.{◌≡◌, pos, drop}
use Rattle.ac_linear.specs.NormalForm.{number_form}
use Rattle.ac_linear.specs.Combination.{combined_with}
use Rattle.ac_linear.specs.Places.{InOrder}
use Rattle.ac_linear.proofs.combination.combined.Given as goal

abbrev pub invariant-loop-fact : goal.invariant-loop-fact
invariant-loop-fact l = (combined_with l.sum l.fact-iterator.rest.items (drop l.i l.factors) ≡ combined_with (number_form (pos 0)) l.fn.facts.items l.factors) × InOrder l.sum.entries
