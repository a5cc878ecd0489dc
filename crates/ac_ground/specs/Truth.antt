-- The truth of a ground form under a valuation.
use Rattle.std.specs.Prelude.{Bool, true, false, not, ◌&&◌, ◌||◌}
use Rattle.ac_logic.specs.declared.formula.Formula.{Formula, True, False, Le, Eq}
use Rattle.ac_logic.specs.Patterns.{Negation, Conjunction, Disjunction, Implication, Every, Labelled}
use Rattle.ac_ground.specs.declared.valuation.Valuation.{Valuation}
use Rattle.ac_ground.specs.Numbers.{at_most, equal}
use Rattle.ac_ground.specs.Opened.{hidden, formula_shape, formula_child}

-- No `all` stands in a ground form; one that does is not true.
abbrev pub truth : Valuation → Formula → Bool
unfolding hidden formula_shape formula_child
truth v True = true
truth v False = false
truth v (Le s t) = at_most v s t
truth v (Eq s t) = equal v s t
truth v (Negation f) = not (truth v f)
truth v (Conjunction f g) = truth v f && truth v g
truth v (Disjunction f g) = truth v f || truth v g
truth v (Implication f g) = not (truth v f) || truth v g
truth v (Every f) = false
truth v (Labelled l f) = truth v f
