use Rattle.std.proofs.Common.{◌+◌, max}
use Rattle.ac_conditions.specs.Weights.{weight}
use Rattle.ac_profile.specs.Opened.{hidden, formula_shape, formula_child, term_shape, term_child, array_shape, array_child}
use Rattle.ac_profile.proofs.profile.ProfilePrecondition.labelled.Goals as goal

pub returns : goal.returns
unfolding hidden formula_shape formula_child term_shape term_child array_shape array_child
returns c = λ f h. c.add_above.ensures (λ u. weight ◌+◌ u f) (λ u. weight max u f) h
