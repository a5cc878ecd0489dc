use Rattle.std.proofs.Common.{◌+◌, max}
use Rattle.ac_conditions.specs.Weights.{weight}
use Rattle.ac_profile.specs.Opened.{hidden, formula_shape, formula_child, term_shape, term_child, array_shape, array_child}
use Rattle.ac_profile.proofs.profile.ProfilePrecondition.and.Goals as goal

pub returns : goal.returns
unfolding hidden formula_shape formula_child term_shape term_child array_shape array_child
returns c = λ f g h k. c.add_above.ensures (λ u. weight ◌+◌ u f + weight ◌+◌ u g) (λ u. max (weight max u f) (weight max u g)) (c.in_ok-profile.ensures (λ u. weight ◌+◌ u f) (λ u. weight max u f) (λ u. weight ◌+◌ u g) (λ u. weight max u g) h k)
