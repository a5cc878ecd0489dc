use Rattle.std.proofs.Common.{◌≡◌, ◌+◌, max, subst}
use Rattle.ac_logic.specs.declared.formula.Formula.{Formula}
use Rattle.ac_logic.specs.Patterns.{Implication}
use Rattle.ac_conditions.specs.Weights.{weight}
use Rattle.ac_profile.specs.Opened.{hidden, formula_shape, formula_child, term_shape, term_child, array_shape, array_child}
use Rattle.ac_profile.specs.Profile.{IsProfile}
use Rattle.ac_profile.proofs.Profiles.{turned}
use Rattle.ac_profile.proofs.profile.ProfilePrecondition.implied_by.Goals as goal

pub returns : goal.returns
unfolding hidden formula_shape formula_child term_shape term_child array_shape array_child
returns c = λ f h.
    let g = c.get.result.now in
    subst (λ (x : Formula). IsProfile c.add_above.new.profile (Implication x f)) c.get.ensures
    (c.add_above.ensures (λ u. weight ◌+◌ u g + weight ◌+◌ u f) (λ u. max (weight max u g) (weight max u f))
    (turned _ (λ u. weight ◌+◌ u g) (λ u. weight max u g) (λ u. weight ◌+◌ u f) (λ u. weight max u f) (c.in_ok-add_beside.ensures (λ u. weight ◌+◌ u f) (λ u. weight max u f) h)))
