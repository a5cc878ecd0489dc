use Rattle.std.proofs.Common.{◌≡◌, ap, ◌∙◌}
use Rattle.std.proofs.lemmas.Result.{IfOk-weaker}
use Rattle.ac_flow.specs.Cuts.{has_place}
use Rattle.ac_conditions.proofs.Barriers.{barriers_of}
use Rattle.ac_preconditions.proofs.barriers.mark_barriers.Goals as goal

pub returns : goal.returns
returns c =
    IfOk-weaker c.mark_places.result _ _
    (λ marks h n. h n.0 ∙ (ap (λ l. has_place l n.0) (c.as_slice.ensures.value ∙ c.in_ok-places.ensures) ∙ barriers_of n c.args.annotations.now))
    c.mark_places.ensures
