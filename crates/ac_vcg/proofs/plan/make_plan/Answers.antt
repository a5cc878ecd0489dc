use Rattle.std.proofs.Common.{◌∙◌}
use Rattle.std.proofs.lemmas.Result.{IfOk-weaker}
use Rattle.ac_vcg.proofs.plan.make_plan.Goals as goal

pub returns-then-ground : goal.returns-then-ground
returns-then-ground g c =
    IfOk-weaker c.plan_by_flow.result _ _ (λ made h name. h (c.as_slice.ensures.value ∙ c.in_ok-all.ensures) (c.requires.ordered c.if-ground.true) name) c.plan_by_flow.ensures
