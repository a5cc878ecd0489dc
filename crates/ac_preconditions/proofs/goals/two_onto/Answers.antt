use Rattle.std.proofs.Common.{None}
use Rattle.std.proofs.lemmas.Result.{IfOk-weaker}
use Rattle.ac_preconditions.proofs.goals.two_onto.Goals as goal

pub returns : goal.returns
returns g c = IfOk-weaker c.expr_goals-2.result _ _ (λ made h. h _ (c.in_ok-later.ensures None tt)) c.expr_goals-2.ensures
