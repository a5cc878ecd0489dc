use Rattle.ac_steps.proofs.RuleSteps.{order, made_as}
use Rattle.ac_steps.proofs.rules.order.Goals as goal

pub returns : goal.returns
returns c = order c.args.s.now c.args.t.now c.step.result (made_as c.step.result _ _ _ _ _ c.in_ok-goal.ensures c.new.ensures c.step.ensures)
