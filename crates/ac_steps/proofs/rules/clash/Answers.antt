use Rattle.ac_steps.proofs.RuleSteps.{clash, made_as}
use Rattle.ac_steps.proofs.rules.clash.Goals as goal

pub returns : goal.returns
returns c = clash c.args.denial c.args.shown c.step.result (made_as c.step.result _ _ _ _ _ c.in_ok-falsity.ensures c.in_ok-premises.ensures c.step.ensures)
