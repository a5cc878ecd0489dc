use Rattle.std.proofs.Common.{refl}
use Rattle.ac_steps.proofs.RuleSteps.{absurdity, made_as}
use Rattle.ac_steps.proofs.rules.absurd.Goals as goal

pub returns : goal.returns
returns c = absurdity c.args.goal c.args.contradiction c.step.result (made_as c.step.result _ c.args.goal c.args.goal _ _ refl c.in_ok-premises.ensures c.step.ensures)
