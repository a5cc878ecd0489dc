use Rattle.std.proofs.Common.{refl}
use Rattle.ac_steps.proofs.RuleSteps.{applied, made_as}
use Rattle.ac_steps.proofs.rules.applied.Goals as goal

pub returns : goal.returns
returns c = applied c.args.goal c.args.implication c.args.shown c.step.result (made_as c.step.result _ c.args.goal c.args.goal _ _ refl c.in_ok-premises.ensures c.step.ensures)
