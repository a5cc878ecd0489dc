use Rattle.std.proofs.Common.{refl}
use Rattle.ac_steps.proofs.RuleSteps.{supposing, made_as}
use Rattle.ac_steps.proofs.rules.supposing.Goals as goal

pub returns : goal.returns
returns c = supposing c.args.implication c.args.shown c.step.result (made_as c.step.result _ c.args.implication c.args.implication _ _ refl c.in_ok-premises.ensures c.step.ensures)
