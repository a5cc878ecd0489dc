use Rattle.std.proofs.Common.{refl}
use Rattle.ac_steps.proofs.RuleSteps.{by_cases, made_as}
use Rattle.ac_steps.proofs.rules.cases.Goals as goal

pub returns : goal.returns
returns c = by_cases c.args.goal c.args.either c.args.first c.args.second c.step.result (made_as c.step.result _ c.args.goal c.args.goal _ _ refl c.in_ok-premises.ensures c.step.ensures)
