use Rattle.std.proofs.Common.{refl}
use Rattle.ac_steps.proofs.RuleSteps.{hypothesis_at, made_as}
use Rattle.ac_steps.proofs.rules.hypothesis_at.Goals as goal

pub returns : goal.returns
returns c = hypothesis_at c.args.place c.args.formula c.step.result (made_as c.step.result _ c.args.formula c.args.formula _ _ refl c.new.ensures c.step.ensures)
