use Rattle.std.proofs.Common.{sym, ◌∙◌}
use Rattle.ac_steps.proofs.Unfolded.{stepped}
use Rattle.ac_steps.proofs.builder.assembled.Goals as goal

pub returns-in-Some : goal.returns-in-Some
returns-in-Some c = stepped c.args.hyps.now c.args.plan.now c.in-Some.rule c.in_ok-goal.goal c.args.trees c.step.result (sym c.in_ok-rule.ensures ∙ c.in-Some.is) c.in_ok-goal.ensures c.step.ensures c.requires.planned c.requires.proofs
