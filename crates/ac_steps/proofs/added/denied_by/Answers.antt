use Rattle.std.proofs.Common.{◌∙◌}
use Rattle.ac_proof.proofs.Contexts.{not_negation}
use Rattle.ac_steps.proofs.added.denied_by.Goals as goal

pub returns-in_default : goal.returns-in_default
returns-in_default c = c.new.ensures.items ∙ not_negation c.args.goal.now c.args.i c.in_default.not-Not
