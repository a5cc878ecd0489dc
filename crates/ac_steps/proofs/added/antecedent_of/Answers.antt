use Rattle.std.proofs.Common.{◌∙◌}
use Rattle.ac_proof.proofs.Contexts.{not_implication}
use Rattle.ac_steps.proofs.added.antecedent_of.Goals as goal

pub returns-in_default : goal.returns-in_default
returns-in_default c = c.new.ensures.items ∙ not_implication c.args.goal.now c.args.i c.in_default.not-Implies
