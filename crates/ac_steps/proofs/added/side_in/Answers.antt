use Rattle.std.proofs.Common.{◌∙◌}
use Rattle.ac_proof.proofs.Contexts.{not_disjunction}
use Rattle.ac_steps.proofs.added.side_in.Goals as goal

pub returns-in_default : goal.returns-in_default
returns-in_default c = c.new.ensures.items ∙ not_disjunction c.args.formula.now c.args.i c.in_default.not-Or
