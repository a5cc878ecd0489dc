use Rattle.std.proofs.Common.{◌∙◌}
use Rattle.ac_preconditions.proofs.barriers.has_barrier.Goals as goal

pub returns : goal.returns
returns g c = c.is_marked.ensures ∙ c.requires c.args.node
