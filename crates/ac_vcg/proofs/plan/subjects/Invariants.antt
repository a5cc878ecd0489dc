use Rattle.std.proofs.Common.{◌≡◌, ◌++◌, drop}
use Rattle.ac_conditions.specs.Marked.{needed_nodes}
use Rattle.ac_vcg.proofs.plan.subjects.Given as goal

abbrev pub invariant-loop-site : goal.invariant-loop-site
invariant-loop-site g l = l.nodes.items ++ needed_nodes (g.P.Policy.need_of l.policy l.program) (drop l.site-index l.site-items) ≡ needed_nodes (g.P.Policy.need_of l.policy l.program) l.site-items
