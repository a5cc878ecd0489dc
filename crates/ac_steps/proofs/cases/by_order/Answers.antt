use Rattle.std.proofs.Common.{subst}
use Rattle.ac_steps.specs.Steps.{IsByCases}
use Rattle.ac_steps.proofs.Built.{by_order}
use Rattle.ac_steps.proofs.cases.by_order.Goals as goal

pub returns : goal.returns
returns c = by_order c.args.s.now c.args.t.now c.args.goal.now c.args.trees _ _ c.in_ok-either.either c.in_ok-tree.tree c.both-first.ensures c.in_ok-either.ensures (subst (λ g. IsByCases g c.in_ok-either.either c.both-first.result.0 c.both-first.result.1 c.in_ok-tree.tree) c.in_ok-goal.ensures c.in_ok-tree.ensures)
