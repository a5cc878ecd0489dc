use Rattle.std.proofs.Common.{subst}
use Rattle.ac_steps.specs.Steps.{IsHypothesisAt}
use Rattle.ac_steps.proofs.Built.{contradicted}
use Rattle.ac_steps.proofs.cases.contradicted.Goals as goal

pub returns : goal.returns
returns c =
    let h : IsHypothesisAt c.args.place _ c.hypothesis_at-assumed.result = subst (λ f. IsHypothesisAt c.args.place f c.hypothesis_at-assumed.result) c.in_ok-at_most.ensures c.hypothesis_at-assumed.ensures in
    contradicted c.args.s.now c.args.t.now c.args.place c.args.denial c.hypothesis_at-assumed.result c.in_ok-tree.tree h c.in_ok-tree.ensures
