use Rattle.std.proofs.Common.{subst, ◌∙◌}
use Rattle.ac_steps.specs.Steps.{IsAbsurdity, IsByCases, IsHypothesisAt}
use Rattle.ac_steps.proofs.Built.{from_denial}
use Rattle.ac_steps.proofs.cases.from_denial.Goals as goal

pub returns : goal.returns
returns c =
    from_denial c.args.s.now c.args.t.now c.args.place c.args.trees c.only.result c.in_ok-contradiction.contradiction c.in_ok-first.first c.hypothesis_at-second.result c.in_ok-either.either c.in_ok-tree.tree c.only.ensures c.in_ok-contradiction.ensures
    (subst (λ f. IsAbsurdity f c.in_ok-contradiction.contradiction c.in_ok-first.first) (c.in_ok-share.ensures ∙ c.in_ok-goal.ensures) c.in_ok-first.ensures)
    (subst (λ f. IsHypothesisAt c.args.place f c.hypothesis_at-second.result) (c.in_ok-share-2.ensures ∙ c.in_ok-goal.ensures) c.hypothesis_at-second.ensures)
    c.in_ok-either.ensures
    (subst (λ f. IsByCases f c.in_ok-either.either c.in_ok-first.first c.hypothesis_at-second.result c.in_ok-tree.tree) c.in_ok-goal.ensures c.in_ok-tree.ensures)
