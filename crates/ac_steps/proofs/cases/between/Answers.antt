use Rattle.std.proofs.Common.{subst, ◌∙◌}
use Rattle.ac_steps.specs.Steps.{IsAbsurdity, IsByCases, IsHypothesisAt}
use Rattle.ac_steps.proofs.Built.{between}
use Rattle.ac_steps.proofs.cases.between.Goals as goal

pub returns : goal.returns
returns c =
    let two = c.both-first.result in
    between c.args.s.now c.args.t.now c.args.place c.args.trees two.0 two.1 c.hypothesis_at-unequal.result c.in_ok-contradiction.contradiction c.in_ok-rest.rest c.hypothesis_at-same.result c.in_ok-either.either c.in_ok-tree.tree c.both-first.ensures
    (subst (λ f. IsHypothesisAt c.args.place f c.hypothesis_at-unequal.result) c.in_ok-apart.ensures c.hypothesis_at-unequal.ensures)
    (subst (λ f. IsByCases f c.hypothesis_at-unequal.result two.0 two.1 c.in_ok-contradiction.contradiction) c.in_ok-falsity.ensures c.in_ok-contradiction.ensures)
    (subst (λ f. IsAbsurdity f c.in_ok-contradiction.contradiction c.in_ok-rest.rest) (c.in_ok-share.ensures ∙ c.in_ok-goal.ensures) c.in_ok-rest.ensures)
    (subst (λ f. IsHypothesisAt c.args.place f c.hypothesis_at-same.result) (c.in_ok-share-2.ensures ∙ c.in_ok-goal.ensures) c.hypothesis_at-same.ensures)
    c.in_ok-either.ensures
    (subst (λ f. IsByCases f c.in_ok-either.either c.hypothesis_at-same.result c.in_ok-rest.rest c.in_ok-tree.tree) c.in_ok-goal.ensures c.in_ok-tree.ensures)
