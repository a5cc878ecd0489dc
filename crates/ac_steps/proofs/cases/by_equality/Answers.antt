use Rattle.std.proofs.Common.{subst, ◌∙◌}
use Rattle.ac_steps.specs.Steps.{IsByCases, IsHypothesisAt}
use Rattle.ac_steps.proofs.Built.{by_equality}
use Rattle.ac_steps.proofs.cases.by_equality.Goals as goal

pub returns : goal.returns
returns c =
    let three = c.all_three-first.result in
    by_equality c.args.s.now c.args.t.now c.args.goal.now c.args.place c.args.trees three.0 three.1 three.2 c.hypothesis_at-unequal.result c.in_ok-rest.rest c.in_ok-either.either c.in_ok-tree.tree c.all_three-first.ensures
    (subst (λ f. IsHypothesisAt c.args.place f c.hypothesis_at-unequal.result) c.in_ok-apart.ensures c.hypothesis_at-unequal.ensures)
    (subst (λ f. IsByCases f c.hypothesis_at-unequal.result three.1 three.2 c.in_ok-rest.rest) (c.in_ok-share.ensures ∙ c.in_ok-goal.ensures) c.in_ok-rest.ensures)
    c.in_ok-either.ensures
    (subst (λ f. IsByCases f c.in_ok-either.either three.0 c.in_ok-rest.rest c.in_ok-tree.tree) c.in_ok-goal.ensures c.in_ok-tree.ensures)
