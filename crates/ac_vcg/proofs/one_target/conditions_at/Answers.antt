use Rattle.std.proofs.Common.{◌≡◌, List, [], None, sym, subst, ◌∙◌}
use Rattle.ac_tree.specs.declared.program.Stmt.{Stmt}
use Rattle.ac_tree.specs.Preorder.{nodes_of_list}
use Rattle.ac_conditions.specs.Part.{part_of}
use Rattle.ac_preconditions.specs.Outside.{Rises}
use Rattle.ac_vcg.proofs.Findings.{found_as}
use Rattle.ac_vcg.proofs.OneTarget.{whole_target}
use Rattle.ac_targets.proofs.Ordered.{body_rises}
use Rattle.ac_vcg.proofs.one_target.conditions_at.Goals as goal

pub returns : goal.returns
returns g c = λ name.
    let p = c.args.program.now in
    let policy = c.args.policy.now in
    let part = part_of (g.P.Policy.need_of policy p) (g.P.Policy.effect_of policy p) (g.P.Policy.known_of policy) c.args.annotations.now in
    let t = c.args.target.now in
    let body = c.as_slice-body.result.now in
    let hs = c.as_slice-hypotheses.result.now in
    let walked = c.in_ok-path.ensures name None [] (λ o. subst (λ (l : List Stmt). Rises 0 (nodes_of_list l)) (sym c.as_slice-body.ensures) (body_rises p (c.requires.ordered o))) tt c.new-found.ensures.items in
    found_as g.G.Precondition.stands name _ _ _ (whole_target p name part t hs body (c.as_slice-hypotheses.ensures.value ∙ c.requires.ranges) c.as_slice-body.ensures)
    (c.in_ok-add_condition.ensures p part name _ _ walked.0 walked.1)
