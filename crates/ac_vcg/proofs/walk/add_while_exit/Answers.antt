use Rattle.std.proofs.Common.{◌++◌, ◌∙◌, subst}
use Rattle.std.proofs.lemmas.Result.{on_ok_weaker}
use Rattle.ac_tree.specs.declared.path.Cut.TheVariants.{Exit}
use Rattle.ac_conditions.specs.Conditions.{condition}
use Rattle.ac_conditions.specs.Part.{part_of}
use Rattle.ac_vcg.specs.Stands.{AreFound}
use Rattle.ac_vcg.proofs.Findings.{own_and_facts}
use Rattle.ac_vcg.proofs.walk.add_while_exit.Goals as goal

pub returns : goal.returns
returns g c =
    let p = c.args.aim.now.program.now in
    let policy = c.args.aim.now.policy.now in
    let part = part_of (g.P.Policy.need_of policy p) (g.P.Policy.effect_of policy p) (g.P.Policy.known_of policy) c.args.aim.now.annotations.now in
    on_ok_weaker c.add_condition.result
    (λ h name Q cs b k.
    subst (λ own. AreFound g.G.Precondition.stands name c.add_condition.new.found.items (condition p name part c.args.aim.now.target (Exit c.args.node) (c.args.hypotheses.now ++ own) Q ++ cs))
    (own_and_facts _ _ _ _ _ _ (c.as_slice.ensures.value ∙ c.in_ok-add_invariants.ensures) c.in_ok-push.ensures.items c.new-own.ensures.items c.in_ok-at_while_exit.ensures)
    (h p part name Q cs b k))
    c.add_condition.ensures
