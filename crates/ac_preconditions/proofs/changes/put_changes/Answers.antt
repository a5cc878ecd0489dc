use Rattle.std.proofs.lemmas.Result.{IfOk-weaker}
use Rattle.ac_preconditions.proofs.Closed.{put_closed}
use Rattle.ac_preconditions.proofs.changes.put_changes.Goals as goal

pub returns-clause-closed : goal.returns-clause-closed
returns-clause-closed g c =
    let p = c.args.aim.now.program.now in
    let policy = c.args.aim.now.policy.now in
    IfOk-weaker c.element_changes.result _ _
    (λ cs h. put_closed p (g.P.Policy.need_of policy p) (g.P.Policy.effect_of policy p) (g.P.Policy.known_of policy) (g.met.P.Policy.law_form policy p) c.args.node c.args.name.now c.args.index.now c.args.value.now.kind cs.items h)
    c.element_changes.ensures
