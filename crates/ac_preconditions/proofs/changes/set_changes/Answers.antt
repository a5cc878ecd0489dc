use Rattle.std.proofs.lemmas.Result.{IfOk-weaker}
use Rattle.ac_preconditions.proofs.Closed.{set_closed}
use Rattle.ac_preconditions.proofs.changes.set_changes.Goals as goal

pub returns-clause-closed : goal.returns-clause-closed
returns-clause-closed g c =
    let p = c.args.aim.now.program.now in
    let policy = c.args.aim.now.policy.now in
    IfOk-weaker c.scalar_changes.result _ _
    (λ cs h. set_closed p (g.P.Policy.need_of policy p) (g.P.Policy.effect_of policy p) (g.P.Policy.known_of policy) (g.met.P.Policy.law_form policy p) c.args.node c.args.name.now c.args.value.now.kind _ cs.items c.in_ok-value.ensures h)
    c.scalar_changes.ensures
