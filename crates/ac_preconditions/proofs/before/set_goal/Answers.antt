use Rattle.std.proofs.Common.{None, subst}
use Rattle.std.proofs.lemmas.Result.{IfOk-weaker}
use Rattle.ac_preconditions.specs.Stands.{StandsIf}
use Rattle.ac_preconditions.proofs.GoalLists.{set_goals}
use Rattle.ac_preconditions.proofs.before.set_goal.Goals as goal

pub returns : goal.returns
returns g c =
    let p = c.args.aim.now.program.now in
    let need = g.P.Policy.need_of c.args.aim.now.policy.now p in
    IfOk-weaker c.scalar_goal.result _ _
    (λ made h. subst (λ f. StandsIf g.G.Precondition.stands made f) (set_goals need c.args.aim.now.target p c.args.node c.args.name.now c.args.value.now) (h _ (c.in_ok-reads.ensures None tt)))
    c.scalar_goal.ensures
