use Rattle.std.proofs.Common.{None, subst}
use Rattle.std.proofs.lemmas.Result.{IfOk-weaker}
use Rattle.ac_preconditions.specs.Stands.{StandsIf}
use Rattle.ac_preconditions.proofs.GoalLists.{put_goals}
use Rattle.ac_preconditions.proofs.before.put_goal.Goals as goal

pub returns : goal.returns
returns g c =
    let p = c.args.aim.now.program.now in
    let need = g.P.Policy.need_of c.args.aim.now.policy.now p in
    IfOk-weaker c.element_goal.result _ _
    (λ made h. subst (λ f. StandsIf g.G.Precondition.stands made f) (put_goals need c.args.aim.now.target p c.args.node c.args.name.now c.args.index.now c.args.value.now) (h _ (c.in_ok-reads.ensures _ (c.in_ok-last.ensures None tt))))
    c.element_goal.ensures
