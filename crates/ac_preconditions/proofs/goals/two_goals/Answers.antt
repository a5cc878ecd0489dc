use Rattle.std.proofs.Common.{subst}
use Rattle.std.proofs.lemmas.Result.{IfOk-weaker}
use Rattle.ac_preconditions.specs.Stands.{StandsIf}
use Rattle.ac_preconditions.proofs.GoalLists.{two_goals}
use Rattle.ac_preconditions.proofs.goals.two_goals.Goals as goal

pub returns : goal.returns
returns g c =
    IfOk-weaker c.two_onto.result _ _
    (λ made h. subst (λ f. StandsIf g.G.Precondition.stands made f) (two_goals (g.P.Policy.need_of c.args.aim.now.policy.now c.args.aim.now.program.now) c.args.aim.now.target c.args.aim.now.program.now c.args.left.now c.args.right.now) h)
    c.two_onto.ensures
