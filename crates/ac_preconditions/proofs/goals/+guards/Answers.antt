use Rattle.std.proofs.lemmas.Result.{IfOk-weaker}
use Rattle.ac_preconditions.proofs.Sides.{and_stands, or_stands}
use Rattle.ac_preconditions.proofs.goals.+guards.Goals as goal

pub returns-in_ok-right-in-And : goal.returns-in_ok-right-in-And
returns-in_ok-right-in-And g t c =
    IfOk-weaker c.and_goal.result _ _
    (λ made h. and_stands (g.P.Policy.need_of c.args.aim.now.policy.now c.args.aim.now.program.now) c.args.aim.now.target c.args.aim.now.program.now g.G.Precondition.stands c.in-And.c c.in-And.d _ _ _ _ made c.in-And.is
    c.get-in-And.ensures c.get-in-And-2.ensures c.get-in-And-3.ensures (h _ _ c.in_ok-left-in-And.ensures c.in_ok-right-in-And.ensures))
    c.and_goal.ensures

pub returns-in_ok-right-in-Or : goal.returns-in_ok-right-in-Or
returns-in_ok-right-in-Or g t c =
    IfOk-weaker c.or_goal.result _ _
    (λ made h. or_stands (g.P.Policy.need_of c.args.aim.now.policy.now c.args.aim.now.program.now) c.args.aim.now.target c.args.aim.now.program.now g.G.Precondition.stands c.in-Or.c c.in-Or.d _ _ _ _ made c.in-Or.is
    c.get-in-Or.ensures c.get-in-Or-2.ensures c.get-in-Or-3.ensures (h _ _ c.in_ok-left-in-Or.ensures c.in_ok-right-in-Or.ensures))
    c.or_goal.ensures
