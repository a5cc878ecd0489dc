use Rattle.std.proofs.Common.{◌++◌}
use Rattle.ac_vcg.proofs.Findings.{found_none, found_some}
use Rattle.ac_vcg.proofs.walk.add_condition.Goals as goal

pub returns-in-None : goal.returns-in-None
returns-in-None g c = λ p part name Q cs h k.
    found_none g.G.Precondition.stands name p part c.args.pair.target c.args.pair.cut (c.args.hypotheses.now ++ c.args.own.now) _ c.args.path Q cs c.in-None.is h k

pub returns-in_ok-push-in-Some : goal.returns-in_ok-push-in-Some
returns-in_ok-push-in-Some g c = λ p part name Q cs h k.
    found_some g.G.Precondition.stands name p part c.args.pair.target c.args.pair.cut (c.args.hypotheses.now ++ c.args.own.now) _ _ c.in_ok-condition-in-Some.condition c.in-Some.path c.args.path Q cs c.in-Some.is h
    (c.in_ok-condition-in-Some.ensures name) c.in_ok-push-in-Some.ensures.items k
