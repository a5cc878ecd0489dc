use Rattle.ac_vcg.proofs.Findings.{added_none, added_one}
use Rattle.ac_vcg.proofs.walk.add_barrier.Goals as goal

pub returns-in-None : goal.returns-in-None
returns-in-None g c = λ name bs cs h k. added_none g.G.Precondition.stands name _ c.args.barrier bs cs c.in-None.is h k

pub returns-in_ok-push-in-Some : goal.returns-in_ok-push-in-Some
returns-in_ok-push-in-Some g c = λ name bs cs h k. added_one g.G.Precondition.stands name _ _ c.in-Some.condition c.args.barrier bs cs c.in-Some.is c.in_ok-push-in-Some.ensures.items h k
