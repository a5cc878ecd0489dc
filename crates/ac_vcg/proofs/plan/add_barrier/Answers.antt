use Rattle.ac_vcg.proofs.Barred.{no_barrier, one_barrier}
use Rattle.ac_vcg.proofs.plan.add_barrier.Goals as goal

pub returns-in_ok-push-in-After : goal.returns-in_ok-push-in-After
returns-in_ok-push-in-After c = λ n. one_barrier c.args.cuts.now.items _ c.args.place.now _ n c.in-After.is c.in_ok-push-in-After.ensures.items

pub returns-in-Loop : goal.returns-in-Loop
returns-in-Loop c = λ n. no_barrier c.args.cuts.now.items c.args.place.now _ n c.in-Loop.is
