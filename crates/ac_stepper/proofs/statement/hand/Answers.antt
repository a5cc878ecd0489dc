use Rattle.ac_stepper.proofs.Planning.{use_plans}
use Rattle.ac_stepper.proofs.statement.hand.Goals as goal

pub returns-in-Ok : goal.returns-in-Ok
returns-in-Ok c = use_plans c.args.store.now.program c.args.store.now.start c.args.store.now.memory c.args.name.now c.args.role.now c.in-Ok.event c.tells.result c.in-Ok.ensures c.tells.ensures
