use Rattle.std.proofs.Common.{arith}
use Rattle.ac_stepper.proofs.Stacks.{none_is_dropped, one_is_dropped}
use Rattle.ac_stepper.proofs.stack.drop_next.Goals as goal

pub returns-in_default-clause-tasks : goal.returns-in_default-clause-tasks
returns-in_default-clause-tasks c = none_is_dropped c.args.tasks.now.items c.pop.new.self.items c.in_default.ensures.items (omega (arith, c.args.tasks.now.ok.0, c.in_default.ensures.cases.0))

pub returns-clause-tasks : goal.returns-clause-tasks
returns-clause-tasks c = one_is_dropped c.args.tasks.now.items c.pop.new.self.items c.put_block.new.tasks.items c.in-Some.task _ c.in-Some.ensures.items c.behind.ensures c.put_block.ensures.tasks
