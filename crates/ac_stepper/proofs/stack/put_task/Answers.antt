use Rattle.std.proofs.Common.{ap, sym}
use Rattle.ac_stepper.specs.Tasks.{tasks_if}
use Rattle.ac_stepper.proofs.Stacks.{put_is}
use Rattle.ac_stepper.proofs.stack.put_task.Goals as goal

pub returns-in-Some-clause-tasks : goal.returns-in-Some-clause-tasks
returns-in-Some-clause-tasks c = put_is _ _ _ (tasks_if c.args.task) c.push_reserved.ensures.items (sym (ap tasks_if c.in-Some.is))
