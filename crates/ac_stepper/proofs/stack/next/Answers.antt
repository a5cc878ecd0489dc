use Rattle.ac_stepper.proofs.Stacks.{last_is_next, none_is_left}
use Rattle.ac_stepper.proofs.stack.next.Goals as goal

pub returns-in_default : goal.returns-in_default
returns-in_default c = none_is_left c.args.tasks.now c.in_default.ensures.cases

pub returns : goal.returns
returns c = last_is_next c.args.tasks.now _ _ c.in-Some.ensures.cases.0
