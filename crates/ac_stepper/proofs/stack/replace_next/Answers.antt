use Rattle.std.proofs.Common.{List, ◌++◌, map, ap, sym, ◌∙◌, append_assoc}
use Rattle.ac_run.specs.Run.{Task, Do}
use Rattle.ac_stepper.specs.Tasks.{tasks_if, rest_of, tasks_of}
use Rattle.ac_stepper.proofs.stack.replace_next.Goals as goal

pub returns : goal.returns
returns c =
    c.put_block.ensures.tasks
    ∙ ap (λ (ts : List Task). map Do c.args.block.now ++ ts) (c.put_task.ensures.tasks ∙ ap (λ (ts : List Task). tasks_if c.args.behind ++ ts) c.drop_next.ensures.tasks)
    ∙ sym (append_assoc (map Do c.args.block.now) (tasks_if c.args.behind) (rest_of (tasks_of c.args.tasks.now.items)))
