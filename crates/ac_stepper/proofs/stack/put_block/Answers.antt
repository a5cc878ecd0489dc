use Rattle.std.proofs.Common.{List, map, ap, sym}
use Rattle.ac_tree.specs.declared.program.Stmt.{Stmt}
use Rattle.ac_run.specs.Run.{Do}
use Rattle.ac_stepper.proofs.Stacks.{put_is}
use Rattle.ac_stepper.proofs.stack.put_block.Goals as goal

pub returns-clause-tasks : goal.returns-clause-tasks
returns-clause-tasks c = put_is _ _ _ (map Do c.args.block.now) c.push_reserved.ensures.items (ap (λ (sts : List Stmt). map Do sts) (sym c.in-Some.ensures.cases.0))
