-- The loop ends behind the last value.
use Rattle.std.proofs.Common.{arith}
use Rattle.ac_instance.proofs.Changing.{values-end}
use Rattle.ac_instance.proofs.changes.add_values.Goals as goal

pub returns : goal.returns
returns c = values-end c.args.program.now _ c.args.values.now c.loop-at.at _ _ (omega arith) c.loop-at.invariant
