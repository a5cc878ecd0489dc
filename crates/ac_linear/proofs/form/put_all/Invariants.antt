use Rattle.std.proofs.Common.{◌≡◌}
use Rattle.ac_linear.specs.NormalForm.{put_all}
use Rattle.ac_linear.specs.Places.{InOrder}
use Rattle.ac_linear.proofs.form.put_all.Given as goal

abbrev pub invariant-loop-entry : goal.invariant-loop-entry
invariant-loop-entry l = (put_all l.range l.fn.entries l.fn.k l.fn.more ≡ put_all l.range l.all l.fn.k l.entry-iterator.rest.items) × InOrder l.all
