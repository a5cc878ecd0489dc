use Rattle.std.proofs.Common.{◌≡◌, drop}
use Rattle.ac_linear.specs.NormalForm.{sum_of}
use Rattle.ac_linear.proofs.written.sum_of.Given as goal

abbrev pub invariant-loop-entry : goal.invariant-loop-entry
invariant-loop-entry l = sum_of l.fn.first l.rest ≡ sum_of l.sum (drop l.entry-index l.rest)
