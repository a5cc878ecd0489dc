use Rattle.std.proofs.Common.{◌≡◌, ◌++◌, map}
use Rattle.ac_linear.specs.NormalForm.{part_of}
use Rattle.ac_linear.proofs.combination.parts_of.Given as goal

abbrev pub invariant-loop-entry : goal.invariant-loop-entry
invariant-loop-entry l = l.parts ++ map part_of l.entry-iterator.rest.items ≡ map part_of l.fn.entries
