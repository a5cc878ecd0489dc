use Rattle.std.proofs.Common.{ℕ, ◌<◌, get_or}
use Rattle.ac_logic.specs.declared.formula.Formula.{Formula}
use Rattle.ac_logic.specs.Readable.{IsReadable}
use Rattle.ac_proof.proofs.known.are_readable.Given as goal

abbrev pub invariant-loop-f : goal.invariant-loop-f
invariant-loop-f l = (k : ℕ) (d : Formula) → k < l.f-index → IsReadable (get_or l.formulas k d)
