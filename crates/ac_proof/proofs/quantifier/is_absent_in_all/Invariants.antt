use Rattle.std.proofs.Common.{ℕ, ◌<◌, get_or}
use Rattle.ac_logic.specs.declared.formula.Formula.{Formula}
use Rattle.ac_logic.specs.Absence.{IsAbsent}
use Rattle.ac_proof.proofs.quantifier.is_absent_in_all.Given as goal

abbrev pub invariant-loop-f : goal.invariant-loop-f
invariant-loop-f l = (k : ℕ) (d : Formula) → k < l.f-index → IsAbsent l.name (get_or l.formulas k d)
