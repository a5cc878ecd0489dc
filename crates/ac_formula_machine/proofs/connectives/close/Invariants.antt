use Rattle.std.proofs.Common.{◌≡◌, length}
use Rattle.ac_formula_machine.specs.FormulaMachine.{closed}
use Rattle.ac_formula_machine.proofs.connectives.close.Given as goal

abbrev pub invariant-loop-frame : goal.invariant-loop-frame
invariant-loop-frame l = closed l.stack l.whole ≡ closed l.initial.stack l.initial.whole

abbrev pub decreases-loop-frame : goal.decreases-loop-frame
decreases-loop-frame l = length l.stack
