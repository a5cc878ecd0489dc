use Rattle.std.proofs.Common.{◌≡◌, length}
use Rattle.ac_formula_machine.specs.FormulaMachine.{implied}
use Rattle.ac_formula_reader.proofs.ending.implied.Given as goal

abbrev pub invariant-loop-frame : goal.invariant-loop-frame
invariant-loop-frame l = implied l.stack l.whole ≡ implied l.initial.stack l.initial.whole

abbrev pub decreases-loop-frame : goal.decreases-loop-frame
decreases-loop-frame l = length l.stack
