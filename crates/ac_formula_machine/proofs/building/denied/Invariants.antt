use Rattle.std.proofs.Common.{◌≡◌}
use Rattle.ac_formula_machine.specs.FormulaMachine.{denied}
use Rattle.ac_formula_machine.proofs.building.denied.Given as goal

abbrev pub invariant-loop-i : goal.invariant-loop-i
invariant-loop-i l = l.inner ≡ denied l._i l.initial.inner
