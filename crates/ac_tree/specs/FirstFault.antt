-- What the code keeps of faults: the first, and the loops around a statement. No promise rests on this file.
use Rattle.std.specs.Prelude.{Option, Some, None, Result, Ok, Err, List, [], ◌∷◌}
use Rattle.ac_tree.specs.declared.static_rules.StaticFault.{StaticFault}
use Rattle.ac_tree.specs.declared.loops.Loops.{Loops}
use Rattle.ac_tree.specs.declared.loops.Loops.TheVariants.{Outermost, Inside'}
use Rattle.ac_tree.specs.StaticRules.{Loop}

abbrev pub fault_of : {A : Type 0} → Result A StaticFault → Option StaticFault
fault_of (Ok x) = None
fault_of (Err f) = Some f

abbrev pub loops_of : Loops → List Loop
loops_of Outermost = []
loops_of (Inside' name low high place outer) = record { variable = name.now; low = low.now.kind; high = high.now.kind } ∷ loops_of outer
