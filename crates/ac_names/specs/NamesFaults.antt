-- What a fault tells of a program.
use Rattle.std.specs.Prelude.{◌≡◌, Some}
use Rattle.ac_tree.specs.declared.program.Program.{Program}
use Rattle.ac_tree.specs.StaticRules.{first_fault, faults}
use Rattle.ac_names.specs.declared.names_fault.NamesFault.{NamesFault}
use Rattle.ac_names.specs.declared.names_fault.NamesFault.TheVariants.{Static, OutOfMemory}

-- it is the first broken rule of the program; want of memory tells nothing
abbrev pub IsFirstFault : Program → NamesFault → Type 0
IsFirstFault p (Static fault) = first_fault (faults p) ≡ Some fault
IsFirstFault p OutOfMemory = Unit {0}
