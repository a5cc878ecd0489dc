-- The instance that is asked for, and what a fault tells of it.
use Rattle.std.specs.Prelude.{◌≡◌, Option, Some, None}
use Rattle.std.specs.Option.{option_map}
use Rattle.ac_tree.specs.declared.program.Program.{Program}
use Rattle.ac_logic.specs.declared.formula.Formula.{Formula}
use Rattle.ac_codes.specs.declared.pattern.Match.{Match}
use Rattle.ac_codes.specs.declared.pattern.Pattern.{Pattern}
use Rattle.ac_instance.specs.declared.fault.InstanceFault.{InstanceFault}
use Rattle.ac_instance.specs.declared.fault.InstanceFault.TheVariants.{Bad, OutOfMemory}
use Rattle.ac_instance.specs.declared.which.Which.{Which}
use Rattle.ac_instance.specs.Instances.{formula_in, instance_of}
use Rattle.ac_instance.specs.Judging.{formula_wrong}

abbrev pub instance_at : Program → Pattern → Match → Which → Option Formula
instance_at p pattern m w = option_map (instance_of p pattern m) (formula_in pattern w)

-- the first name of the instance with which something is wrong, and the first reason; want of memory tells nothing
abbrev pub IsInstanceFault : Program → Option Formula → InstanceFault → Type 0
IsInstanceFault p (Some f) (Bad x r) = formula_wrong p f ≡ Some (x, r)
IsInstanceFault p None (Bad x r) = ⊥
IsInstanceFault p o OutOfMemory = Unit {0}
