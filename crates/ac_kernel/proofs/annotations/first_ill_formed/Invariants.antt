use Rattle.std.specs.List.{AllWithin}
use Rattle.ac_kernel.specs.WellFormed.{IsWellFormed}
use Rattle.ac_kernel.proofs.annotations.first_ill_formed.Given as goal

-- those before are well formed
abbrev pub invariant-loop-index : goal.invariant-loop-index
invariant-loop-index l = AllWithin (IsWellFormed l.program) l.annotations 0 l.index
