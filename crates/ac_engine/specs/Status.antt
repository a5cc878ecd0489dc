-- The exit code of each status.
use Rattle.std.specs.Prelude.{ℕ}
use Rattle.ac_engine.specs.declared.status.Status.{Status}
use Rattle.ac_engine.specs.declared.status.Status.TheVariants.{Accepted, Rejected, Usage, Program, Policy, ReadFault, WriteFault, Limit, Memory, Certificate}

abbrev pub code_of : Status → ℕ
code_of Accepted = 0
code_of Rejected = 1
code_of Usage = 2
code_of Program = 3
code_of Policy = 4
code_of ReadFault = 5
code_of WriteFault = 6
code_of Limit = 7
code_of Memory = 8
code_of Certificate = 9
