-- What contracts see of a run.
use Rattle.ac_tree.specs.declared.program.Program.{Program}
use Rattle.ac_run.specs.declared.start.Start.{Start}
use Rattle.ac_run.specs.Run.{Config}

-- a run of a program from a start, and its present configuration
pub record Running : Type 0 where
  pub program : Program
  pub start : Start
  pub now : Config
