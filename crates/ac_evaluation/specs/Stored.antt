-- What contracts see of a store.
use Rattle.ac_tree.specs.declared.program.Program.{Program}
use Rattle.ac_run.specs.declared.start.Start.{Start}
use Rattle.ac_run.specs.Memory.{Memory}

-- The memory of a run of a program from a start, whose numbers give the extents.
pub record Stored : Type 0 where
  pub program : Program
  pub start : Start
  pub memory : Memory
