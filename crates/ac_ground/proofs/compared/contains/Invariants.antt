use Rattle.std.proofs.Common.{◌≡◌, drop}
use Rattle.std.specs.List.{list_any}
use Rattle.ac_ground.specs.Table.{cell_eq}
use Rattle.ac_ground.proofs.compared.contains.Given as goal

abbrev pub invariant-loop-other : goal.invariant-loop-other
invariant-loop-other l = list_any (cell_eq l.cell) (drop l.other-index l.cells) ≡ list_any (cell_eq l.cell) l.cells
