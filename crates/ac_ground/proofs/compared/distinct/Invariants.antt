use Rattle.std.proofs.Common.{◌≡◌, [], drop, fold}
use Rattle.ac_ground.specs.Table.{with_cell}
use Rattle.ac_ground.proofs.compared.distinct.Given as goal

abbrev pub invariant-loop-cell : goal.invariant-loop-cell
invariant-loop-cell l = fold with_cell l.once (drop l.cell-index l.cells) ≡ fold with_cell [] l.cells
