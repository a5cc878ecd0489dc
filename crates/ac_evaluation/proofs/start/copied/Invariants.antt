use Rattle.std.proofs.Common.{◌≡◌, take}
use Rattle.ac_evaluation.proofs.start.copied.Given as goal

-- the cells so far are copied
abbrev pub invariant-loop-cell : goal.invariant-loop-cell
invariant-loop-cell l = l.copy.items ≡ take l.cell-index l.cells
