use Rattle.std.proofs.Common.{◌≤◌, length, take}
use Rattle.std.specs.List.{AllZip}
use Rattle.ac_run.specs.Start.{FitsItem}
use Rattle.ac_evaluation.specs.Misfit.{held_of}
use Rattle.ac_evaluation.proofs.fits.first_misfit.Given as goal

-- the entries of the declarations so far fit
abbrev pub invariant-loop-i : goal.invariant-loop-i
invariant-loop-i l = record {
  fit : AllZip (FitsItem l.program l.start) (held_of (take l.i l.program.items)) (take l.next l.start.cells);
  within : l.next ≤ length l.start.cells;
}
