-- Blocks are lists, and rows of statements as well.
use Rattle.std.proofs.Common.{◌≡◌, List, ◌∷◌, refl, ap}
use mathlib.Core.Former.{Count}
use Rattle.ac_tree.specs.declared.program.Stmt.{Stmt}
use Rattle.ac_tree.specs.declared.program.StmtKind.{Row_of-Stmt, end_of-Stmt, more_of-Stmt, items-the_row-Stmt}
use Rattle.ac_run.specs.Run.{block}

pub block-items : (n : Count) (row : Row_of-Stmt n) → block row ≡ items-the_row-Stmt n row
block-items _ end_of-Stmt = refl
block-items _ (more_of-Stmt {n = n} at x rest) = ap (λ (sts : List Stmt). record { node = at; kind = x } ∷ sts) (block-items n rest)
