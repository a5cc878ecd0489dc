-- A block as the list of its statements. Definitions match a statement with its blocks as rows.
use Rattle.std.specs.Prelude.{List, [], ◌∷◌}
use Rattle.ac_tree.specs.declared.program.Stmt.{Stmt}
use Rattle.ac_tree.specs.declared.program.StmtKind.{Row_of-Stmt, end_of-Stmt, more_of-Stmt}

-- the statements of a block
abbrev pub block : {n : _} → Row_of-Stmt n → List Stmt
block end_of-Stmt = []
block (more_of-Stmt node kind rest) = record { node = node; kind = kind } ∷ block rest
