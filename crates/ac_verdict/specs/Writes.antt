-- What a write says. No promise rests on this file: it says what the code keeps on the way.
use Rattle.std.specs.Prelude.{◌≡◌, ℕ, nat_lt, Bool, true, false, [], Option, Some, None}
use Rattle.ac_tree.specs.declared.program.ExprKind.TheVariants.{Num}
use Rattle.ac_tree.specs.declared.program.Program.{Program}
use Rattle.ac_tree.specs.declared.program.StmtKind.{StmtKind, Put}
use Rattle.ac_tree.specs.Grammar.{NameBytes}
use Rattle.ac_tree.specs.Patterns.{OneIndex}
use Rattle.ac_run.specs.StraightWrites.{is_literal, is_write_within}
use Rattle.ac_verdict.specs.Supported.{is_straight}
use Rattle.ac_verdict.specs.Opened.{hidden, expr_shape, expr_child}

-- a literal is written at a literal index
abbrev pub is_put : StmtKind → Bool
unfolding hidden expr_shape expr_child
is_put (Put x (OneIndex n (Num i)) value) = is_literal value.kind
is_put _ = false

-- the array and the index of such a write

abbrev pub array_of : StmtKind → NameBytes
unfolding hidden expr_shape expr_child
array_of (Put x (OneIndex n (Num i)) value) = x
array_of _ = []

abbrev pub index_of : StmtKind → ℕ
unfolding hidden expr_shape expr_child
index_of (Put x (OneIndex n (Num i)) value) = i
index_of _ = 0

-- the index that a statement writes at and the extent of the array, where it has a verdict
abbrev pub IsWritten : Program → StmtKind → Option (ℕ × ℕ) → Type 0
IsWritten p k None = (is_straight p k ≡ false) × (is_write_within p k ≡ false)
IsWritten p k (Some r) = (is_straight p k ≡ true) × (is_write_within p k ≡ nat_lt r.0 r.1)
