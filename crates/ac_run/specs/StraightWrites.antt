-- Programs that only write literals at literal indexes within their arrays.
use Rattle.std.specs.Prelude.{ℕ, nat_lt, IsTrue, Bool, true, false, ◌&&◌, All, Option, Some}
use Rattle.ac_tree.specs.declared.program.Program.{Program}
use Rattle.ac_tree.specs.declared.program.ItemKind.{ItemKind}
use Rattle.ac_tree.specs.declared.program.ItemKind.TheVariants.{VarArray}
use Rattle.ac_tree.specs.declared.program.Extents.TheVariants.{One}
use Rattle.ac_tree.specs.declared.program.Extent.TheVariants.{Lit}
use Rattle.ac_tree.specs.declared.program.ExprKind.{ExprKind}
use Rattle.ac_tree.specs.declared.program.ExprKind.TheVariants.{Num}
use Rattle.ac_tree.specs.declared.program.StmtKind.{StmtKind, Put}
use Rattle.ac_tree.specs.Patterns.{OneIndex}
use Rattle.ac_run.specs.Opened.{hidden, expr_shape, expr_child}
use Rattle.ac_run.specs.Declarations.{kind_of}

-- an array of one extent, a literal above the index
abbrev pub is_array_above : ℕ → Option ItemKind → Bool
is_array_above i (Some (VarArray (One (Lit n)))) = nat_lt i n
is_array_above i _ = false

abbrev pub is_literal : ExprKind → Bool
is_literal (Num v) = true
is_literal _ = false

-- a literal is written at a literal index that such an array has
abbrev pub is_write_within : Program → StmtKind → Bool
unfolding hidden expr_shape expr_child
is_write_within p (Put x (OneIndex n (Num i)) value) = is_literal value.kind && is_array_above i (kind_of p x)
is_write_within p _ = false

abbrev pub WritesWithin : Program → Type 0
WritesWithin p = All (λ st. IsTrue (is_write_within p st.kind)) p.body
