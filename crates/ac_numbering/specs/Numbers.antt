-- A tree whose nodes got their numbers from `first` on, with the number behind them.
-- No promise rests on this file but on what it says of the whole program: the rest is what the code keeps on the way.
use Rattle.std.specs.Prelude.{◌≡◌, ℕ, ◌+◌, ◌≤◌, ◌<◌, min, List, length, Option, Some, None}
use Rattle.ac_tree.specs.declared.limit.LimitKind.TheVariants as limit
use Rattle.ac_tree.specs.Limits.{limit_of}
use Rattle.ac_tree.specs.declared.program.Cond.{Cond}
use Rattle.ac_tree.specs.declared.program.CondKind.{CondKind}
use Rattle.ac_tree.specs.declared.program.Expr.{Expr}
use Rattle.ac_tree.specs.declared.program.ExprKind.{ExprKind}
use Rattle.ac_tree.specs.declared.program.Index.{Index}
use Rattle.ac_tree.specs.declared.program.Item.{Item}
use Rattle.ac_tree.specs.declared.program.Program.{Program}
use Rattle.ac_tree.specs.declared.program.Stmt.{Stmt}
use Rattle.ac_tree.specs.declared.program.StmtKind.{StmtKind}
use Rattle.ac_tree.specs.Numbering.{at, expr_nodes, index_nodes, cond_nodes, stmt_nodes, list_nodes, program_nodes, numbered, numbered_index, numbered_expr, numbered_kind, numbered_cond, numbered_stmt, numbered_list, numbered_items, numbered_program}

-- the greatest number of 32 bits
abbrev pub greatest : ℕ
greatest = 4294967295

-- a part of so many nodes, with the number behind it: the greatest, where the nodes come to it
pub record Numbers {A : Type 0} (first nodes : ℕ) (tree : A) (r : A × ℕ) : Type 0 where
  pub next : r.1 ≡ min (first + nodes) greatest
  pub made : first + nodes < greatest → r.0 ≡ tree

abbrev pub NumbersExpr : ℕ → Expr → Expr × ℕ → Type 0
NumbersExpr first e r = Numbers first (expr_nodes e.kind) (numbered_expr first e) r

abbrev pub NumbersExprKind : ℕ → ExprKind → ExprKind × ℕ → Type 0
NumbersExprKind first k r = Numbers first (expr_nodes k) (numbered first k) r

abbrev pub NumbersIndex : ℕ → Index → Index × ℕ → Type 0
NumbersIndex first i r = Numbers first (index_nodes i) (numbered_index first i) r

abbrev pub NumbersCond : ℕ → Cond → Cond × ℕ → Type 0
NumbersCond first c r = Numbers first (cond_nodes c.kind) (numbered_cond first c) r

abbrev pub NumbersCondKind : ℕ → CondKind → CondKind × ℕ → Type 0
NumbersCondKind first k r = Numbers first (cond_nodes k) (numbered_kind first k) r

abbrev pub whole_stmt : ℕ → Stmt → Stmt
whole_stmt first s = record { node = at first s.node; kind = numbered_stmt first s.kind }

abbrev pub NumbersStmt : ℕ → Stmt → Stmt × ℕ → Type 0
NumbersStmt first s r = Numbers first (stmt_nodes s.kind) (whole_stmt first s) r

abbrev pub NumbersStmtKind : ℕ → StmtKind → StmtKind × ℕ → Type 0
NumbersStmtKind first k r = Numbers first (stmt_nodes k) (numbered_stmt first k) r

abbrev pub NumbersBlock : ℕ → List Stmt → List Stmt × ℕ → Type 0
NumbersBlock first xs r = Numbers first (list_nodes xs) (numbered_list first xs) r

abbrev pub whole_item : ℕ → Item → Item
whole_item first d = record d { node = at first d.node }

abbrev pub NumbersItem : ℕ → Item → Item × ℕ → Type 0
NumbersItem first d r = Numbers first 1 (whole_item first d) r

abbrev pub NumbersItems : ℕ → List Item → List Item × ℕ → Type 0
NumbersItems first ds r = Numbers first (length ds) (numbered_items first ds) r

-- the whole program, from 0, or none where it has too many nodes
abbrev pub NumbersProgram : Program → Option Program → Type 0
NumbersProgram p None = limit_of limit.Nodes < program_nodes p
NumbersProgram p (Some q) = (q ≡ numbered_program p) × (program_nodes p ≤ limit_of limit.Nodes)
