-- Blocks are lists, and rows of statements as well.
use Rattle.std.proofs.Common.{◌≡◌, ℕ, ◌+◌, ◌-◌, List, [], ◌∷◌, ◌++◌, length, take, drop, Some, None, nat_le, ◌&&◌, ◌||◌, if◌then◌else◌, bytes_eq, rules, arith, ap, refl, sym, ◌∙◌}
use mathlib.Core.Former.{Count}
use Rattle.ac_tree.specs.declared.program.Cond.{Cond}
use Rattle.ac_tree.specs.declared.program.Expr.{Expr}
use Rattle.ac_tree.specs.declared.program.Stmt.{Stmt}
use Rattle.ac_tree.specs.declared.program.StmtKind.{the_lemmas as stmt_lemmas, Row_of-Stmt, end_of-Stmt, more_of-Stmt, items-the_row-Stmt}
use Rattle.ac_tree.specs.declared.program.StmtKind.TheVariants as stmt
use Rattle.ac_tree.specs.Blocks.{block}
use Rattle.ac_tree.specs.Names.{NameBytes}
use Rattle.ac_codes.specs.Sameness.{same_expr, same_cond, same_stmt, same_row, same_run}
use Rattle.ac_codes.specs.SideConditions.{writes, row_writes, run_writes}

pub block-items : (n : Count) (row : Row_of-Stmt n) → block row ≡ items-the_row-Stmt n row
block-items _ end_of-Stmt = refl
block-items _ (more_of-Stmt {n = n} at s rest) = ap (λ xs. record { node = at; kind = s } ∷ xs) (block-items n rest)

-- sameness

same_row-items : (n : Count) (row : Row_of-Stmt n) (ys : List Stmt) → same_row row ys ≡ same_run (items-the_row-Stmt n row) ys
same_row-items _ end_of-Stmt [] = refl
same_row-items _ end_of-Stmt (t ∷ ys) = refl
same_row-items _ (more_of-Stmt {n = n} at s rest) [] = refl
same_row-items _ (more_of-Stmt {n = n} at s rest) (t ∷ ys) = ap (λ b. same_stmt s t.kind && b) (same_row-items n rest ys)

pub same_stmt-If : (c d : Cond) (xs ys zs ws : List Stmt) → same_stmt (stmt.If c xs ys) (stmt.If d zs ws) ≡ (same_cond c.kind d.kind && (same_run xs zs && same_run ys ws))
same_stmt-If c d xs ys zs ws = first_of (search (rules, stmt_lemmas, block-items, same_row-items), grind (arith, stmt_lemmas, block-items, same_row-items))

pub same_stmt-For : (x y : NameBytes) (a b c d : Expr) (xs zs : List Stmt) → same_stmt (stmt.For x a b xs) (stmt.For y c d zs) ≡
    (bytes_eq x y && (same_expr a.kind c.kind && (same_expr b.kind d.kind && same_run xs zs)))
same_stmt-For x y a b c d xs zs = first_of (search (rules, stmt_lemmas, block-items, same_row-items), grind (arith, stmt_lemmas, block-items, same_row-items))

pub same_stmt-While : (c d : Cond) (xs zs : List Stmt) → same_stmt (stmt.While c xs) (stmt.While d zs) ≡ (same_cond c.kind d.kind && same_run xs zs)
same_stmt-While c d xs zs = first_of (search (rules, stmt_lemmas, block-items, same_row-items), grind (arith, stmt_lemmas, block-items, same_row-items))

pub ruleset same_stmt_rules = (stmt_lemmas, same_stmt-If, same_stmt-For, same_stmt-While)

-- what is written

row_writes-items : (x : NameBytes) (n : Count) (row : Row_of-Stmt n) → row_writes x row ≡ run_writes x (items-the_row-Stmt n row)
row_writes-items x _ end_of-Stmt = refl
row_writes-items x _ (more_of-Stmt {n = n} at s rest) = ap (λ b. writes x s || b) (row_writes-items x n rest)

pub writes-If : (x : NameBytes) (c : Cond) (xs ys : List Stmt) → writes x (stmt.If c xs ys) ≡ (run_writes x xs || run_writes x ys)
writes-If x c xs ys = first_of (search (rules, stmt_lemmas, row_writes-items), grind (arith, stmt_lemmas, row_writes-items))

pub writes-For : (x y : NameBytes) (a b : Expr) (xs : List Stmt) → writes x (stmt.For y a b xs) ≡ (bytes_eq y x || run_writes x xs)
writes-For x y a b xs = first_of (search (rules, stmt_lemmas, row_writes-items), grind (arith, stmt_lemmas, row_writes-items))

pub writes-While : (x : NameBytes) (c : Cond) (xs : List Stmt) → writes x (stmt.While c xs) ≡ run_writes x xs
writes-While x c xs = first_of (search (rules, stmt_lemmas, row_writes-items), grind (arith, stmt_lemmas, row_writes-items))

pub ruleset write_rules = (stmt_lemmas, writes-If, writes-For, writes-While)
