-- The nodes inside a statement that has blocks.
use Rattle.std.proofs.Common.{◌≡◌, List, ◌∷◌, ◌++◌, refl, ap, arith, rules}
use mathlib.Core.Former.{Count}
use Rattle.ac_tree.specs.declared.node.NodeId.{NodeId}
use Rattle.ac_tree.specs.declared.program.Cond.{Cond}
use Rattle.ac_tree.specs.declared.program.Expr.{Expr}
use Rattle.ac_tree.specs.declared.program.Stmt.{Stmt}
use Rattle.ac_tree.specs.declared.program.StmtKind.{the_lemmas as stmt_lemmas, Row_of-Stmt, end_of-Stmt, more_of-Stmt, items-the_row-Stmt}
use Rattle.ac_tree.specs.declared.program.StmtKind.TheVariants as stmt
use Rattle.ac_tree.specs.Preorder.{inside_expr, inside_cond, inside_stmt, nodes_of_row, nodes_of_list}
use Rattle.ac_run.specs.Declarations.{NameBytes}

node_rows : (n : Count) (row : Row_of-Stmt n) → nodes_of_row row ≡ nodes_of_list (items-the_row-Stmt n row)
node_rows _ end_of-Stmt = refl
node_rows _ (more_of-Stmt {n = n} at s rest) = ap (λ (ns : List NodeId). (at.id ∷ inside_stmt s) ++ ns) (node_rows n rest)

pub nodes_if : (test : Cond) (ys zs : List Stmt) → inside_stmt (stmt.If test ys zs) ≡ (test.node.id ∷ inside_cond test.kind) ++ (nodes_of_list ys ++ nodes_of_list zs)
nodes_if test ys zs = first_of (search (rules, stmt_lemmas, node_rows), grind (arith, stmt_lemmas, node_rows))

pub nodes_for : (x : NameBytes) (lo hi : Expr) (body : List Stmt) → inside_stmt (stmt.For x lo hi body) ≡ (lo.node.id ∷ inside_expr lo.kind) ++ ((hi.node.id ∷ inside_expr hi.kind) ++ nodes_of_list body)
nodes_for x lo hi body = first_of (search (rules, stmt_lemmas, node_rows), grind (arith, stmt_lemmas, node_rows))

pub nodes_while : (test : Cond) (body : List Stmt) → inside_stmt (stmt.While test body) ≡ (test.node.id ∷ inside_cond test.kind) ++ nodes_of_list body
nodes_while test body = first_of (search (rules, stmt_lemmas, node_rows), grind (arith, stmt_lemmas, node_rows))
