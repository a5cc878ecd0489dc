-- The nodes of a program in preorder: each before what stands below it, and its children from left to right.
-- The openers `hidden`, `expr_shape`, `expr_child` and the like let a definition look at the children of a tree. A
-- statement with blocks is matched with its blocks as rows; the blanks before them are their lengths.
use Rattle.std.specs.Prelude.{◌≡◌, ℕ, zero, suc, ◌+◌, List, [], ◌∷◌, ◌++◌}
use Rattle.ac_tree.specs.declared.node.NodeId.{NodeId}
use Rattle.ac_tree.specs.declared.program.CondKind.{CondKind}
use Rattle.ac_tree.specs.declared.program.CondKind.TheVariants.{True, False, Rel}
use Rattle.ac_tree.specs.declared.program.ExprKind.{ExprKind}
use Rattle.ac_tree.specs.declared.program.ExprKind.TheVariants.{Num, Get, Read}
use Rattle.ac_tree.specs.declared.program.Index.{Index}
use Rattle.ac_tree.specs.declared.program.Item.{Item}
use Rattle.ac_tree.specs.declared.program.Program.{Program}
use Rattle.ac_tree.specs.declared.program.Stmt.{Stmt}
use Rattle.ac_tree.specs.declared.program.StmtKind.{StmtKind, Row_of-Stmt, end_of-Stmt, more_of-Stmt}
use Rattle.ac_tree.specs.declared.program.StmtKind.TheVariants.{Set, Put, If', For', While', Hand, Skip}
use Rattle.ac_tree.specs.Opened.{hidden, expr_shape, expr_child, cond_shape, cond_child}
use Rattle.ac_tree.specs.Patterns.{Negative, Plus, Minus, Times, OneIndex, TwoIndexes, Negation, Conjunction, Disjunction}
use Rattle.ac_tree.specs.Numbering.{numbered_program}

-- the nodes below an expression, a condition or a statement

abbrev mutual
  unfolding hidden expr_shape expr_child

  pub inside_expr : ExprKind → List NodeId
  inside_expr (Num k) = []
  inside_expr (Get x) = []
  inside_expr (Read x i) = inside_index i
  inside_expr (Negative n a) = n.id ∷ inside_expr a
  inside_expr (Plus n a m b) = (n.id ∷ inside_expr a) ++ (m.id ∷ inside_expr b)
  inside_expr (Minus n a m b) = (n.id ∷ inside_expr a) ++ (m.id ∷ inside_expr b)
  inside_expr (Times n a m b) = (n.id ∷ inside_expr a) ++ (m.id ∷ inside_expr b)

  pub inside_index : Index → List NodeId
  inside_index (OneIndex n a) = n.id ∷ inside_expr a
  inside_index (TwoIndexes n a m b) = (n.id ∷ inside_expr a) ++ (m.id ∷ inside_expr b)

abbrev pub inside_cond : CondKind → List NodeId
unfolding hidden cond_shape cond_child
inside_cond True = []
inside_cond False = []
inside_cond (Rel r a b) = (a.node.id ∷ inside_expr a.kind) ++ (b.node.id ∷ inside_expr b.kind)
inside_cond (Negation n c) = n.id ∷ inside_cond c
inside_cond (Conjunction n c m d) = (n.id ∷ inside_cond c) ++ (m.id ∷ inside_cond d)
inside_cond (Disjunction n c m d) = (n.id ∷ inside_cond c) ++ (m.id ∷ inside_cond d)

abbrev mutual
  pub inside_stmt : StmtKind → List NodeId
  inside_stmt (Set x a) = a.node.id ∷ inside_expr a.kind
  inside_stmt (Put x i a) = inside_index i ++ (a.node.id ∷ inside_expr a.kind)
  inside_stmt (If' c _ xs _ ys) = (c.node.id ∷ inside_cond c.kind) ++ (nodes_of_row xs ++ nodes_of_row ys)
  inside_stmt (For' x a b _ xs) = (a.node.id ∷ inside_expr a.kind) ++ ((b.node.id ∷ inside_expr b.kind) ++ nodes_of_row xs)
  inside_stmt (While' c _ xs) = (c.node.id ∷ inside_cond c.kind) ++ nodes_of_row xs
  inside_stmt (Hand x role) = []
  inside_stmt Skip = []

  pub nodes_of_row : {n : _} → Row_of-Stmt n → List NodeId
  nodes_of_row end_of-Stmt = []
  nodes_of_row (more_of-Stmt n x rest) = (n.id ∷ inside_stmt x) ++ nodes_of_row rest

-- the same of a list of statements
abbrev pub nodes_of_list : List Stmt → List NodeId
nodes_of_list [] = []
nodes_of_list (s ∷ rest) = (s.node.id ∷ inside_stmt s.kind) ++ nodes_of_list rest

abbrev pub nodes_of_items : List Item → List NodeId
nodes_of_items [] = []
nodes_of_items (d ∷ rest) = d.node.id ∷ nodes_of_items rest

-- all nodes of a program
abbrev pub nodes_of : Program → List NodeId
nodes_of p = p.node.id ∷ (nodes_of_items p.items ++ nodes_of_list p.body)

-- so many numbers, from a first one on
abbrev pub numbers_from : ℕ → ℕ → List NodeId
numbers_from first zero = []
numbers_from first (suc count) = record { 0 = first } ∷ numbers_from (first + 1) count

-- the program is some tree with its nodes numbered, as each program is that bytes spell
pub record IsNumbered (p : Program) : Type 0 where
  pub tree : Program
  pub numbers : p ≡ numbered_program tree
