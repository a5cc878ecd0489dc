-- Trees of a program that are the same up to nodes.
use Rattle.std.specs.Prelude.{List, [], ◌∷◌, Bool, true, false, nat_eq, ◌&&◌, bytes_eq}
use Rattle.ac_tree.specs.declared.program.CondKind.{CondKind}
use Rattle.ac_tree.specs.declared.program.CondKind.TheVariants.{True, False, Rel}
use Rattle.ac_tree.specs.declared.program.ExprKind.{ExprKind}
use Rattle.ac_tree.specs.declared.program.ExprKind.TheVariants.{Num, Get, Read}
use Rattle.ac_tree.specs.declared.program.Index.{Index}
use Rattle.ac_tree.specs.declared.program.RelOp.{RelOp}
use Rattle.ac_tree.specs.declared.program.RelOp.TheVariants as relation
use Rattle.ac_tree.specs.declared.program.Stmt.{Stmt}
use Rattle.ac_tree.specs.declared.program.StmtKind.{StmtKind, Row_of-Stmt, end_of-Stmt, more_of-Stmt}
use Rattle.ac_tree.specs.declared.program.StmtKind.TheVariants.{Set, Put, If', For', While', Hand, Skip}
use Rattle.ac_tree.specs.Blocks.{block}
use Rattle.ac_tree.specs.Patterns.{Negative, Plus, Minus, Times, OneIndex, TwoIndexes, Negation, Conjunction, Disjunction}
use Rattle.ac_codes.specs.Opened.{hidden, expr_shape, expr_child, cond_shape, cond_child}

abbrev mutual
  unfolding hidden expr_shape expr_child

  pub same_expr : ExprKind → ExprKind → Bool
  same_expr (Num k) (Num l) = nat_eq k l
  same_expr (Get x) (Get y) = bytes_eq x y
  same_expr (Read x i) (Read y j) = bytes_eq x y && same_index i j
  same_expr (Negative n a) (Negative m b) = same_expr a b
  same_expr (Plus n a k c) (Plus m b l d) = same_expr a b && same_expr c d
  same_expr (Minus n a k c) (Minus m b l d) = same_expr a b && same_expr c d
  same_expr (Times n a k c) (Times m b l d) = same_expr a b && same_expr c d
  same_expr _ _ = false

  pub same_index : Index → Index → Bool
  same_index (OneIndex n a) (OneIndex m b) = same_expr a b
  same_index (TwoIndexes n a k c) (TwoIndexes m b l d) = same_expr a b && same_expr c d
  same_index _ _ = false

abbrev pub same_relation : RelOp → RelOp → Bool
same_relation relation.Eq relation.Eq = true
same_relation relation.Ne relation.Ne = true
same_relation relation.Lt relation.Lt = true
same_relation relation.Le relation.Le = true
same_relation relation.Gt relation.Gt = true
same_relation relation.Ge relation.Ge = true
same_relation _ _ = false

abbrev pub same_cond : CondKind → CondKind → Bool
unfolding hidden cond_shape cond_child
same_cond True True = true
same_cond False False = true
same_cond (Rel r a b) (Rel q c d) = same_relation r q && (same_expr a.kind c.kind && same_expr b.kind d.kind)
same_cond (Negation n c) (Negation m d) = same_cond c d
same_cond (Conjunction n c k d) (Conjunction m e l f) = same_cond c e && same_cond d f
same_cond (Disjunction n c k d) (Disjunction m e l f) = same_cond c e && same_cond d f
same_cond _ _ = false

abbrev mutual
  pub same_stmt : StmtKind → StmtKind → Bool
  same_stmt (Set x a) (Set y b) = bytes_eq x y && same_expr a.kind b.kind
  same_stmt (Put x i a) (Put y j b) = bytes_eq x y && (same_index i j && same_expr a.kind b.kind)
  same_stmt (If' c _ xs _ ys) (If' d _ zs _ ws) = same_cond c.kind d.kind && (same_row xs (block zs) && same_row ys (block ws))
  same_stmt (For' x a b _ xs) (For' y c d _ zs) = bytes_eq x y && (same_expr a.kind c.kind && (same_expr b.kind d.kind && same_row xs (block zs)))
  same_stmt (While' c _ xs) (While' d _ zs) = same_cond c.kind d.kind && same_row xs (block zs)
  same_stmt (Hand x r) (Hand y q) = bytes_eq x y && bytes_eq r q
  same_stmt Skip Skip = true
  same_stmt _ _ = false

  pub same_row : {n : _} → Row_of-Stmt n → List Stmt → Bool
  same_row end_of-Stmt [] = true
  same_row (more_of-Stmt n s xs) (t ∷ ys) = same_stmt s t.kind && same_row xs ys
  same_row _ _ = false

-- the same of lists of statements
abbrev pub same_run : List Stmt → List Stmt → Bool
same_run [] [] = true
same_run (s ∷ xs) (t ∷ ys) = same_stmt s.kind t.kind && same_run xs ys
same_run _ _ = false
