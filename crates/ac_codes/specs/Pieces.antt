-- What stands in a tree where a code has metavariables and loops, in the order of the code, if all else agrees: so a match
-- is found, and so it has its nodes. That the code with the values is the tree is said by `Filling`.
-- The openers `hidden`, `expr_shape`, `expr_child` and the like let a definition look at the children of a tree.
use Rattle.std.specs.Prelude.{ℕ, ◌+◌, ◌-◌, nat_le, nat_eq, List, [], ◌∷◌, ◌++◌, length, take, drop, Option, Some, None, Bool, true, false, if◌then◌else◌, bytes_eq}
use Rattle.ac_tree.specs.declared.node.Node.{Node}
use Rattle.ac_tree.specs.declared.node.NodeId.{NodeId}
use Rattle.ac_tree.specs.declared.program.CondKind.{CondKind}
use Rattle.ac_tree.specs.declared.program.CondKind.TheVariants.{True, False, Rel}
use Rattle.ac_tree.specs.declared.program.ExprKind.{ExprKind}
use Rattle.ac_tree.specs.declared.program.ExprKind.TheVariants.{Num, Get, Read}
use Rattle.ac_tree.specs.declared.program.Index.{Index}
use Rattle.ac_tree.specs.declared.program.Stmt.{Stmt}
use Rattle.ac_tree.specs.declared.program.StmtKind.{StmtKind}
use Rattle.ac_tree.specs.declared.program.StmtKind.TheVariants.{Set, Put, If', For', While', Hand, Skip}
use Rattle.ac_tree.specs.Blocks.{block}
use Rattle.ac_tree.specs.Names.{NameBytes}
use Rattle.ac_tree.specs.Patterns.{Negative, Plus, Minus, Times, OneIndex, TwoIndexes, Negation, Conjunction, Disjunction}
use Rattle.ac_codes.specs.declared.code.CodeName.{CodeName}
use Rattle.ac_codes.specs.declared.code.CodeName.TheVariants as name
use Rattle.ac_codes.specs.declared.code.CodeExpr.{CodeExpr}
use Rattle.ac_codes.specs.declared.code.CodeExpr.TheVariants as expr
use Rattle.ac_codes.specs.declared.code.CodeIndex.{CodeIndex}
use Rattle.ac_codes.specs.declared.code.CodeCond.{CodeCond}
use Rattle.ac_codes.specs.declared.code.CodeCond.TheVariants as cond
use Rattle.ac_codes.specs.declared.code.CodeStmt.{CodeStmt}
use Rattle.ac_codes.specs.declared.code.CodeStmt.TheVariants as stmt
use Rattle.ac_codes.specs.declared.code.CodeBlock.{CodeBlock, Row_of-CodeStmt, end_of-CodeStmt, more_of-CodeStmt}
use Rattle.ac_codes.specs.declared.code.CodeBlock.TheVariants as part
use Rattle.ac_codes.specs.declared.pattern.MatchValue.{MatchValue}
use Rattle.ac_codes.specs.declared.pattern.MatchValue.TheVariants as value
use Rattle.ac_codes.specs.Opened.{hidden, expr_shape, expr_child, cond_shape, cond_child, code_expr_shape, code_expr_child, code_cond_shape, code_cond_child}
use Rattle.ac_codes.specs.Patterns.{CodeNegative, CodePlus, CodeMinus, CodeTimes, CodeOneIndex, CodeTwoIndexes, CodeNegation, CodeConjunction, CodeDisjunction}
use Rattle.ac_codes.specs.Sameness.{same_relation}
use Rattle.ac_codes.specs.Values.{Values}

-- what stands at a metavariable, or the node where the code has a loop
pub data Piece : Type 0 where
  stands_for : NameBytes → MatchValue → Piece
  loop_at : NodeId → Piece

abbrev pub values_in : List Piece → Values
values_in [] = []
values_in (stands_for x v ∷ ps) = (x, v) ∷ values_in ps
values_in (loop_at n ∷ ps) = values_in ps

abbrev pub loops_in : List Piece → List NodeId
loops_in [] = []
loops_in (stands_for x v ∷ ps) = loops_in ps
loops_in (loop_at n ∷ ps) = n ∷ loops_in ps

abbrev pub Pieces : Type 0
Pieces = Option (List Piece)

-- those of two parts, if both agree
abbrev pub both : Pieces → Pieces → Pieces
both (Some ps) (Some qs) = Some (ps ++ qs)
both _ _ = None

abbrev pub where_same : Bool → Pieces
where_same true = Some []
where_same false = None

abbrev pub one : Piece → Pieces
one p = Some (p ∷ [])

abbrev pub name_pieces : CodeName → NameBytes → Pieces
name_pieces (name.Own x) y = where_same (bytes_eq x y)
name_pieces (name.Any x) y = one (stands_for x (value.Name y))

abbrev mutual
  unfolding hidden expr_shape expr_child code_expr_shape code_expr_child

  pub expr_pieces : CodeExpr → Node → ExprKind → Pieces
  expr_pieces (expr.Any x) n e = one (stands_for x (value.Expr (record { node = n; kind = e })))
  expr_pieces (expr.Num k) n (Num l) = where_same (nat_eq k l)
  expr_pieces (expr.Get x) n (Get y) = name_pieces x y
  expr_pieces (expr.Read x i) n (Read y j) = both (name_pieces x y) (index_pieces i j)
  expr_pieces (CodeNegative a) n (Negative l e) = expr_pieces a l e
  expr_pieces (CodePlus a b) n (Plus l e k f) = both (expr_pieces a l e) (expr_pieces b k f)
  expr_pieces (CodeMinus a b) n (Minus l e k f) = both (expr_pieces a l e) (expr_pieces b k f)
  expr_pieces (CodeTimes a b) n (Times l e k f) = both (expr_pieces a l e) (expr_pieces b k f)
  expr_pieces _ _ _ = None

  pub index_pieces : CodeIndex → Index → Pieces
  index_pieces (CodeOneIndex a) (OneIndex n e) = expr_pieces a n e
  index_pieces (CodeTwoIndexes a b) (TwoIndexes n e k f) = both (expr_pieces a n e) (expr_pieces b k f)
  index_pieces _ _ = None

abbrev pub cond_pieces : CodeCond → Node → CondKind → Pieces
unfolding hidden cond_shape cond_child code_cond_shape code_cond_child
cond_pieces (cond.Any x) n c = one (stands_for x (value.Cond (record { node = n; kind = c })))
cond_pieces cond.True n True = Some []
cond_pieces cond.False n False = Some []
cond_pieces (cond.Rel r a b) n (Rel q e f) =
    both (where_same (same_relation r q)) (both (expr_pieces a e.node e.kind) (expr_pieces b f.node f.kind))
cond_pieces (CodeNegation c) n (Negation l e) = cond_pieces c l e
cond_pieces (CodeConjunction c d) n (Conjunction l e k f) = both (cond_pieces c l e) (cond_pieces d k f)
cond_pieces (CodeDisjunction c d) n (Disjunction l e k f) = both (cond_pieces c l e) (cond_pieces d k f)
cond_pieces _ _ _ = None

abbrev pub row_length : {n : _} → Row_of-CodeStmt n → ℕ
row_length end_of-CodeStmt = 0
row_length (more_of-CodeStmt a code) = row_length code + 1

abbrev mutual
  pub stmt_pieces : CodeStmt → NodeId → StmtKind → Pieces
  stmt_pieces (stmt.Set x a) n (Set y e) = both (name_pieces x y) (expr_pieces a e.node e.kind)
  stmt_pieces (stmt.Put x i a) n (Put y j e) = both (name_pieces x y) (both (index_pieces i j) (expr_pieces a e.node e.kind))
  stmt_pieces (stmt.If c a b) n (If' d _ xs _ ys) =
      both (cond_pieces c d.node d.kind) (both (block_pieces a (block xs)) (block_pieces b (block ys)))
  stmt_pieces (stmt.For x a b c) n (For' y e f _ xs) =
      both (one (loop_at n)) (both (name_pieces x y) (both (expr_pieces a e.node e.kind) (both (expr_pieces b f.node f.kind) (block_pieces c (block xs)))))
  stmt_pieces (stmt.While c a) n (While' d _ xs) =
      both (one (loop_at n)) (both (cond_pieces c d.node d.kind) (block_pieces a (block xs)))
  stmt_pieces (stmt.Hand x r) n (Hand y q) = both (name_pieces x y) (name_pieces r q)
  stmt_pieces stmt.Skip n Skip = Some []
  stmt_pieces _ _ _ = None

  -- a metavariable for a run takes what the statements round it leave
  pub block_pieces : CodeBlock → List Stmt → Pieces
  block_pieces (part.Whole' _ code) run = row_pieces code run
  block_pieces (part.Around' _ first x _ last) run =
      if nat_le (row_length first + row_length last) (length run)
      then both (row_pieces first (take (row_length first) run))
      (both (one (stands_for x (value.Run (take (length run - (row_length first + row_length last)) (drop (row_length first) run)))))
      (row_pieces last (drop (length run - row_length last) run)))
      else None

  pub row_pieces : {n : _} → Row_of-CodeStmt n → List Stmt → Pieces
  row_pieces end_of-CodeStmt [] = Some []
  row_pieces (more_of-CodeStmt a code) (s ∷ run) = both (stmt_pieces a s.node.id s.kind) (row_pieces code run)
  row_pieces _ _ = None

-- the same of a list of statements
abbrev pub run_pieces : List CodeStmt → List Stmt → Pieces
run_pieces [] [] = Some []
run_pieces (a ∷ code) (s ∷ run) = both (stmt_pieces a s.node.id s.kind) (run_pieces code run)
run_pieces _ _ = None
