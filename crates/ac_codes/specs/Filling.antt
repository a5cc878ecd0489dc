-- A code filled with values is a tree of a program, up to nodes.
-- The openers `hidden`, `expr_shape`, `expr_child` and the like let a definition look at the children of a tree.
use Rattle.std.specs.Prelude.{◌≡◌, List, [], ◌∷◌, ◌++◌}
use Rattle.ac_tree.specs.declared.program.CondKind.{CondKind}
use Rattle.ac_tree.specs.declared.program.CondKind.TheVariants.{True, False, Rel}
use Rattle.ac_tree.specs.declared.program.ExprKind.{ExprKind}
use Rattle.ac_tree.specs.declared.program.ExprKind.TheVariants.{Num, Get, Read}
use Rattle.ac_tree.specs.declared.program.Index.{Index}
use Rattle.ac_tree.specs.declared.program.Stmt.{Stmt}
use Rattle.ac_tree.specs.declared.program.StmtKind.{StmtKind}
use Rattle.ac_tree.specs.declared.program.StmtKind.TheVariants.{Set, Put, If', For', While', Hand, Skip}
use Rattle.ac_tree.specs.Blocks.{block}
use Rattle.ac_tree.specs.Names.{NameBytes}
use Rattle.ac_tree.specs.Patterns.{Negative, Plus, Minus, Times, OneIndex, TwoIndexes, Negation, Conjunction, Disjunction}
use Rattle.ac_codes.specs.declared.code.CodeName.{CodeName}
use Rattle.ac_codes.specs.declared.code.CodeName.TheVariants as name
use Rattle.ac_codes.specs.declared.code.CodeExpr.{CodeExpr}
use Rattle.ac_codes.specs.declared.code.CodeExpr.TheVariants as expr
use Rattle.ac_codes.specs.declared.code.CodeIndex.{CodeIndex}
use Rattle.ac_codes.specs.declared.code.CodeCond.{CodeCond}
use Rattle.ac_codes.specs.declared.code.CodeCond.TheVariants as cond
use Rattle.ac_codes.specs.declared.code.CodeStmt.{CodeStmt}
use Rattle.ac_codes.specs.declared.code.CodeStmt.TheVariants as stmt
use Rattle.ac_codes.specs.declared.code.CodeBlock.{CodeBlock, Row_of-CodeStmt, end_of-CodeStmt, more_of-CodeStmt}
use Rattle.ac_codes.specs.declared.code.CodeBlock.TheVariants as part
use Rattle.ac_codes.specs.Opened.{hidden, expr_shape, expr_child, cond_shape, cond_child, code_expr_shape, code_expr_child, code_cond_shape, code_cond_child}
use Rattle.ac_codes.specs.Patterns.{CodeNegative, CodePlus, CodeMinus, CodeTimes, CodeOneIndex, CodeTwoIndexes, CodeNegation, CodeConjunction, CodeDisjunction}
use Rattle.ac_codes.specs.Values.{Values, value_of, IsNameValue, IsExprValue, IsCondValue, IsRunValue}

module _ (bound : Values) where
  abbrev pub IsFilledName : CodeName → NameBytes → Type 0
  IsFilledName (name.Own x) y = x ≡ y
  IsFilledName (name.Any x) y = IsNameValue (value_of bound x) y

  abbrev mutual
    unfolding hidden expr_shape expr_child code_expr_shape code_expr_child

    pub IsFilledExpr : CodeExpr → ExprKind → Type 0
    IsFilledExpr (expr.Any x) e = IsExprValue (value_of bound x) e
    IsFilledExpr (expr.Num k) (Num l) = k ≡ l
    IsFilledExpr (expr.Get x) (Get y) = IsFilledName x y
    IsFilledExpr (expr.Read x i) (Read y j) = IsFilledName x y × IsFilledIndex i j
    IsFilledExpr (CodeNegative a) (Negative n e) = IsFilledExpr a e
    IsFilledExpr (CodePlus a b) (Plus n e k f) = IsFilledExpr a e × IsFilledExpr b f
    IsFilledExpr (CodeMinus a b) (Minus n e k f) = IsFilledExpr a e × IsFilledExpr b f
    IsFilledExpr (CodeTimes a b) (Times n e k f) = IsFilledExpr a e × IsFilledExpr b f
    IsFilledExpr _ _ = ⊥

    pub IsFilledIndex : CodeIndex → Index → Type 0
    IsFilledIndex (CodeOneIndex a) (OneIndex n e) = IsFilledExpr a e
    IsFilledIndex (CodeTwoIndexes a b) (TwoIndexes n e k f) = IsFilledExpr a e × IsFilledExpr b f
    IsFilledIndex _ _ = ⊥

  abbrev pub IsFilledCond : CodeCond → CondKind → Type 0
  unfolding hidden cond_shape cond_child code_cond_shape code_cond_child
  IsFilledCond (cond.Any x) c = IsCondValue (value_of bound x) c
  IsFilledCond cond.True True = Unit {0}
  IsFilledCond cond.False False = Unit {0}
  IsFilledCond (cond.Rel r a b) (Rel q e f) = (r ≡ q) × IsFilledExpr a e.kind × IsFilledExpr b f.kind
  IsFilledCond (CodeNegation c) (Negation n e) = IsFilledCond c e
  IsFilledCond (CodeConjunction c d) (Conjunction n e k f) = IsFilledCond c e × IsFilledCond d f
  IsFilledCond (CodeDisjunction c d) (Disjunction n e k f) = IsFilledCond c e × IsFilledCond d f
  IsFilledCond _ _ = ⊥

  abbrev mutual
    pub IsFilledStmt : CodeStmt → StmtKind → Type 0
    IsFilledStmt (stmt.Set x a) (Set y e) = IsFilledName x y × IsFilledExpr a e.kind
    IsFilledStmt (stmt.Put x i a) (Put y j e) = IsFilledName x y × IsFilledIndex i j × IsFilledExpr a e.kind
    IsFilledStmt (stmt.If c a b) (If' d _ xs _ ys) = IsFilledCond c d.kind × IsFilledBlock a (block xs) × IsFilledBlock b (block ys)
    IsFilledStmt (stmt.For x a b c) (For' y e f _ xs) =
        IsFilledName x y × IsFilledExpr a e.kind × IsFilledExpr b f.kind × IsFilledBlock c (block xs)
    IsFilledStmt (stmt.While c a) (While' d _ xs) = IsFilledCond c d.kind × IsFilledBlock a (block xs)
    IsFilledStmt (stmt.Hand x r) (Hand y q) = IsFilledName x y × IsFilledName r q
    IsFilledStmt stmt.Skip Skip = Unit {0}
    IsFilledStmt _ _ = ⊥

    pub IsFilledBlock : CodeBlock → List Stmt → Type 0
    IsFilledBlock (part.Whole' _ code) run = IsFilledRow code run
    IsFilledBlock (part.Around' _ first x _ last) run =
        (before middle after : List Stmt) × (run ≡ before ++ (middle ++ after))
        × IsFilledRow first before × IsRunValue (value_of bound x) middle × IsFilledRow last after

    pub IsFilledRow : {n : _} → Row_of-CodeStmt n → List Stmt → Type 0
    IsFilledRow end_of-CodeStmt [] = Unit {0}
    IsFilledRow (more_of-CodeStmt a code) (s ∷ run) = IsFilledStmt a s.kind × IsFilledRow code run
    IsFilledRow _ _ = ⊥

  -- the same of a list of statements
  abbrev pub IsFilledRun : List CodeStmt → List Stmt → Type 0
  IsFilledRun [] [] = Unit {0}
  IsFilledRun (a ∷ code) (s ∷ run) = IsFilledStmt a s.kind × IsFilledRun code run
  IsFilledRun _ _ = ⊥
