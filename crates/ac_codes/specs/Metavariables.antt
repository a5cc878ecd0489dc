-- The metavariables of a code, in the order of its text.
use Rattle.std.specs.Prelude.{List, [], ◌∷◌, ◌++◌, filter, not, bytes_eq}
use Rattle.ac_tree.specs.Names.{NameBytes}
use Rattle.ac_codes.specs.declared.code.CodeName.{CodeName}
use Rattle.ac_codes.specs.declared.code.CodeName.TheVariants as name
use Rattle.ac_codes.specs.declared.code.CodeExpr.{CodeExpr}
use Rattle.ac_codes.specs.declared.code.CodeExpr.TheVariants as expr
use Rattle.ac_codes.specs.declared.code.CodeIndex.{CodeIndex}
use Rattle.ac_codes.specs.declared.code.CodeCond.{CodeCond}
use Rattle.ac_codes.specs.declared.code.CodeCond.TheVariants as cond
use Rattle.ac_codes.specs.declared.code.CodeStmt.{CodeStmt}
use Rattle.ac_codes.specs.declared.code.CodeStmt.TheVariants as stmt
use Rattle.ac_codes.specs.declared.code.CodeBlock.{CodeBlock, Row_of-CodeStmt, end_of-CodeStmt, more_of-CodeStmt}
use Rattle.ac_codes.specs.declared.code.CodeBlock.TheVariants as part
use Rattle.ac_codes.specs.Opened.{hidden, code_expr_shape, code_expr_child, code_cond_shape, code_cond_child}
use Rattle.ac_codes.specs.Patterns.{CodeNegative, CodePlus, CodeMinus, CodeTimes, CodeOneIndex, CodeTwoIndexes, CodeNegation, CodeConjunction, CodeDisjunction}

abbrev pub name_metas : CodeName → List NameBytes
name_metas (name.Own x) = []
name_metas (name.Any x) = x ∷ []

abbrev mutual
  unfolding hidden code_expr_shape code_expr_child

  pub expr_metas : CodeExpr → List NameBytes
  expr_metas (expr.Any x) = x ∷ []
  expr_metas (expr.Num k) = []
  expr_metas (expr.Get x) = name_metas x
  expr_metas (expr.Read x i) = name_metas x ++ index_metas i
  expr_metas (CodeNegative a) = expr_metas a
  expr_metas (CodePlus a b) = expr_metas a ++ expr_metas b
  expr_metas (CodeMinus a b) = expr_metas a ++ expr_metas b
  expr_metas (CodeTimes a b) = expr_metas a ++ expr_metas b

  pub index_metas : CodeIndex → List NameBytes
  index_metas (CodeOneIndex a) = expr_metas a
  index_metas (CodeTwoIndexes a b) = expr_metas a ++ expr_metas b

abbrev pub cond_metas : CodeCond → List NameBytes
unfolding hidden code_cond_shape code_cond_child
cond_metas (cond.Any x) = x ∷ []
cond_metas cond.True = []
cond_metas cond.False = []
cond_metas (cond.Rel r a b) = expr_metas a ++ expr_metas b
cond_metas (CodeNegation c) = cond_metas c
cond_metas (CodeConjunction c d) = cond_metas c ++ cond_metas d
cond_metas (CodeDisjunction c d) = cond_metas c ++ cond_metas d

abbrev mutual
  pub stmt_metas : CodeStmt → List NameBytes
  stmt_metas (stmt.Set x a) = name_metas x ++ expr_metas a
  stmt_metas (stmt.Put x i a) = name_metas x ++ (index_metas i ++ expr_metas a)
  stmt_metas (stmt.If c a b) = cond_metas c ++ (block_metas a ++ block_metas b)
  stmt_metas (stmt.For x a b c) = name_metas x ++ (expr_metas a ++ (expr_metas b ++ block_metas c))
  stmt_metas (stmt.While c a) = cond_metas c ++ block_metas a
  stmt_metas (stmt.Hand x r) = name_metas x ++ name_metas r
  stmt_metas stmt.Skip = []

  pub block_metas : CodeBlock → List NameBytes
  block_metas (part.Whole' _ code) = row_metas code
  block_metas (part.Around' _ first x _ last) = row_metas first ++ (x ∷ row_metas last)

  pub row_metas : {n : _} → Row_of-CodeStmt n → List NameBytes
  row_metas end_of-CodeStmt = []
  row_metas (more_of-CodeStmt a code) = stmt_metas a ++ row_metas code

-- the same of a list of statements
abbrev pub run_metas : List CodeStmt → List NameBytes
run_metas [] = []
run_metas (a ∷ code) = stmt_metas a ++ run_metas code

-- each once, where it comes first
abbrev pub distinct : List NameBytes → List NameBytes
distinct [] = []
distinct (x ∷ xs) = x ∷ filter (λ y. not (bytes_eq x y)) (distinct xs)

-- the metavariables of a code, in the order of their first places
abbrev pub metavariables : List CodeStmt → List NameBytes
metavariables code = distinct (run_metas code)
