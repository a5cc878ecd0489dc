-- The productions of codes, by name.
-- The openers `hidden`, `code_expr_shape`, `code_expr_child` and the like let a pattern look at the children of a code.
use Rattle.ac_codes.specs.declared.code.CodeExpr.{CodeExpr}
use Rattle.ac_codes.specs.declared.code.CodeExpr.TheVariants as expr
use Rattle.ac_codes.specs.declared.code.CodeIndex.{CodeIndex}
use Rattle.ac_codes.specs.declared.code.CodeIndex.TheVariants as index
use Rattle.ac_codes.specs.declared.code.CodeCond.{CodeCond}
use Rattle.ac_codes.specs.declared.code.CodeCond.TheVariants as cond
use Rattle.ac_codes.specs.Opened.{hidden, code_expr_shape, code_expr_child, code_cond_shape, code_cond_child}

pattern abbrev pub CodeNegative : CodeExpr → CodeExpr
unfolding hidden code_expr_shape code_expr_child
CodeNegative a = expr.Neg a

pattern abbrev pub CodePlus : CodeExpr → CodeExpr → CodeExpr
unfolding hidden code_expr_shape code_expr_child
CodePlus a b = expr.Add a b

pattern abbrev pub CodeMinus : CodeExpr → CodeExpr → CodeExpr
unfolding hidden code_expr_shape code_expr_child
CodeMinus a b = expr.Sub a b

pattern abbrev pub CodeTimes : CodeExpr → CodeExpr → CodeExpr
unfolding hidden code_expr_shape code_expr_child
CodeTimes a b = expr.Mul a b

pattern abbrev pub CodeOneIndex : CodeExpr → CodeIndex
unfolding hidden code_expr_shape code_expr_child
CodeOneIndex a = index.One a

pattern abbrev pub CodeTwoIndexes : CodeExpr → CodeExpr → CodeIndex
unfolding hidden code_expr_shape code_expr_child
CodeTwoIndexes a b = index.Two a b

pattern abbrev pub CodeNegation : CodeCond → CodeCond
unfolding hidden code_cond_shape code_cond_child
CodeNegation c = cond.Not c

pattern abbrev pub CodeConjunction : CodeCond → CodeCond → CodeCond
unfolding hidden code_cond_shape code_cond_child
CodeConjunction c d = cond.And c d

pattern abbrev pub CodeDisjunction : CodeCond → CodeCond → CodeCond
unfolding hidden code_cond_shape code_cond_child
CodeDisjunction c d = cond.Or c d
