-- The printed text of a program, as bytes: a line for each form. Spans and numbers of nodes say nothing there.
use Rattle.std.specs.Prelude.{ℕ, zero, suc, ◌+◌, List, [], ◌∷◌, ◌++◌, Bool, true, false, if◌then◌else◌, codes, decimal}
use Rattle.std.specs.Fmt.{signed_decimal}
use Rattle.ac_tree.specs.declared.program.CondKind.{CondKind}
use Rattle.ac_tree.specs.declared.program.CondKind.TheVariants.{True, False, Rel}
use Rattle.ac_tree.specs.declared.program.ExprKind.{ExprKind}
use Rattle.ac_tree.specs.declared.program.ExprKind.TheVariants.{Num, Get, Read}
use Rattle.ac_tree.specs.declared.program.Extent.{Extent}
use Rattle.ac_tree.specs.declared.program.Extent.TheVariants.{Lit, Named}
use Rattle.ac_tree.specs.declared.program.Extents.{Extents}
use Rattle.ac_tree.specs.declared.program.Extents.TheVariants as extents
use Rattle.ac_tree.specs.declared.program.Index.{Index}
use Rattle.ac_tree.specs.declared.program.Item.{Item}
use Rattle.ac_tree.specs.declared.program.ItemKind.{ItemKind}
use Rattle.ac_tree.specs.declared.program.ItemKind.TheVariants.{Const, InputScalar, InputArray, VarScalar, VarArray}
use Rattle.ac_tree.specs.declared.program.Program.{Program}
use Rattle.ac_tree.specs.declared.program.RelOp.{RelOp}
use Rattle.ac_tree.specs.declared.program.RelOp.TheVariants as relation
use Rattle.ac_tree.specs.declared.program.Stmt.{Stmt}
use Rattle.ac_tree.specs.declared.program.StmtKind.{StmtKind, Row_of-Stmt, end_of-Stmt, more_of-Stmt}
use Rattle.ac_tree.specs.declared.program.StmtKind.TheVariants.{Set, Put, If', For', While', Hand, Skip}
use Rattle.ac_tree.specs.Grammar.{NameBytes}
use Rattle.ac_tree.specs.Patterns.{Negative, Plus, Minus, Times, OneIndex, TwoIndexes, Negation, Conjunction, Disjunction}
use Rattle.ac_program_printer.specs.Opened.{hidden, expr_shape, expr_child, cond_shape, cond_child}

abbrev pub Text : Type 0
Text = List ℕ

abbrev pub when : Bool → Text → Text
when holds text = if holds then text else []

-- as an operand of + - * these stand in parentheses
abbrev pub is_grouped : ExprKind → Bool
unfolding hidden expr_shape expr_child
is_grouped (Num k) = false
is_grouped (Get x) = false
is_grouped (Read x i) = false
is_grouped (Negative n a) = true
is_grouped (Plus n a m b) = true
is_grouped (Minus n a m b) = true
is_grouped (Times n a m b) = true

abbrev pub in_parens : Bool → Text → Text
in_parens grouped text = when grouped (codes "(") ++ text ++ when grouped (codes ")")

abbrev mutual
  unfolding hidden expr_shape expr_child

  pub expr_text : ExprKind → Text
  expr_text (Num k) = decimal k
  expr_text (Get x) = x
  expr_text (Read x i) = x ++ index_text i
  expr_text (Negative n a) = codes "-" ++ in_parens (is_grouped a) (expr_text a)
  expr_text (Plus n a m b) = in_parens (is_grouped a) (expr_text a) ++ codes " + " ++ in_parens (is_grouped b) (expr_text b)
  expr_text (Minus n a m b) = in_parens (is_grouped a) (expr_text a) ++ codes " - " ++ in_parens (is_grouped b) (expr_text b)
  expr_text (Times n a m b) = in_parens (is_grouped a) (expr_text a) ++ codes " * " ++ in_parens (is_grouped b) (expr_text b)

  pub index_text : Index → Text
  index_text (OneIndex n a) = codes "[" ++ expr_text a ++ codes "]"
  index_text (TwoIndexes n a m b) = codes "[" ++ expr_text a ++ codes "," ++ expr_text b ++ codes "]"

abbrev pub relation_text : RelOp → Text
relation_text relation.Eq = codes " = "
relation_text relation.Ne = codes " <> "
relation_text relation.Lt = codes " < "
relation_text relation.Le = codes " <= "
relation_text relation.Gt = codes " > "
relation_text relation.Ge = codes " >= "

-- as an operand of and, or, not these stand in braces
abbrev pub is_braced : CondKind → Bool
unfolding hidden cond_shape cond_child
is_braced True = false
is_braced False = false
is_braced (Rel r a b) = false
is_braced (Negation n c) = true
is_braced (Conjunction n c m d) = true
is_braced (Disjunction n c m d) = true

abbrev pub in_braces : Bool → Text → Text
in_braces braced text = when braced (codes "{ ") ++ text ++ when braced (codes " }")

abbrev pub cond_text : CondKind → Text
unfolding hidden cond_shape cond_child
cond_text True = codes "true"
cond_text False = codes "false"
cond_text (Rel r a b) = expr_text a.kind ++ relation_text r ++ expr_text b.kind
cond_text (Negation n c) = codes "not " ++ in_braces (is_braced c) (cond_text c)
cond_text (Conjunction n c m d) = in_braces (is_braced c) (cond_text c) ++ codes " and " ++ in_braces (is_braced d) (cond_text d)
cond_text (Disjunction n c m d) = in_braces (is_braced c) (cond_text c) ++ codes " or " ++ in_braces (is_braced d) (cond_text d)

-- two spaces for each enclosing block
abbrev pub indent : ℕ → Text
indent zero = []
indent (suc d) = indent d ++ codes "  "

-- a line of its own, inside d blocks
abbrev pub line : ℕ → Text → Text
line d text = indent d ++ text ++ codes "\n"

abbrev pub has_statements : {n : _} → Row_of-Stmt n → Bool
has_statements end_of-Stmt = false
has_statements (more_of-Stmt n s rest) = true

abbrev mutual
  pub stmt_text : ℕ → StmtKind → Text
  stmt_text d (Set x a) = line d (x ++ codes " := " ++ expr_text a.kind ++ codes ";")
  stmt_text d (Put x i a) = line d (x ++ index_text i ++ codes " := " ++ expr_text a.kind ++ codes ";")
  stmt_text d (If' c _ xs _ ys) =
      line d (codes "if " ++ cond_text c.kind ++ codes " then") ++ block_text (d + 1) xs ++ when (has_statements ys) (line d (codes "else")) ++ block_text (d + 1) ys ++ line d (codes "end")
  stmt_text d (For' x a b _ xs) =
      line d (codes "for " ++ x ++ codes " := " ++ expr_text a.kind ++ codes " to " ++ expr_text b.kind ++ codes " do") ++ block_text (d + 1) xs ++ line d (codes "end")
  stmt_text d (While' c _ xs) = line d (codes "while " ++ cond_text c.kind ++ codes " do") ++ block_text (d + 1) xs ++ line d (codes "end")
  stmt_text d (Hand x y) = line d (codes "use " ++ x ++ codes " as " ++ y ++ codes ";")
  stmt_text d Skip = line d (codes "skip;")

  pub block_text : {n : _} → ℕ → Row_of-Stmt n → Text
  block_text d end_of-Stmt = []
  block_text d (more_of-Stmt n s rest) = stmt_text d s ++ block_text d rest

-- the same of a list of statements
abbrev pub list_text : ℕ → List Stmt → Text
list_text d [] = []
list_text d (s ∷ rest) = stmt_text d s.kind ++ list_text d rest

-- `else` stands only before statements
abbrev pub else_line : ℕ → List Stmt → Text
else_line d [] = []
else_line d (s ∷ rest) = line d (codes "else")

abbrev pub extent_text : Extent → Text
extent_text (Lit n) = decimal n
extent_text (Named x) = x

abbrev pub extents_text : Extents → Text
extents_text (extents.One a) = codes "[" ++ extent_text a ++ codes "]"
extents_text (extents.Two a b) = codes "[" ++ extent_text a ++ codes "," ++ extent_text b ++ codes "]"

abbrev pub range_text : Text → Text → Text
range_text low high = codes " : " ++ low ++ codes " .. " ++ high ++ codes ";"

abbrev pub item_text : NameBytes → ItemKind → Text
item_text x (Const v) = codes "const " ++ x ++ codes " = " ++ signed_decimal v ++ codes ";"
item_text x (InputScalar low high) = codes "input " ++ x ++ range_text (signed_decimal low) (signed_decimal high)
item_text x (InputArray a low high) = codes "input " ++ x ++ extents_text a ++ range_text (signed_decimal low) (signed_decimal high)
item_text x VarScalar = codes "var " ++ x ++ codes ";"
item_text x (VarArray a) = codes "var " ++ x ++ extents_text a ++ codes ";"

abbrev pub items_text : List Item → Text
items_text [] = []
items_text (d ∷ rest) = line 0 (item_text d.name d.kind) ++ items_text rest

abbrev pub program_text : Program → Text
program_text p = items_text p.items ++ line 0 (codes "begin") ++ list_text 1 p.body ++ line 0 (codes "end")
