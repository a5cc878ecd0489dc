-- Each name of a program is a name and no reserved word, and each number is one that its type holds: what the proofs of
-- printing go by. A program that code has in hand has no other numbers.
use Rattle.std.specs.Prelude.{List, [], ◌∷◌}
use Rattle.ac_tree.specs.declared.program.CondKind.{CondKind}
use Rattle.ac_tree.specs.declared.program.CondKind.TheVariants.{True, False, Rel}
use Rattle.ac_tree.specs.declared.program.ExprKind.{ExprKind}
use Rattle.ac_tree.specs.declared.program.ExprKind.TheVariants.{Num, Get, Read}
use Rattle.ac_tree.specs.declared.program.Extent.{Extent}
use Rattle.ac_tree.specs.declared.program.Extent.TheVariants.{Lit, Named}
use Rattle.ac_tree.specs.declared.program.Extents.{Extents}
use Rattle.ac_tree.specs.declared.program.Extents.TheVariants as extents
use Rattle.ac_tree.specs.declared.program.Index.{Index}
use Rattle.ac_tree.specs.declared.program.Item.{Item}
use Rattle.ac_tree.specs.declared.program.ItemKind.{ItemKind}
use Rattle.ac_tree.specs.declared.program.ItemKind.TheVariants.{Const, InputScalar, InputArray, VarScalar, VarArray}
use Rattle.ac_tree.specs.declared.program.Program.{Program}
use Rattle.ac_tree.specs.declared.program.Stmt.{Stmt}
use Rattle.ac_tree.specs.declared.program.StmtKind.{StmtKind, Row_of-Stmt, end_of-Stmt, more_of-Stmt}
use Rattle.ac_tree.specs.declared.program.StmtKind.TheVariants.{Set, Put, If', For', While', Hand, Skip}
use Rattle.ac_tree.specs.Patterns.{Negative, Plus, Minus, Times, OneIndex, TwoIndexes, Negation, Conjunction, Disjunction}
use Rattle.ac_tree.specs.Tokens.{IsName}
use Rattle.ac_program_printer.specs.Opened.{hidden, expr_shape, expr_child, cond_shape, cond_child}
use Rattle.ac_program_printer.specs.Names.{IsUnsigned, IsSigned}

abbrev mutual
  unfolding hidden expr_shape expr_child

  pub IsPrintableExpr : ExprKind → Type 0
  IsPrintableExpr (Num k) = IsUnsigned k
  IsPrintableExpr (Get x) = IsName x
  IsPrintableExpr (Read x i) = IsName x × IsPrintableIndex i
  IsPrintableExpr (Negative n a) = IsPrintableExpr a
  IsPrintableExpr (Plus n a m b) = IsPrintableExpr a × IsPrintableExpr b
  IsPrintableExpr (Minus n a m b) = IsPrintableExpr a × IsPrintableExpr b
  IsPrintableExpr (Times n a m b) = IsPrintableExpr a × IsPrintableExpr b

  pub IsPrintableIndex : Index → Type 0
  IsPrintableIndex (OneIndex n a) = IsPrintableExpr a
  IsPrintableIndex (TwoIndexes n a m b) = IsPrintableExpr a × IsPrintableExpr b

abbrev pub IsPrintableCond : CondKind → Type 0
unfolding hidden cond_shape cond_child
IsPrintableCond True = Unit {0}
IsPrintableCond False = Unit {0}
IsPrintableCond (Rel r a b) = IsPrintableExpr a.kind × IsPrintableExpr b.kind
IsPrintableCond (Negation n c) = IsPrintableCond c
IsPrintableCond (Conjunction n c m d) = IsPrintableCond c × IsPrintableCond d
IsPrintableCond (Disjunction n c m d) = IsPrintableCond c × IsPrintableCond d

abbrev mutual
  pub IsPrintableStmt : StmtKind → Type 0
  IsPrintableStmt (Set x a) = IsName x × IsPrintableExpr a.kind
  IsPrintableStmt (Put x i a) = IsName x × IsPrintableIndex i × IsPrintableExpr a.kind
  IsPrintableStmt (If' c _ xs _ ys) = IsPrintableCond c.kind × IsPrintableBlock xs × IsPrintableBlock ys
  IsPrintableStmt (For' x a b _ xs) = IsName x × IsPrintableExpr a.kind × IsPrintableExpr b.kind × IsPrintableBlock xs
  IsPrintableStmt (While' c _ xs) = IsPrintableCond c.kind × IsPrintableBlock xs
  IsPrintableStmt (Hand x y) = IsName x × IsName y
  IsPrintableStmt Skip = Unit {0}

  pub IsPrintableBlock : {n : _} → Row_of-Stmt n → Type 0
  IsPrintableBlock end_of-Stmt = Unit {0}
  IsPrintableBlock (more_of-Stmt n s rest) = IsPrintableStmt s × IsPrintableBlock rest

abbrev pub IsPrintableList : List Stmt → Type 0
IsPrintableList [] = Unit {0}
IsPrintableList (s ∷ rest) = IsPrintableStmt s.kind × IsPrintableList rest

abbrev pub IsPrintableExtent : Extent → Type 0
IsPrintableExtent (Lit n) = IsUnsigned n
IsPrintableExtent (Named x) = IsName x

abbrev pub IsPrintableExtents : Extents → Type 0
IsPrintableExtents (extents.One a) = IsPrintableExtent a
IsPrintableExtents (extents.Two a b) = IsPrintableExtent a × IsPrintableExtent b

abbrev pub IsPrintableKind : ItemKind → Type 0
IsPrintableKind (Const v) = IsSigned v
IsPrintableKind (InputScalar low high) = IsSigned low × IsSigned high
IsPrintableKind (InputArray a low high) = IsPrintableExtents a × IsSigned low × IsSigned high
IsPrintableKind VarScalar = Unit {0}
IsPrintableKind (VarArray a) = IsPrintableExtents a

abbrev pub ArePrintableItems : List Item → Type 0
ArePrintableItems [] = Unit {0}
ArePrintableItems (d ∷ rest) = IsName d.name × IsPrintableKind d.kind × ArePrintableItems rest

abbrev pub IsPrintable : Program → Type 0
IsPrintable p = ArePrintableItems p.items × IsPrintableList p.body
