-- Facts about each name and each number of a program.
use Rattle.std.specs.Prelude.{ℕ, ◌^◌, ◌<◌, ℤ, pos, negsuc, List, [], ◌∷◌}
use Rattle.ac_tree.specs.declared.program.CondKind.{CondKind}
use Rattle.ac_tree.specs.declared.program.CondKind.TheVariants.{True, False, Rel}
use Rattle.ac_tree.specs.declared.program.ExprKind.{ExprKind}
use Rattle.ac_tree.specs.declared.program.ExprKind.TheVariants.{Num, Get, Read}
use Rattle.ac_tree.specs.declared.program.Extent.{Extent}
use Rattle.ac_tree.specs.declared.program.Extent.TheVariants.{Lit, Named}
use Rattle.ac_tree.specs.declared.program.Extents.{Extents}
use Rattle.ac_tree.specs.declared.program.Extents.TheVariants as extents
use Rattle.ac_tree.specs.declared.program.Index.{Index}
use Rattle.ac_tree.specs.declared.program.Item.{Item}
use Rattle.ac_tree.specs.declared.program.ItemKind.{ItemKind}
use Rattle.ac_tree.specs.declared.program.ItemKind.TheVariants.{Const, InputScalar, InputArray, VarScalar, VarArray}
use Rattle.ac_tree.specs.declared.program.Program.{Program}
use Rattle.ac_tree.specs.declared.program.Stmt.{Stmt}
use Rattle.ac_tree.specs.declared.program.StmtKind.{StmtKind, Row_of-Stmt, end_of-Stmt, more_of-Stmt}
use Rattle.ac_tree.specs.declared.program.StmtKind.TheVariants.{Set, Put, If', For', While', Hand, Skip}
use Rattle.ac_tree.specs.Grammar.{NameBytes}
use Rattle.ac_tree.specs.Patterns.{Negative, Plus, Minus, Times, OneIndex, TwoIndexes, Negation, Conjunction, Disjunction}
use Rattle.ac_tree.specs.Tokens.{IsName}
use Rattle.ac_program_printer.specs.Opened.{hidden, expr_shape, expr_child, cond_shape, cond_child}

-- each name has the fact N, each number without a sign U, each number with one S
module _ (N : NameBytes → Type 0) (U : ℕ → Type 0) (S : ℤ → Type 0) where
  abbrev mutual
    unfolding hidden expr_shape expr_child

    pub EachExpr : ExprKind → Type 0
    EachExpr (Num k) = U k
    EachExpr (Get x) = N x
    EachExpr (Read x i) = N x × EachIndex i
    EachExpr (Negative n a) = EachExpr a
    EachExpr (Plus n a m b) = EachExpr a × EachExpr b
    EachExpr (Minus n a m b) = EachExpr a × EachExpr b
    EachExpr (Times n a m b) = EachExpr a × EachExpr b

    pub EachIndex : Index → Type 0
    EachIndex (OneIndex n a) = EachExpr a
    EachIndex (TwoIndexes n a m b) = EachExpr a × EachExpr b

  abbrev pub EachCond : CondKind → Type 0
  unfolding hidden cond_shape cond_child
  EachCond True = Unit {0}
  EachCond False = Unit {0}
  EachCond (Rel r a b) = EachExpr a.kind × EachExpr b.kind
  EachCond (Negation n c) = EachCond c
  EachCond (Conjunction n c m d) = EachCond c × EachCond d
  EachCond (Disjunction n c m d) = EachCond c × EachCond d

  abbrev mutual
    pub EachStmt : StmtKind → Type 0
    EachStmt (Set x a) = N x × EachExpr a.kind
    EachStmt (Put x i a) = N x × EachIndex i × EachExpr a.kind
    EachStmt (If' c _ xs _ ys) = EachCond c.kind × EachBlock xs × EachBlock ys
    EachStmt (For' x a b _ xs) = N x × EachExpr a.kind × EachExpr b.kind × EachBlock xs
    EachStmt (While' c _ xs) = EachCond c.kind × EachBlock xs
    EachStmt (Hand x y) = N x × N y
    EachStmt Skip = Unit {0}

    pub EachBlock : {n : _} → Row_of-Stmt n → Type 0
    EachBlock end_of-Stmt = Unit {0}
    EachBlock (more_of-Stmt n s rest) = EachStmt s × EachBlock rest

  abbrev pub EachList : List Stmt → Type 0
  EachList [] = Unit {0}
  EachList (s ∷ rest) = EachStmt s.kind × EachList rest

  abbrev pub EachExtent : Extent → Type 0
  EachExtent (Lit n) = U n
  EachExtent (Named x) = N x

  abbrev pub EachExtents : Extents → Type 0
  EachExtents (extents.One a) = EachExtent a
  EachExtents (extents.Two a b) = EachExtent a × EachExtent b

  abbrev pub EachKind : ItemKind → Type 0
  EachKind (Const v) = S v
  EachKind (InputScalar low high) = S low × S high
  EachKind (InputArray a low high) = EachExtents a × S low × S high
  EachKind VarScalar = Unit {0}
  EachKind (VarArray a) = EachExtents a

  abbrev pub EachItems : List Item → Type 0
  EachItems [] = Unit {0}
  EachItems (d ∷ rest) = N d.name × EachKind d.kind × EachItems rest

  abbrev pub EachProgram : Program → Type 0
  EachProgram p = EachItems p.items × EachList p.body

-- each name is a name and no reserved word
abbrev pub HasNames : Program → Type 0
HasNames = EachProgram IsName (λ n. Unit {0}) (λ z. Unit {0})

-- 64 bits, without a sign and with one

abbrev pub IsUnsigned : ℕ → Type 0
IsUnsigned n = n < 2 ^ 64

abbrev pub IsSigned : ℤ → Type 0
IsSigned (pos n) = n < 2 ^ 63
IsSigned (negsuc n) = n < 2 ^ 63

-- Each number is one that its type holds. A program that code has in hand has no other numbers: the code of the law of
-- printing goes over them.

abbrev pub FitsExpr : ExprKind → Type 0
FitsExpr = EachExpr (λ x. Unit {0}) IsUnsigned IsSigned

abbrev pub FitsIndex : Index → Type 0
FitsIndex = EachIndex (λ x. Unit {0}) IsUnsigned IsSigned

abbrev pub FitsCond : CondKind → Type 0
FitsCond = EachCond (λ x. Unit {0}) IsUnsigned IsSigned

abbrev pub FitsStmt : StmtKind → Type 0
FitsStmt = EachStmt (λ x. Unit {0}) IsUnsigned IsSigned

abbrev pub FitsBlock : {n : _} → Row_of-Stmt n → Type 0
FitsBlock row = EachBlock (λ x. Unit {0}) IsUnsigned IsSigned row

abbrev pub FitsList : List Stmt → Type 0
FitsList = EachList (λ x. Unit {0}) IsUnsigned IsSigned

abbrev pub FitsExtent : Extent → Type 0
FitsExtent = EachExtent (λ x. Unit {0}) IsUnsigned IsSigned

abbrev pub FitsExtents : Extents → Type 0
FitsExtents = EachExtents (λ x. Unit {0}) IsUnsigned IsSigned

abbrev pub FitsKind : ItemKind → Type 0
FitsKind = EachKind (λ x. Unit {0}) IsUnsigned IsSigned

abbrev pub FitsItems : List Item → Type 0
FitsItems = EachItems (λ x. Unit {0}) IsUnsigned IsSigned
