-- What the static rules and the fit of a start give to the induction: each name is used with its rank, an assigned name is no
-- input and has a number for each cell, and a `for` keeps clear of the names that the loops around it protect.
use Rattle.std.specs.Prelude.{◌≡◌, ◌<◌, false, true, List, [], ◌∷◌, ◌++◌, length, ℤ}
use Rattle.std.specs.Str.{bytes_eq}
use Rattle.ac_tree.specs.declared.program.CondKind.{CondKind}
use Rattle.ac_tree.specs.declared.program.CondKind.TheVariants.{True, False, Rel}
use Rattle.ac_tree.specs.declared.program.Expr.{Expr}
use Rattle.ac_tree.specs.declared.program.ExprKind.{ExprKind}
use Rattle.ac_tree.specs.declared.program.ExprKind.TheVariants.{Num, Get, Read}
use Rattle.ac_tree.specs.declared.program.Index.{Index}
use Rattle.ac_tree.specs.declared.program.Program.{Program}
use Rattle.ac_tree.specs.declared.program.Stmt.{Stmt}
use Rattle.ac_tree.specs.declared.program.StmtKind.{StmtKind, Row_of-Stmt, end_of-Stmt, more_of-Stmt, Set, Put, If', For', While', Hand, Skip}
use Rattle.ac_tree.specs.Patterns.{Negative, Plus, Minus, Times, OneIndex, TwoIndexes, Negation, Conjunction, Disjunction}
use Rattle.ac_run.specs.declared.start.Start.{Start}
use Rattle.ac_run.specs.Declarations.{NameBytes, Shape, Scalar, Vector, Matrix, is_input, numbers_in, shape}
use Rattle.ac_run.specs.Memory.{is_inside, place}
use Rattle.ac_policy.specs.State.{IsScalar, cell}
use Rattle.ac_soundness.specs.Opened.{hidden, expr_shape, expr_child, cond_shape, cond_child}

-- an array stands with as many indexes as it has extents
abbrev pub HasIndexes : Shape → Index → Type 0
unfolding hidden expr_shape expr_child
HasIndexes Scalar at = ⊥
HasIndexes (Vector rows) (OneIndex n a) = Unit {0}
HasIndexes (Vector rows) (TwoIndexes n a k b) = ⊥
HasIndexes (Matrix rows columns) (OneIndex n a) = ⊥
HasIndexes (Matrix rows columns) (TwoIndexes n a k b) = Unit {0}

-- the names that an expression reads
abbrev mutual
  unfolding hidden expr_shape expr_child

  pub read_names : ExprKind → List NameBytes
  read_names (Num n) = []
  read_names (Get x) = x ∷ []
  read_names (Read x at) = x ∷ index_names at
  read_names (Negative n a) = read_names a
  read_names (Plus n a k b) = read_names a ++ read_names b
  read_names (Minus n a k b) = read_names a ++ read_names b
  read_names (Times n a k b) = read_names a ++ read_names b

  pub index_names : Index → List NameBytes
  index_names (OneIndex n a) = read_names a
  index_names (TwoIndexes n a k b) = read_names a ++ read_names b

abbrev pub NotIn : NameBytes → List NameBytes → Type 0
NotIn z [] = Unit {0}
NotIn z (y ∷ ys) = (bytes_eq z y ≡ false) × NotIn z ys

-- the names that the ends of a `for` read
abbrev pub ends_names : Expr → Expr → List NameBytes
ends_names lo hi = read_names lo.kind ++ read_names hi.kind

module _ (p : Program) (start : Start) where
  -- each name is used with its rank
  abbrev mutual
    unfolding hidden expr_shape expr_child

    pub Ranked : ExprKind → Type 0
    Ranked (Num n) = Unit {0}
    Ranked (Get x) = IsScalar (shape p start x)
    Ranked (Read x at) = HasIndexes (shape p start x) at × RankedIndex at
    Ranked (Negative n a) = Ranked a
    Ranked (Plus n a k b) = Ranked a × Ranked b
    Ranked (Minus n a k b) = Ranked a × Ranked b
    Ranked (Times n a k b) = Ranked a × Ranked b

    pub RankedIndex : Index → Type 0
    RankedIndex (OneIndex n a) = Ranked a
    RankedIndex (TwoIndexes n a k b) = Ranked a × Ranked b

  abbrev pub RankedCond : CondKind → Type 0
  unfolding hidden cond_shape cond_child
  RankedCond True = Unit {0}
  RankedCond False = Unit {0}
  RankedCond (Rel op a b) = Ranked a.kind × Ranked b.kind
  RankedCond (Negation n c) = RankedCond c
  RankedCond (Conjunction n c k d) = RankedCond c × RankedCond d
  RankedCond (Disjunction n c k d) = RankedCond c × RankedCond d

  -- a name that may be assigned: no input, with a number for each cell within its extents
  pub record Assigned (x : NameBytes) : Type 0 where
    pub free : is_input p x ≡ false
    pub room : (i j : ℤ) → is_inside p start (cell x i j) ≡ true → place p start (cell x i j) < length (numbers_in start.cells x)

  -- statements that assign none of these names
  abbrev mutual
    pub RankedStmt : List NameBytes → StmtKind → Type 0
    RankedStmt names (Set x e) = IsScalar (shape p start x) × Ranked e.kind × Assigned x × NotIn x names
    RankedStmt names (Put x at e) = HasIndexes (shape p start x) at × RankedIndex at × Ranked e.kind × Assigned x × NotIn x names
    RankedStmt names (If' test _ yes_ _ no_) = RankedCond test.kind × RankedBlock names yes_ × RankedBlock names no_
    RankedStmt names (While' test _ body) = RankedCond test.kind × RankedBlock names body
    RankedStmt names (For' x lo hi _ body) =
        IsScalar (shape p start x) × Ranked lo.kind × Ranked hi.kind × Assigned x × NotIn x names × NotIn x (ends_names lo hi) × RankedBlock (x ∷ (ends_names lo hi ++ names)) body
    RankedStmt names (Hand x role) = Unit {0}
    RankedStmt names Skip = Unit {0}

    pub RankedBlock : {k : _} → List NameBytes → Row_of-Stmt k → Type 0
    RankedBlock names end_of-Stmt = Unit {0}
    RankedBlock names (more_of-Stmt n st rest) = RankedStmt names st × RankedBlock names rest

  abbrev pub RankedList : List NameBytes → List Stmt → Type 0
  RankedList names [] = Unit {0}
  RankedList names (st ∷ rest) = RankedStmt names st.kind × RankedList names rest
