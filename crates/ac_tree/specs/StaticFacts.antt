-- What the static rules say of two places of a program, without the walk that finds them broken.
-- The openers `hidden`, `expr_shape`, `expr_child` and the like let a definition look at the children of a tree. A
-- statement with blocks is matched with its blocks as rows; the blanks before them are their lengths.
use Rattle.std.specs.Prelude.{◌≡◌, ℕ, ◌<◌, pos, ◌≤ℤ◌, ◌⊎◌, List, ◌∷◌, ◌++◌, Option, Some}
use Rattle.std.specs.List.{AllByRecursion}
use Rattle.ac_tree.specs.declared.node.Node.{Node}
use Rattle.ac_tree.specs.declared.program.Cond.{Cond}
use Rattle.ac_tree.specs.declared.program.CondKind.{CondKind}
use Rattle.ac_tree.specs.declared.program.CondKind.TheVariants.{True, False, Rel}
use Rattle.ac_tree.specs.declared.program.Expr.{Expr}
use Rattle.ac_tree.specs.declared.program.ExprKind.{ExprKind}
use Rattle.ac_tree.specs.declared.program.ExprKind.TheVariants.{Num, Get, Read}
use Rattle.ac_tree.specs.declared.program.Extent.{Extent}
use Rattle.ac_tree.specs.declared.program.Extent.TheVariants.{Lit, Named}
use Rattle.ac_tree.specs.declared.program.Index.{Index}
use Rattle.ac_tree.specs.declared.program.Item.{Item}
use Rattle.ac_tree.specs.declared.program.ItemKind.{ItemKind}
use Rattle.ac_tree.specs.declared.program.ItemKind.TheVariants.{Const, InputScalar, InputArray, VarScalar, VarArray}
use Rattle.ac_tree.specs.declared.program.Stmt.{Stmt}
use Rattle.ac_tree.specs.declared.program.StmtKind.{StmtKind}
use Rattle.ac_tree.specs.declared.program.StmtKind.TheVariants.{Set, Put, If', For', While', Hand, Skip}
use Rattle.ac_tree.specs.declared.program.StmtKind.TheVariants as stmt
use Rattle.ac_tree.specs.Names.{NameBytes}
use Rattle.ac_tree.specs.Opened.{hidden, expr_shape, expr_child, cond_shape, cond_child}
use Rattle.ac_tree.specs.Patterns.{Negative, Plus, Minus, Times, OneIndex, TwoIndexes, Negation, Conjunction, Disjunction}
use Rattle.ac_tree.specs.StaticRules.{index_count, kind_in, rank, extents_of}

-- a statement stands in a block or in a statement of it, at any depth
pub data Within : Stmt → List Stmt → Type 0 where
  here : {s : Stmt} {rest : List Stmt} → Within s (s ∷ rest)
  behind : {s t : Stmt} {rest : List Stmt} → Within s rest → Within s (t ∷ rest)
  in_yes : {s : Stmt} {rest : List Stmt} (n : Node) (c : Cond) (xs ys : List Stmt) → Within s xs → Within s (record { node = n; kind = stmt.If c xs ys } ∷ rest)
  in_no : {s : Stmt} {rest : List Stmt} (n : Node) (c : Cond) (xs ys : List Stmt) → Within s ys → Within s (record { node = n; kind = stmt.If c xs ys } ∷ rest)
  in_for : {s : Stmt} {rest : List Stmt} (n : Node) (x : NameBytes) (a b : Expr) (xs : List Stmt) → Within s xs → Within s (record { node = n; kind = stmt.For x a b xs } ∷ rest)
  in_while : {s : Stmt} {rest : List Stmt} (n : Node) (c : Cond) (xs : List Stmt) → Within s xs → Within s (record { node = n; kind = stmt.While c xs } ∷ rest)

abbrev mutual
  unfolding hidden expr_shape expr_child

  -- an expression names x with so many indexes
  pub Names : NameBytes → ℕ → ExprKind → Type 0
  Names x n (Num k) = ⊥
  Names x n (Get y) = (y ≡ x) × (n ≡ 0)
  Names x n (Read y i) = ((y ≡ x) × (n ≡ index_count i)) ⊎ IndexNames x n i
  Names x n (Negative m a) = Names x n a
  Names x n (Plus m a l b) = Names x n a ⊎ Names x n b
  Names x n (Minus m a l b) = Names x n a ⊎ Names x n b
  Names x n (Times m a l b) = Names x n a ⊎ Names x n b

  pub IndexNames : NameBytes → ℕ → Index → Type 0
  IndexNames x n (OneIndex m a) = Names x n a
  IndexNames x n (TwoIndexes m a l b) = Names x n a ⊎ Names x n b

abbrev pub CondNames : NameBytes → ℕ → CondKind → Type 0
unfolding hidden cond_shape cond_child
CondNames x n True = ⊥
CondNames x n False = ⊥
CondNames x n (Rel r a b) = Names x n a.kind ⊎ Names x n b.kind
CondNames x n (Negation m c) = CondNames x n c
CondNames x n (Conjunction m c l d) = CondNames x n c ⊎ CondNames x n d
CondNames x n (Disjunction m c l d) = CondNames x n c ⊎ CondNames x n d

-- a statement names x itself, be it to write or to read it; what stands in its blocks is not counted
abbrev pub StmtNames : NameBytes → ℕ → StmtKind → Type 0
StmtNames x n (Set y a) = ((y ≡ x) × (n ≡ 0)) ⊎ Names x n a.kind
StmtNames x n (Put y i a) = ((y ≡ x) × (n ≡ index_count i)) ⊎ (IndexNames x n i ⊎ Names x n a.kind)
StmtNames x n (If' c _ xs _ ys) = CondNames x n c.kind
StmtNames x n (For' y a b _ xs) = ((y ≡ x) × (n ≡ 0)) ⊎ (Names x n a.kind ⊎ Names x n b.kind)
StmtNames x n (While' c _ xs) = CondNames x n c.kind
StmtNames x n (Hand y role) = ⊥
StmtNames x n Skip = ⊥

-- an expression reads x: it names it, with some number of indexes
abbrev pub Reads : NameBytes → ExprKind → Type 0
Reads x e = (n : ℕ) × Names x n e

-- a statement writes x itself, be it as the variable of a `for`
abbrev pub Writes : NameBytes → StmtKind → Type 0
Writes x (Set y a) = y ≡ x
Writes x (Put y i a) = y ≡ x
Writes x (If' c _ xs _ ys) = ⊥
Writes x (For' y a b _ xs) = y ≡ x
Writes x (While' c _ xs) = ⊥
Writes x (Hand y role) = ⊥
Writes x Skip = ⊥

-- no two declarations have one name
abbrev pub DeclareOnce : List Item → Type 0
DeclareOnce items = (before between after : List Item) (d e : Item) → items ≡ before ++ d ∷ (between ++ e ∷ after) → d.name ≡ e.name → ⊥

-- a declaration of x has as many extents
pub record IsDeclaredWith (items : List Item) (x : NameBytes) (extents : ℕ) : Type 0 where
  pub kind : ItemKind
  pub declared : kind_in items x ≡ Some kind
  pub extents_are : rank kind ≡ extents

-- neither a constant nor an input
abbrev pub IsVariable : ItemKind → Type 0
IsVariable VarScalar = Unit {0}
IsVariable (VarArray extents) = Unit {0}
IsVariable _ = ⊥

-- x is declared as a variable
pub record IsWritable (items : List Item) (x : NameBytes) : Type 0 where
  pub kind : ItemKind
  pub declared : kind_in items x ≡ Some kind
  pub variable : IsVariable kind

-- what a `for` over y needs of a statement in its body: it writes neither y nor what the ends read
pub record KeepsLoop (y : NameBytes) (low high : ExprKind) (s : StmtKind) : Type 0 where
  pub variable : Writes y s → ⊥
  pub ends : (x : NameBytes) → Writes x s → Reads x low ⊎ Reads x high → ⊥

abbrev pub HasGoodRange : ItemKind → Type 0
HasGoodRange (InputScalar lo hi) = lo ≤ℤ hi
HasGoodRange (InputArray extents lo hi) = lo ≤ℤ hi
HasGoodRange _ = Unit {0}

-- a constant, or a scalar input with its least number, that is no less than 0
abbrev pub IsSize : Option ItemKind → Type 0
IsSize (Some (Const value)) = pos 0 ≤ℤ value
IsSize (Some (InputScalar lo hi)) = pos 0 ≤ℤ lo
IsSize _ = ⊥

abbrev pub IsGoodExtent : List Item → Extent → Type 0
IsGoodExtent before (Lit n) = 0 < n
IsGoodExtent before (Named x) = IsSize (kind_in before x)

-- a range that isn't empty, and extents whose names are declared before
pub record IsGoodItem (before : List Item) (d : Item) : Type 0 where
  pub range : HasGoodRange d.kind
  pub extents : AllByRecursion (IsGoodExtent before) (extents_of d.kind)
