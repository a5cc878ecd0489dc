-- What code that goes over the numbers of a program finds, and what its names and its numbers come to together.
use Rattle.std.proofs.Common.{◌≡◌, ℕ, ◌+◌, ◌<◌, ◌≤◌, ◌^◌, ℤ, pos, negsuc, List, [], ◌∷◌, length, drop, get_or, refl, sym, ◌∙◌, ap, ap₂, subst, rules, arith}
use Rattle.std.proofs.lemmas.List.{drop_more, drop_all}
use mathlib.Core.Former.{Count}
use Rattle.ac_tree.specs.declared.program.Cond.{Cond}
use Rattle.ac_tree.specs.declared.program.CondKind.{CondKind}
use Rattle.ac_tree.specs.declared.program.CondKind.TheVariants.{True, False, Rel}
use Rattle.ac_tree.specs.declared.program.Expr.{Expr}
use Rattle.ac_tree.specs.declared.program.ExprKind.{ExprKind}
use Rattle.ac_tree.specs.declared.program.ExprKind.TheVariants.{Num, Get, Read}
use Rattle.ac_tree.specs.declared.program.Extent.{Extent}
use Rattle.ac_tree.specs.declared.program.Extent.TheVariants.{Lit, Named}
use Rattle.ac_tree.specs.declared.program.Extents.{Extents}
use Rattle.ac_tree.specs.declared.program.Extents.TheVariants as extents
use Rattle.ac_tree.specs.declared.program.Index.{Index}
use Rattle.ac_tree.specs.declared.program.Item.{Item}
use Rattle.ac_tree.specs.declared.program.ItemKind.{ItemKind}
use Rattle.ac_tree.specs.declared.program.ItemKind.TheVariants.{Const, InputScalar, InputArray, VarScalar, VarArray}
use Rattle.ac_tree.specs.declared.program.Program.{Program}
use Rattle.ac_tree.specs.declared.program.Stmt.{Stmt}
use Rattle.ac_tree.specs.declared.program.StmtKind.{StmtKind, the_lemmas as stmt_lemmas, Row_of-Stmt, end_of-Stmt, more_of-Stmt, items-the_row-Stmt}
use Rattle.ac_tree.specs.declared.program.StmtKind.TheVariants.{Set, Put, If', For', While', Hand, Skip}
use Rattle.ac_tree.specs.declared.program.StmtKind.TheVariants as stmt
use Rattle.ac_tree.specs.Grammar.{NameBytes}
use Rattle.ac_tree.specs.Patterns.{Negative, Plus, Minus, Times, OneIndex, TwoIndexes, Negation, Conjunction, Disjunction}
use Rattle.ac_tree.specs.Tokens.{IsName}
use Rattle.ac_program_printer.specs.Opened.{hidden, expr_shape, expr_child, cond_shape, cond_child, stmt_child}
use Rattle.ac_program_printer.specs.Names.{EachExpr, EachIndex, EachCond, EachStmt, EachBlock, EachList, EachExtent, EachExtents, EachKind, EachItems, HasNames, FitsExpr, FitsIndex, FitsCond, FitsStmt, FitsBlock, FitsList, FitsExtent, FitsExtents, FitsKind, FitsItems}
use Rattle.ac_program_printer.proofs.Printable.{IsPrintableExpr, IsPrintableIndex, IsPrintableCond, IsPrintableStmt, IsPrintableBlock, IsPrintableList, IsPrintableExtent, IsPrintableExtents, IsPrintableKind, ArePrintableItems, IsPrintable}

-- a row of statements is a list

fits_block-items : (n : Count) (row : Row_of-Stmt n) → FitsBlock row ≡ FitsList (items-the_row-Stmt n row)
fits_block-items _ end_of-Stmt = refl
fits_block-items _ (more_of-Stmt {n = n} m st rest) = ap (λ (T : Type 0). FitsStmt st × T) (fits_block-items n rest)

fits_row : (xs : List Stmt) → FitsBlock (stmt_child xs) ≡ FitsList xs
fits_row xs = first_of (search (rules, stmt_lemmas, fits_block-items), grind (arith, stmt_lemmas, fits_block-items))

fits-If : (t : Cond) (xs ys : List Stmt) → FitsStmt (stmt.If t xs ys) ≡ (FitsCond t.kind × FitsList xs × FitsList ys)
fits-If t xs ys = ap₂ (λ (X Y : Type 0). FitsCond t.kind × X × Y) (fits_row xs) (fits_row ys)

fits-For : (x : NameBytes) (a b : Expr) (xs : List Stmt) → FitsStmt (stmt.For x a b xs) ≡ (Unit {0} × FitsExpr a.kind × FitsExpr b.kind × FitsList xs)
fits-For x a b xs = ap (λ (X : Type 0). Unit {0} × FitsExpr a.kind × FitsExpr b.kind × X) (fits_row xs)

fits-While : (t : Cond) (xs : List Stmt) → FitsStmt (stmt.While t xs) ≡ (FitsCond t.kind × FitsList xs)
fits-While t xs = ap (λ (X : Type 0). FitsCond t.kind × X) (fits_row xs)

pub if_fits : (k : StmtKind) (t : Cond) (xs ys us vs : List Stmt) → k ≡ stmt.If t xs ys → us ≡ xs → vs ≡ ys → FitsCond t.kind → FitsList us → FitsList vs → FitsStmt k
if_fits k t xs ys us vs e f g c h i =
    subst (λ (k : StmtKind). FitsStmt k) (sym e) (subst (λ (T : Type 0). T) (sym (fits-If t xs ys)) (c, subst (λ (l : List Stmt). FitsList l) f h, subst (λ (l : List Stmt). FitsList l) g i))

pub for_fits : (k : StmtKind) (x : NameBytes) (a b : Expr) (xs us : List Stmt) → k ≡ stmt.For x a b xs → us ≡ xs → FitsExpr a.kind → FitsExpr b.kind → FitsList us → FitsStmt k
for_fits k x a b xs us e f c d h =
    subst (λ (k : StmtKind). FitsStmt k) (sym e) (subst (λ (T : Type 0). T) (sym (fits-For x a b xs)) (tt, c, d, subst (λ (l : List Stmt). FitsList l) f h))

pub while_fits : (k : StmtKind) (t : Cond) (xs us : List Stmt) → k ≡ stmt.While t xs → us ≡ xs → FitsCond t.kind → FitsList us → FitsStmt k
while_fits k t xs us e f c h =
    subst (λ (k : StmtKind). FitsStmt k) (sym e) (subst (λ (T : Type 0). T) (sym (fits-While t xs)) (c, subst (λ (l : List Stmt). FitsList l) f h))

-- a loop over statements, and over declarations: what is left fits where all fit

pub list_step : (block : List Stmt) (i : ℕ) (x : Stmt) → i < length block → x ≡ get_or block i x → FitsStmt x.kind → (FitsList (drop i block) → FitsList block) → FitsList (drop (i + 1) block) → FitsList block
list_step block i x h e f g k =
    g (subst (λ (l : List Stmt). FitsList l) (sym (drop_more block i x h)) (subst (λ (y : Stmt). FitsStmt y.kind × FitsList (drop (i + 1) block)) e (f, k)))

pub list_end : (block : List Stmt) (i : ℕ) → length block ≤ i → (FitsList (drop i block) → FitsList block) → FitsList block
list_end block i h g = g (subst (λ (l : List Stmt). FitsList l) (sym (drop_all i block h)) tt)

pub items_step : (items : List Item) (i : ℕ) (x : Item) → i < length items → x ≡ get_or items i x → FitsKind x.kind → (FitsItems (drop i items) → FitsItems items) → FitsItems (drop (i + 1) items) → FitsItems items
items_step items i x h e f g k =
    g (subst (λ (l : List Item). FitsItems l) (sym (drop_more items i x h)) (subst (λ (y : Item). Unit {0} × FitsKind y.kind × FitsItems (drop (i + 1) items)) e (tt, f, k)))

pub items_end : (items : List Item) (i : ℕ) → length items ≤ i → (FitsItems (drop i items) → FitsItems items) → FitsItems items
items_end items i h g = g (subst (λ (l : List Item). FitsItems l) (sym (drop_all i items h)) tt)

-- names and numbers together

abbrev NamesExpr : ExprKind → Type 0
NamesExpr = EachExpr IsName (λ n. Unit {0}) (λ z. Unit {0})

abbrev NamesIndex : Index → Type 0
NamesIndex = EachIndex IsName (λ n. Unit {0}) (λ z. Unit {0})

abbrev NamesCond : CondKind → Type 0
NamesCond = EachCond IsName (λ n. Unit {0}) (λ z. Unit {0})

abbrev NamesStmt : StmtKind → Type 0
NamesStmt = EachStmt IsName (λ n. Unit {0}) (λ z. Unit {0})

abbrev NamesBlock : {n : Count} → Row_of-Stmt n → Type 0
NamesBlock row = EachBlock IsName (λ n. Unit {0}) (λ z. Unit {0}) row

abbrev NamesList : List Stmt → Type 0
NamesList = EachList IsName (λ n. Unit {0}) (λ z. Unit {0})

abbrev NamesExtent : Extent → Type 0
NamesExtent = EachExtent IsName (λ n. Unit {0}) (λ z. Unit {0})

abbrev NamesExtents : Extents → Type 0
NamesExtents = EachExtents IsName (λ n. Unit {0}) (λ z. Unit {0})

abbrev NamesKind : ItemKind → Type 0
NamesKind = EachKind IsName (λ n. Unit {0}) (λ z. Unit {0})

abbrev NamesItems : List Item → Type 0
NamesItems = EachItems IsName (λ n. Unit {0}) (λ z. Unit {0})

mutual
  unfolding hidden expr_shape expr_child

  both_expr : (k : ExprKind) → NamesExpr k → FitsExpr k → IsPrintableExpr k
  both_expr (Num k) n f = f
  both_expr (Get x) n f = n
  both_expr (Read x i) n f = (n.0, both_index i n.1 f.1)
  both_expr (Negative m a) n f = both_expr a n f
  both_expr (Plus m a o b) n f = (both_expr a n.0 f.0, both_expr b n.1 f.1)
  both_expr (Minus m a o b) n f = (both_expr a n.0 f.0, both_expr b n.1 f.1)
  both_expr (Times m a o b) n f = (both_expr a n.0 f.0, both_expr b n.1 f.1)

  both_index : (i : Index) → NamesIndex i → FitsIndex i → IsPrintableIndex i
  both_index (OneIndex m a) n f = both_expr a n f
  both_index (TwoIndexes m a o b) n f = (both_expr a n.0 f.0, both_expr b n.1 f.1)

both_cond : (k : CondKind) → NamesCond k → FitsCond k → IsPrintableCond k
unfolding hidden cond_shape cond_child
both_cond True n f = tt
both_cond False n f = tt
both_cond (Rel r a b) n f = (both_expr a.kind n.0 f.0, both_expr b.kind n.1 f.1)
both_cond (Negation m c) n f = both_cond c n f
both_cond (Conjunction m c o d) n f = (both_cond c n.0 f.0, both_cond d n.1 f.1)
both_cond (Disjunction m c o d) n f = (both_cond c n.0 f.0, both_cond d n.1 f.1)

mutual
  both_stmt : (k : StmtKind) → NamesStmt k → FitsStmt k → IsPrintableStmt k
  both_stmt (Set x a) n f = (n.0, both_expr a.kind n.1 f.1)
  both_stmt (Put x i a) n f = (n.0, both_index i n.1 f.1, both_expr a.kind n.2 f.2)
  both_stmt (If' c _ xs _ ys) n f = (both_cond c.kind n.0 f.0, both_block _ xs n.1 f.1, both_block _ ys n.2 f.2)
  both_stmt (For' x a b _ xs) n f = (n.0, both_expr a.kind n.1 f.1, both_expr b.kind n.2 f.2, both_block _ xs n.3 f.3)
  both_stmt (While' c _ xs) n f = (both_cond c.kind n.0 f.0, both_block _ xs n.1 f.1)
  both_stmt (Hand x y) n f = n
  both_stmt Skip n f = tt

  both_block : (l : Count) (row : Row_of-Stmt l) → NamesBlock row → FitsBlock row → IsPrintableBlock row
  both_block _ end_of-Stmt n f = tt
  both_block _ (more_of-Stmt {n = l} m s rest) n f = (both_stmt s n.0 f.0, both_block l rest n.1 f.1)

both_list : (xs : List Stmt) → NamesList xs → FitsList xs → IsPrintableList xs
both_list [] n f = tt
both_list (s ∷ rest) n f = (both_stmt s.kind n.0 f.0, both_list rest n.1 f.1)

both_extent : (e : Extent) → NamesExtent e → FitsExtent e → IsPrintableExtent e
both_extent (Lit k) n f = f
both_extent (Named x) n f = n

both_extents : (e : Extents) → NamesExtents e → FitsExtents e → IsPrintableExtents e
both_extents (extents.One a) n f = both_extent a n f
both_extents (extents.Two a b) n f = (both_extent a n.0 f.0, both_extent b n.1 f.1)

both_kind : (k : ItemKind) → NamesKind k → FitsKind k → IsPrintableKind k
both_kind (Const v) n f = f
both_kind (InputScalar low high) n f = f
both_kind (InputArray a low high) n f = (both_extents a n.0 f.0, f.1, f.2)
both_kind VarScalar n f = tt
both_kind (VarArray a) n f = both_extents a n f

both_items : (ds : List Item) → NamesItems ds → FitsItems ds → ArePrintableItems ds
both_items [] n f = tt
both_items (d ∷ rest) n f = (n.0, both_kind d.kind n.1 f.1, both_items rest n.2 f.2)

pub printable : (p : Program) → HasNames p → FitsItems p.items → FitsList p.body → IsPrintable p
printable p n f g = (both_items p.items n.0 f, both_list p.body n.1 g)
