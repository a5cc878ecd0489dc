-- A program that is spelled within the limits is printed as a text that spells it again.
use Rattle.std.proofs.Common.{◌≡◌, ℕ, zero, suc, ◌+◌, ◌≤◌, ℤ, pos, neg_ℤ, List, [], ◌∷◌, ◌++◌, length, Option, Some, None, refl, sym, ◌∙◌, ap, ap₂, subst, arith, rules}
use mathlib.Core.Former.{Count}
use Rattle.ac_tree.specs.declared.limit.LimitKind.TheVariants as limit
use Rattle.ac_tree.specs.Limits.{limit_of}
use Rattle.ac_tree.specs.declared.node.Span.{Span}
use Rattle.ac_tree.specs.declared.program.Cond.{Cond}
use Rattle.ac_tree.specs.declared.program.CondKind.{CondKind}
use Rattle.ac_tree.specs.declared.program.CondKind.TheVariants.{True, False, Rel}
use Rattle.ac_tree.specs.declared.program.Expr.{Expr}
use Rattle.ac_tree.specs.declared.program.ExprKind.{ExprKind}
use Rattle.ac_tree.specs.declared.program.ExprKind.TheVariants.{Num, Get, Read}
use Rattle.ac_tree.specs.declared.program.Extent.{Extent}
use Rattle.ac_tree.specs.declared.program.Extents.{Extents}
use Rattle.ac_tree.specs.declared.program.Index.{Index}
use Rattle.ac_tree.specs.declared.program.Item.{Item}
use Rattle.ac_tree.specs.declared.program.Program.{Program}
use Rattle.ac_tree.specs.declared.program.Stmt.{Stmt}
use Rattle.ac_tree.specs.declared.program.StmtKind.{StmtKind, the_lemmas as stmt_lemmas, Row_of-Stmt, end_of-Stmt, more_of-Stmt, items-the_row-Stmt}
use Rattle.ac_tree.specs.declared.program.StmtKind.TheVariants.{Set, Put, If', For', While', Hand, Skip}
use Rattle.ac_tree.specs.declared.program.StmtKind.TheVariants as stmt
use Rattle.ac_tree.specs.declared.token.ByteKind.TheVariants.{Letter}
use Rattle.ac_tree.specs.declared.token.Keyword.{Keyword}
use Rattle.ac_tree.specs.declared.token.Mark.{Mark}
use Rattle.ac_tree.specs.declared.token.Mark.TheVariants as mark
use Rattle.ac_tree.specs.Grammar as spells
use Rattle.ac_tree.specs.Grammar.{Tokens, NameBytes, ExprLevel, CondLevel, SpellsExpr, SpellsIndex, SpellsCond, SpellsStmt, SpellsBlock, SpellsInt, SpellsExtent, SpellsExtents, SpellsItem, SpellsItems, SpellsProgram}
use Rattle.ac_tree.specs.Numbering.{expr_nodes, index_nodes, cond_nodes, stmt_nodes, block_nodes, list_nodes, numbered, numbered_index, numbered_expr, numbered_kind, numbered_cond, numbered_stmt, numbered_block, numbered_list, numbered_items, numbered_program}
use Rattle.ac_tree.specs.Patterns.{Negative, Plus, Minus, Times, OneIndex, TwoIndexes, Negation, Conjunction, Disjunction}
use Rattle.ac_tree.specs.Tokens as cut
use Rattle.ac_tree.specs.Tokens.{kind_of_byte, keyword_of, marked, InName, Each, IsName, Lexes}
use Rattle.ac_parse.specs.Opened.{hidden, expr_shape, expr_child, cond_shape, cond_child, stmt_child}
use Rattle.ac_parse.specs.Parsing.{SpellsWithin}
use Rattle.ac_program_printer.specs.Names.{IsUnsigned, IsSigned}
use Rattle.ac_program_printer.proofs.Printable.{IsPrintableExpr, IsPrintableIndex, IsPrintableCond, IsPrintableStmt, IsPrintableBlock, IsPrintableList, IsPrintableExtent, IsPrintableExtents, IsPrintableKind, ArePrintableItems, IsPrintable}
use Rattle.ac_program_printer.specs.Printing.{program_text}
use Rattle.ac_program_printer.specs.SameUpToSpans.{changed_expr, changed_index, whole_expr, changed_cond, whole_cond, changed_stmt, changed_block, changed_list, changed_items, changed_program, SpellsUpToSpans}
use Rattle.ac_tokens.specs.TokenFaults.{AreWithinLimits}
use Rattle.ac_numbering.proofs.NumberRules.{numbered-If, numbered-For, numbered-While}
use Rattle.ac_program_printer.proofs.PrintExpressions.{bare}
use Rattle.ac_program_printer.proofs.PrintNumbers.{program_numbered}
use Rattle.ac_program_printer.proofs.PrintPrograms.{spelled_again}
use Rattle.ac_program_printer.proofs.PrintStatements.{changed-If, changed-For, changed-While}

-- what the tokens within the limits hold

abbrev Fits : Mark → Type 0
Fits (mark.Literal n) = n ≤ limit_of limit.Literal
Fits (mark.Name x) = IsName x
Fits _ = Unit {0}

abbrev AllFit : Tokens → Type 0
AllFit [] = Unit {0}
AllFit (t ∷ ts) = Fits t.mark × AllFit ts

front : (ts us : Tokens) → AllFit (ts ++ us) → AllFit ts
front [] us h = tt
front (t ∷ ts) us h = (h.0, front ts us h.1)

back : (ts us : Tokens) → AllFit (ts ++ us) → AllFit us
back [] us h = h
back (t ∷ ts) us h = back ts us h.1

word_fits : (b : ℕ) (more : List ℕ) (k : Option Keyword) → keyword_of (b ∷ more) ≡ k → kind_of_byte b ≡ Letter → Each InName more → Fits (marked (b ∷ more) k)
word_fits b more (Some k) e l h = tt
word_fits b more None e l h = (l, h, e)

cut_fits : {at to : ℕ} {bytes left : List ℕ} {ts : Tokens} → Lexes at bytes ts to left → AreWithinLimits ts → AllFit ts
cut_fits cut.nothing h = tt
cut_fits (cut.blank k c) h = cut_fits c h
cut_fits (cut.comment line k e f c) h = cut_fits c h
cut_fits (cut.word {b = b} more k e f c) h = (word_fits b more (keyword_of (b ∷ more)) refl k e, cut_fits c h.1)
cut_fits (cut.literal more k e f z c) h = (h.0, cut_fits c h.1)
cut_fits (cut.lone_sign s k a c) h = (tt, cut_fits c h.1)
cut_fits (cut.joined_sign s k c) h = (tt, cut_fits c h.1)

unsigned : (n : ℕ) → n ≤ limit_of limit.Literal → IsUnsigned n
unsigned n h = omega (arith, h)

negated : (n : ℕ) → n ≤ limit_of limit.Literal → IsSigned (neg_ℤ (pos n))
negated zero h = omega arith
negated (suc n) h = omega (arith, h)

-- a tree that is spelled by such tokens can be printed, whatever numbers its nodes get

mutual
  unfolding hidden expr_shape expr_child

  expr_prints : {l : ExprLevel} {s : Span} {a : Expr} {ts : Tokens} → SpellsExpr l s a ts → AllFit ts → (i : ℕ) → IsPrintableExpr (numbered i a.kind)
  expr_prints (spells.sum d) h i = expr_prints d h i
  expr_prints (spells.plus {a = a} {ts = ts} {us = us} o d e) h i = (expr_prints d (front ts _ h) (i + 1), expr_prints e (back ts _ h).1 (i + 1 + expr_nodes a.kind))
  expr_prints (spells.minus {a = a} {ts = ts} {us = us} o d e) h i = (expr_prints d (front ts _ h) (i + 1), expr_prints e (back ts _ h).1 (i + 1 + expr_nodes a.kind))
  expr_prints (spells.term d) h i = expr_prints d h i
  expr_prints (spells.times {a = a} {ts = ts} {us = us} o d e) h i = (expr_prints d (front ts _ h) (i + 1), expr_prints e (back ts _ h).1 (i + 1 + expr_nodes a.kind))
  expr_prints (spells.factor d) h i = expr_prints d h i
  expr_prints (spells.negative o d) h i = expr_prints d h.1 (i + 1)
  expr_prints (spells.number n s) h i = unsigned n h.0
  expr_prints (spells.scalar x s) h i = h.0
  expr_prints (spells.read x s d) h i = (h.0, index_prints d h.1 (i + 1))
  expr_prints (spells.parentheses {ts = ts} o c d) h i = expr_prints d (front ts _ h.1) i

  index_prints : {s : Span} {j : Index} {ts : Tokens} → SpellsIndex s j ts → AllFit ts → (i : ℕ) → IsPrintableIndex (numbered_index i j)
  index_prints (spells.one {ts = ts} o c d) h i = expr_prints d (front ts _ h.1) i
  index_prints (spells.two {a = a} {ts = ts} {us = us} o m c d e) h i =
      (expr_prints d (front ts _ h.1) i, expr_prints e (front us _ (back ts _ h.1).1) (i + expr_nodes a.kind))

cond_prints : {l : CondLevel} {s : Span} {a : Cond} {ts : Tokens} → SpellsCond l s a ts → AllFit ts → (i : ℕ) → IsPrintableCond (numbered_kind i a.kind)
unfolding hidden cond_shape cond_child
cond_prints (spells.disjunction d) h i = cond_prints d h i
cond_prints (spells.or {a = a} {ts = ts} {us = us} o d e) h i = (cond_prints d (front ts _ h) (i + 1), cond_prints e (back ts _ h).1 (i + 1 + cond_nodes a.kind))
cond_prints (spells.conjunction d) h i = cond_prints d h i
cond_prints (spells.and {a = a} {ts = ts} {us = us} o d e) h i = (cond_prints d (front ts _ h) (i + 1), cond_prints e (back ts _ h).1 (i + 1 + cond_nodes a.kind))
cond_prints (spells.part d) h i = cond_prints d h i
cond_prints (spells.negation o d) h i = cond_prints d h.1 (i + 1)
cond_prints (spells.truth s) h i = tt
cond_prints (spells.falsity s) h i = tt
cond_prints (spells.comparison {a = a} {ts = ts} {us = us} r o d e) h i = (expr_prints d (front ts _ h) (i + 1), expr_prints e (back ts _ h).1 (i + 1 + expr_nodes a.kind))
cond_prints (spells.braces {ts = ts} o c d) h i = cond_prints d (front ts _ h.1) i

printable_block-items : (n : Count) (row : Row_of-Stmt n) → IsPrintableBlock row ≡ IsPrintableList (items-the_row-Stmt n row)
printable_block-items _ end_of-Stmt = refl
printable_block-items _ (more_of-Stmt {n = n} m st rest) = ap (λ (T : Type 0). IsPrintableStmt st × T) (printable_block-items n rest)

printable_row : (xs : List Stmt) → IsPrintableBlock (stmt_child xs) ≡ IsPrintableList xs
printable_row xs = first_of (search (rules, stmt_lemmas, printable_block-items), grind (arith, stmt_lemmas, printable_block-items))

printable-If : (t : Cond) (xs ys : List Stmt) → IsPrintableStmt (stmt.If t xs ys) ≡ (IsPrintableCond t.kind × IsPrintableList xs × IsPrintableList ys)
printable-If t xs ys = ap₂ (λ (X Y : Type 0). IsPrintableCond t.kind × X × Y) (printable_row xs) (printable_row ys)

printable-For : (x : NameBytes) (a b : Expr) (xs : List Stmt) → IsPrintableStmt (stmt.For x a b xs) ≡ (IsName x × IsPrintableExpr a.kind × IsPrintableExpr b.kind × IsPrintableList xs)
printable-For x a b xs = ap (λ (X : Type 0). IsName x × IsPrintableExpr a.kind × IsPrintableExpr b.kind × X) (printable_row xs)

printable-While : (t : Cond) (xs : List Stmt) → IsPrintableStmt (stmt.While t xs) ≡ (IsPrintableCond t.kind × IsPrintableList xs)
printable-While t xs = ap (λ (X : Type 0). IsPrintableCond t.kind × X) (printable_row xs)

if_prints : (i : ℕ) (t : Cond) (xs ys : List Stmt) → IsPrintableCond (numbered_kind (i + 1) t.kind) → IsPrintableList (numbered_list (i + 1 + cond_nodes t.kind) xs) →
    IsPrintableList (numbered_list (i + 1 + cond_nodes t.kind + list_nodes xs) ys) → IsPrintableStmt (numbered_stmt i (stmt.If t xs ys))
if_prints i t xs ys c h k = subst (λ (T : Type 0). T) (sym (ap IsPrintableStmt (numbered-If i t xs ys) ∙
    printable-If (numbered_cond (i + 1) t) (numbered_list (i + 1 + cond_nodes t.kind) xs) (numbered_list (i + 1 + cond_nodes t.kind + list_nodes xs) ys))) (c, h, k)

for_prints : (i : ℕ) (x : NameBytes) (a b : Expr) (xs : List Stmt) → IsName x → IsPrintableExpr (numbered (i + 1) a.kind) → IsPrintableExpr (numbered (i + 1 + expr_nodes a.kind) b.kind) →
    IsPrintableList (numbered_list (i + 1 + expr_nodes a.kind + expr_nodes b.kind) xs) → IsPrintableStmt (numbered_stmt i (stmt.For x a b xs))
for_prints i x a b xs n c h k = subst (λ (T : Type 0). T) (sym (ap IsPrintableStmt (numbered-For i x a b xs) ∙
    printable-For x (numbered_expr (i + 1) a) (numbered_expr (i + 1 + expr_nodes a.kind) b) (numbered_list (i + 1 + expr_nodes a.kind + expr_nodes b.kind) xs))) (n, c, h, k)

while_prints : (i : ℕ) (t : Cond) (xs : List Stmt) → IsPrintableCond (numbered_kind (i + 1) t.kind) → IsPrintableList (numbered_list (i + 1 + cond_nodes t.kind) xs) →
    IsPrintableStmt (numbered_stmt i (stmt.While t xs))
while_prints i t xs c h = subst (λ (T : Type 0). T) (sym (ap IsPrintableStmt (numbered-While i t xs) ∙
    printable-While (numbered_cond (i + 1) t) (numbered_list (i + 1 + cond_nodes t.kind) xs))) (c, h)

mutual
  stmt_prints : {s : Stmt} {ts : Tokens} → SpellsStmt s ts → AllFit ts → (i : ℕ) → IsPrintableStmt (numbered_stmt i s.kind)
  stmt_prints (spells.set {ts = ts} x s o e d) h i = (h.0, expr_prints d (front ts _ h.1.1) (i + 1))
  stmt_prints (spells.put {i = j} {bs = bs} {ts = ts} x s o e d f) h i =
      (h.0, index_prints d (front bs _ h.1) (i + 1), expr_prints f (front ts _ (back bs _ h.1).1) (i + 1 + index_nodes j))
  stmt_prints (spells.if_then {c = c} {xs = xs} {ts = ts} {us = us} s o e d f) h i =
      if_prints i c xs [] (cond_prints d (front ts _ h.1) (i + 1)) (block_prints f (front us _ (back ts _ h.1).1) (i + 1 + cond_nodes c.kind)) tt
  stmt_prints (spells.if_else {c = c} {xs = xs} {ys = ys} {ts = ts} {us = us} {vs = vs} s o m e d f g) h i =
      let after = (back ts _ h.1).1 in
      if_prints i c xs ys (cond_prints d (front ts _ h.1) (i + 1)) (block_prints f (front us _ after) (i + 1 + cond_nodes c.kind))
      (block_prints g (front vs _ (back us _ after).1) (i + 1 + cond_nodes c.kind + list_nodes xs))
  stmt_prints (spells.for_loop {a = a} {b = b} {xs = xs} {ts = ts} {us = us} {vs = vs} x s n o m d e f g k) h i =
      let after = (back ts _ h.1.1.1).1 in
      for_prints i x a b xs h.1.0 (expr_prints f (front ts _ h.1.1.1) (i + 1)) (expr_prints g (front us _ after) (i + 1 + expr_nodes a.kind))
      (block_prints k (front vs _ (back us _ after).1) (i + 1 + expr_nodes a.kind + expr_nodes b.kind))
  stmt_prints (spells.while_loop {c = c} {xs = xs} {ts = ts} {us = us} s o e d f) h i =
      while_prints i c xs (cond_prints d (front ts _ h.1) (i + 1)) (block_prints f (front us _ (back ts _ h.1).1) (i + 1 + cond_nodes c.kind))
  stmt_prints (spells.hand x y s n o r e) h i = (h.1.0, h.1.1.1.0)
  stmt_prints (spells.skip s e) h i = tt

  block_prints : {xs : List Stmt} {ts : Tokens} → SpellsBlock xs ts → AllFit ts → (i : ℕ) → IsPrintableList (numbered_list i xs)
  block_prints spells.none h i = tt
  block_prints (spells.more {a = a} {ts = ts} d e) h i = (stmt_prints d (front ts _ h) i, block_prints e (back ts _ h) (i + stmt_nodes a.kind))

int_prints : {z : ℤ} {ts : Tokens} → SpellsInt z ts → AllFit ts → IsSigned z
int_prints (spells.bare n s) h = omega (arith, h.0)
int_prints (spells.below n o s) h = negated n h.1.0

extent_prints : {a : Extent} {ts : Tokens} → SpellsExtent a ts → AllFit ts → IsPrintableExtent a
extent_prints (spells.fixed n s) h = unsigned n h.0
extent_prints (spells.named x s) h = h.0

extents_print : {a : Extents} {ts : Tokens} → SpellsExtents a ts → AllFit ts → IsPrintableExtents a
extents_print (spells.one {ts = ts} o c d) h = extent_prints d (front ts _ h.1)
extents_print (spells.two {ts = ts} {us = us} o m c d e) h = (extent_prints d (front ts _ h.1), extent_prints e (front us _ (back ts _ h.1).1))

item_prints : {d : Item} {ts : Tokens} → SpellsItem d ts → AllFit ts → IsName d.name × IsPrintableKind d.kind
item_prints (spells.constant {ts = ts} x s n o e d) h = (h.1.0, int_prints d (front ts _ h.1.1.1))
item_prints (spells.input_scalar {ts = ts} {us = us} x s n o d e l u) h =
    (h.1.0, (int_prints l (front ts _ h.1.1.1), int_prints u (front us _ (back ts _ h.1.1.1).1)))
item_prints (spells.input_array {bs = bs} {ts = ts} {us = us} x s n o d e a l u) h =
    let after = (back bs _ h.1.1).1 in
    (h.1.0, (extents_print a (front bs _ h.1.1), int_prints l (front ts _ after), int_prints u (front us _ (back ts _ after).1)))
item_prints (spells.var_scalar x s n e) h = (h.1.0, tt)
item_prints (spells.var_array {bs = bs} x s n e a) h = (h.1.0, extents_print a (front bs _ h.1.1))

items_print : {ds : List Item} {ts : Tokens} → SpellsItems ds ts → AllFit ts → (i : ℕ) → ArePrintableItems (numbered_items i ds)
items_print spells.none h i = tt
items_print (spells.more {ts = ts} d e) h i = let p = item_prints d (front ts _ h) in (p.0, p.1, items_print e (back ts _ h) (i + 1))

program_prints : {p : Program} {ts : Tokens} → SpellsProgram p ts → AllFit ts → IsPrintable (numbered_program p)
program_prints (spells.program {ds = ds} {ts = ts} {us = us} b e d f) h =
    (items_print d (front ts _ h) 1, block_prints f (front us _ (back ts _ h).1) (1 + length ds))

-- numbers are what the nodes lose

mutual
  unfolding hidden expr_shape expr_child

  expr_bare : (k : ExprKind) (i : ℕ) → changed_expr bare (numbered i k) ≡ changed_expr bare k
  expr_bare (Num k) i = refl
  expr_bare (Get x) i = refl
  expr_bare (Read x j) i = ap (λ k. Read x k) (index_bare j (i + 1))
  expr_bare (Negative n a) i = ap (λ b. Negative (bare n) b) (expr_bare a (i + 1))
  expr_bare (Plus n a m b) i = ap₂ (λ x y. Plus (bare n) x (bare m) y) (expr_bare a (i + 1)) (expr_bare b (i + 1 + expr_nodes a))
  expr_bare (Minus n a m b) i = ap₂ (λ x y. Minus (bare n) x (bare m) y) (expr_bare a (i + 1)) (expr_bare b (i + 1 + expr_nodes a))
  expr_bare (Times n a m b) i = ap₂ (λ x y. Times (bare n) x (bare m) y) (expr_bare a (i + 1)) (expr_bare b (i + 1 + expr_nodes a))

  index_bare : (j : Index) (i : ℕ) → changed_index bare (numbered_index i j) ≡ changed_index bare j
  index_bare (OneIndex n a) i = ap (λ b. OneIndex (bare n) b) (expr_bare a i)
  index_bare (TwoIndexes n a m b) i = ap₂ (λ x y. TwoIndexes (bare n) x (bare m) y) (expr_bare a i) (expr_bare b (i + expr_nodes a))

whole_bare : (e : Expr) (i : ℕ) → whole_expr bare (numbered_expr i e) ≡ whole_expr bare e
whole_bare e i = ap (λ k. record { node = bare e.node; kind = k }) (expr_bare e.kind i)

cond_bare : (k : CondKind) (i : ℕ) → changed_cond bare (numbered_kind i k) ≡ changed_cond bare k
unfolding hidden cond_shape cond_child
cond_bare True i = refl
cond_bare False i = refl
cond_bare (Rel r a b) i = ap₂ (λ x y. Rel r x y) (whole_bare a (i + 1)) (whole_bare b (i + 1 + expr_nodes a.kind))
cond_bare (Negation n c) i = ap (λ d. Negation (bare n) d) (cond_bare c (i + 1))
cond_bare (Conjunction n c m d) i = ap₂ (λ x y. Conjunction (bare n) x (bare m) y) (cond_bare c (i + 1)) (cond_bare d (i + 1 + cond_nodes c))
cond_bare (Disjunction n c m d) i = ap₂ (λ x y. Disjunction (bare n) x (bare m) y) (cond_bare c (i + 1)) (cond_bare d (i + 1 + cond_nodes c))

test_bare : (c : Cond) (i : ℕ) → whole_cond bare (numbered_cond i c) ≡ whole_cond bare c
test_bare c i = ap (λ k. record { node = bare c.node; kind = k }) (cond_bare c.kind i)

mutual
  stmt_bare : (k : StmtKind) (i : ℕ) → changed_stmt bare (numbered_stmt i k) ≡ changed_stmt bare k
  stmt_bare (Set x a) i = ap (λ b. Set x b) (whole_bare a (i + 1))
  stmt_bare (Put x j a) i = ap₂ (λ k b. Put x k b) (index_bare j (i + 1)) (whole_bare a (i + 1 + index_nodes j))
  stmt_bare (If' c _ xs _ ys) i =
      changed-If bare (numbered_cond (i + 1) c) (numbered_block (i + 1 + cond_nodes c.kind) xs) (numbered_block (i + 1 + cond_nodes c.kind + block_nodes xs) ys)
      ∙ (ap₂ (λ t us. stmt.If t us (changed_list bare (numbered_block (i + 1 + cond_nodes c.kind + block_nodes xs) ys))) (test_bare c (i + 1)) (block_bare _ xs (i + 1 + cond_nodes c.kind))
      ∙ ap (λ vs. stmt.If (whole_cond bare c) (changed_block bare xs) vs) (block_bare _ ys (i + 1 + cond_nodes c.kind + block_nodes xs)))
  stmt_bare (For' x a b _ xs) i =
      changed-For bare x (numbered_expr (i + 1) a) (numbered_expr (i + 1 + expr_nodes a.kind) b) (numbered_block (i + 1 + expr_nodes a.kind + expr_nodes b.kind) xs)
      ∙ (ap₂ (λ k l. stmt.For x k l (changed_list bare (numbered_block (i + 1 + expr_nodes a.kind + expr_nodes b.kind) xs))) (whole_bare a (i + 1)) (whole_bare b (i + 1 + expr_nodes a.kind))
      ∙ ap (λ us. stmt.For x (whole_expr bare a) (whole_expr bare b) us) (block_bare _ xs (i + 1 + expr_nodes a.kind + expr_nodes b.kind)))
  stmt_bare (While' c _ xs) i =
      changed-While bare (numbered_cond (i + 1) c) (numbered_block (i + 1 + cond_nodes c.kind) xs)
      ∙ ap₂ (λ t us. stmt.While t us) (test_bare c (i + 1)) (block_bare _ xs (i + 1 + cond_nodes c.kind))
  stmt_bare (Hand x y) i = refl
  stmt_bare Skip i = refl

  block_bare : (n : Count) (row : Row_of-Stmt n) (i : ℕ) → changed_list bare (numbered_block i row) ≡ changed_block bare row
  block_bare _ end_of-Stmt i = refl
  block_bare _ (more_of-Stmt {n = n} m s rest) i =
      ap₂ (λ (k : StmtKind) (xs : List Stmt). record { node = bare m; kind = k } ∷ xs) (stmt_bare s i) (block_bare n rest (i + stmt_nodes s))

list_bare : (xs : List Stmt) (i : ℕ) → changed_list bare (numbered_list i xs) ≡ changed_list bare xs
list_bare [] i = refl
list_bare (s ∷ rest) i = ap₂ (λ (k : StmtKind) (xs : List Stmt). record { node = bare s.node; kind = k } ∷ xs) (stmt_bare s.kind i) (list_bare rest (i + stmt_nodes s.kind))

items_bare : (ds : List Item) (i : ℕ) → changed_items bare (numbered_items i ds) ≡ changed_items bare ds
items_bare [] i = refl
items_bare (d ∷ rest) i = ap (λ (xs : List Item). record d { node = bare d.node } ∷ xs) (items_bare rest (i + 1))

program_bare : (p : Program) → changed_program bare (numbered_program p) ≡ changed_program bare p
program_bare p = ap₂ (λ (ds : List Item) (xs : List Stmt). record { node = bare p.node; items = ds; body = xs }) (items_bare p.items 1) (list_bare p.body (1 + length p.items))

tree_prints : (tree : Program) → IsPrintable (numbered_program tree) → SpellsUpToSpans (program_text (numbered_program tree)) (numbered_program tree)
tree_prints tree h = spelled_again (numbered_program tree) (program_numbered tree ∙ ap numbered_program (sym (program_bare tree))) h

pub spelled_prints : (bytes : List ℕ) (p : Program) → SpellsWithin bytes p → SpellsUpToSpans (program_text p) p
spelled_prints bytes p s =
    subst (λ (q : Program). SpellsUpToSpans (program_text q) q) (sym s.spells.numbers) (tree_prints s.spells.tree (program_prints s.spells.spelled (cut_fits s.spells.cut.cut s.words)))
