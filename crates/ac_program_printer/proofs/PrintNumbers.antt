-- The numbers of nodes depend on the tree alone, not on its nodes.
use Rattle.std.proofs.Common.{◌≡◌, ℕ, suc, ◌+◌, List, [], ◌∷◌, length, refl, sym, ◌∙◌, ap, ap₂}
use mathlib.Core.Former.{Count}
use Rattle.ac_tree.specs.declared.node.Node.{Node}
use Rattle.ac_tree.specs.declared.program.Cond.{Cond}
use Rattle.ac_tree.specs.declared.program.CondKind.{CondKind}
use Rattle.ac_tree.specs.declared.program.CondKind.TheVariants.{True, False, Rel}
use Rattle.ac_tree.specs.declared.program.Expr.{Expr}
use Rattle.ac_tree.specs.declared.program.ExprKind.{ExprKind}
use Rattle.ac_tree.specs.declared.program.ExprKind.TheVariants.{Num, Get, Read}
use Rattle.ac_tree.specs.declared.program.Index.{Index}
use Rattle.ac_tree.specs.declared.program.Item.{Item}
use Rattle.ac_tree.specs.declared.program.Program.{Program}
use Rattle.ac_tree.specs.declared.program.Stmt.{Stmt}
use Rattle.ac_tree.specs.declared.program.StmtKind.{StmtKind, Row_of-Stmt, end_of-Stmt, more_of-Stmt}
use Rattle.ac_tree.specs.declared.program.StmtKind.TheVariants.{Set, Put, If', For', While', Hand, Skip}
use Rattle.ac_tree.specs.declared.program.StmtKind.TheVariants as stmt
use Rattle.ac_tree.specs.Numbering.{at, expr_nodes, index_nodes, cond_nodes, stmt_nodes, block_nodes, list_nodes, numbered, numbered_index, numbered_expr, numbered_kind, numbered_cond, numbered_stmt, numbered_block, numbered_list, numbered_items, numbered_program}
use Rattle.ac_tree.specs.Patterns.{Negative, Plus, Minus, Times, OneIndex, TwoIndexes, Negation, Conjunction, Disjunction}
use Rattle.ac_program_printer.specs.Opened.{hidden, expr_shape, expr_child, cond_shape, cond_child}
use Rattle.ac_program_printer.specs.SameUpToSpans.{spanless, changed_expr, changed_index, whole_expr, changed_cond, whole_cond, changed_stmt, changed_block, changed_list, changed_items, changed_program}
use Rattle.ac_numbering.proofs.NumberRules.{add_three, nodes-If, nodes-For, nodes-While, numbered-If, numbered-For, numbered-While}
use Rattle.ac_program_printer.proofs.PrintExpressions.{bare}
use Rattle.ac_program_printer.proofs.PrintStatements.{changed-If, changed-For, changed-While}

-- how many nodes

mutual
  unfolding hidden expr_shape expr_child

  expr_count : (k : ExprKind) → expr_nodes (changed_expr bare k) ≡ expr_nodes k
  expr_count (Num k) = refl
  expr_count (Get x) = refl
  expr_count (Read x i) = ap (λ n. 1 + n) (index_count i)
  expr_count (Negative n a) = ap (λ n. 1 + n) (expr_count a)
  expr_count (Plus n a m b) = ap₂ (λ k l. 1 + k + l) (expr_count a) (expr_count b)
  expr_count (Minus n a m b) = ap₂ (λ k l. 1 + k + l) (expr_count a) (expr_count b)
  expr_count (Times n a m b) = ap₂ (λ k l. 1 + k + l) (expr_count a) (expr_count b)

  index_count : (i : Index) → index_nodes (changed_index bare i) ≡ index_nodes i
  index_count (OneIndex n a) = expr_count a
  index_count (TwoIndexes n a m b) = ap₂ (λ k l. k + l) (expr_count a) (expr_count b)

cond_count : (k : CondKind) → cond_nodes (changed_cond bare k) ≡ cond_nodes k
unfolding hidden cond_shape cond_child
cond_count True = refl
cond_count False = refl
cond_count (Rel r a b) = ap₂ (λ k l. 1 + k + l) (expr_count a.kind) (expr_count b.kind)
cond_count (Negation n c) = ap (λ n. 1 + n) (cond_count c)
cond_count (Conjunction n c m d) = ap₂ (λ k l. 1 + k + l) (cond_count c) (cond_count d)
cond_count (Disjunction n c m d) = ap₂ (λ k l. 1 + k + l) (cond_count c) (cond_count d)

mutual
  stmt_count : (k : StmtKind) → stmt_nodes (changed_stmt bare k) ≡ stmt_nodes k
  stmt_count (Set x a) = ap (λ n. 1 + n) (expr_count a.kind)
  stmt_count (Put x i a) = ap₂ (λ k l. 1 + k + l) (index_count i) (expr_count a.kind)
  stmt_count (If' c _ xs _ ys) = nodes-If (whole_cond bare c) (changed_block bare xs) (changed_block bare ys) ∙ add_three _ _ _ _ _ _ (cond_count c.kind) (block_count _ xs) (block_count _ ys)
  stmt_count (For' x a b _ xs) = nodes-For x (whole_expr bare a) (whole_expr bare b) (changed_block bare xs) ∙ add_three _ _ _ _ _ _ (expr_count a.kind) (expr_count b.kind) (block_count _ xs)
  stmt_count (While' c _ xs) = nodes-While (whole_cond bare c) (changed_block bare xs) ∙ ap₂ (λ k l. 1 + k + l) (cond_count c.kind) (block_count _ xs)
  stmt_count (Hand x y) = refl
  stmt_count Skip = refl

  block_count : (n : Count) (row : Row_of-Stmt n) → list_nodes (changed_block bare row) ≡ block_nodes row
  block_count _ end_of-Stmt = refl
  block_count _ (more_of-Stmt {n = n} m s rest) = ap₂ (λ k l. k + l) (stmt_count s) (block_count n rest)

-- which numbers

two_numbered : (P : Node → ExprKind → Node → ExprKind → ExprKind) (i : ℕ) (n m : Node) (a b : ExprKind) → changed_expr spanless (numbered i a) ≡ numbered i (changed_expr bare a) →
    changed_expr spanless (numbered (i + expr_nodes a) b) ≡ numbered (i + expr_nodes a) (changed_expr bare b) →
    P (at i (bare n)) (changed_expr spanless (numbered i a)) (at (i + expr_nodes a) (bare m)) (changed_expr spanless (numbered (i + expr_nodes a) b)) ≡
    P (at i (bare n)) (numbered i (changed_expr bare a)) (at (i + expr_nodes (changed_expr bare a)) (bare m)) (numbered (i + expr_nodes (changed_expr bare a)) (changed_expr bare b))
two_numbered P i n m a b e f =
    ap₂ (λ x y. P (at i (bare n)) x (at (i + expr_nodes a) (bare m)) y) e f
    ∙ ap (λ k. P (at i (bare n)) (numbered i (changed_expr bare a)) (at (i + k) (bare m)) (numbered (i + k) (changed_expr bare b))) (sym (expr_count a))

mutual
  unfolding hidden expr_shape expr_child

  expr_numbered : (k : ExprKind) (i : ℕ) → changed_expr spanless (numbered i k) ≡ numbered i (changed_expr bare k)
  expr_numbered (Num k) i = refl
  expr_numbered (Get x) i = refl
  expr_numbered (Read x j) i = ap (λ k. Read x k) (index_numbered j (i + 1))
  expr_numbered (Negative n a) i = ap (λ b. Negative (at (i + 1) (bare n)) b) (expr_numbered a (i + 1))
  expr_numbered (Plus n a m b) i = two_numbered (λ n a m b. Plus n a m b) (i + 1) n m a b (expr_numbered a (i + 1)) (expr_numbered b (i + 1 + expr_nodes a))
  expr_numbered (Minus n a m b) i = two_numbered (λ n a m b. Minus n a m b) (i + 1) n m a b (expr_numbered a (i + 1)) (expr_numbered b (i + 1 + expr_nodes a))
  expr_numbered (Times n a m b) i = two_numbered (λ n a m b. Times n a m b) (i + 1) n m a b (expr_numbered a (i + 1)) (expr_numbered b (i + 1 + expr_nodes a))

  index_numbered : (j : Index) (i : ℕ) → changed_index spanless (numbered_index i j) ≡ numbered_index i (changed_index bare j)
  index_numbered (OneIndex n a) i = ap (λ b. OneIndex (at i (bare n)) b) (expr_numbered a i)
  index_numbered (TwoIndexes n a m b) i =
      ap₂ (λ x y. TwoIndexes (at i (bare n)) x (at (i + expr_nodes a) (bare m)) y) (expr_numbered a i) (expr_numbered b (i + expr_nodes a))
      ∙ ap (λ k. TwoIndexes (at i (bare n)) (numbered i (changed_expr bare a)) (at (i + k) (bare m)) (numbered (i + k) (changed_expr bare b))) (sym (expr_count a))

whole_numbered : (e : Expr) (i : ℕ) → whole_expr spanless (numbered_expr i e) ≡ numbered_expr i (whole_expr bare e)
whole_numbered e i = ap (λ k. record { node = at i (bare e.node); kind = k }) (expr_numbered e.kind i)

two_conds : (P : Node → CondKind → Node → CondKind → CondKind) (i : ℕ) (n m : Node) (a b : CondKind) → changed_cond spanless (numbered_kind i a) ≡ numbered_kind i (changed_cond bare a) →
    changed_cond spanless (numbered_kind (i + cond_nodes a) b) ≡ numbered_kind (i + cond_nodes a) (changed_cond bare b) →
    P (at i (bare n)) (changed_cond spanless (numbered_kind i a)) (at (i + cond_nodes a) (bare m)) (changed_cond spanless (numbered_kind (i + cond_nodes a) b)) ≡
    P (at i (bare n)) (numbered_kind i (changed_cond bare a)) (at (i + cond_nodes (changed_cond bare a)) (bare m)) (numbered_kind (i + cond_nodes (changed_cond bare a)) (changed_cond bare b))
two_conds P i n m a b e f =
    ap₂ (λ x y. P (at i (bare n)) x (at (i + cond_nodes a) (bare m)) y) e f
    ∙ ap (λ k. P (at i (bare n)) (numbered_kind i (changed_cond bare a)) (at (i + k) (bare m)) (numbered_kind (i + k) (changed_cond bare b))) (sym (cond_count a))

cond_numbered : (k : CondKind) (i : ℕ) → changed_cond spanless (numbered_kind i k) ≡ numbered_kind i (changed_cond bare k)
unfolding hidden cond_shape cond_child
cond_numbered True i = refl
cond_numbered False i = refl
cond_numbered (Rel r a b) i =
    ap₂ (λ x y. Rel r x y) (whole_numbered a (i + 1)) (whole_numbered b (i + 1 + expr_nodes a.kind))
    ∙ ap (λ k. Rel r (numbered_expr (i + 1) (whole_expr bare a)) (numbered_expr (i + 1 + k) (whole_expr bare b))) (sym (expr_count a.kind))
cond_numbered (Negation n c) i = ap (λ b. Negation (at (i + 1) (bare n)) b) (cond_numbered c (i + 1))
cond_numbered (Conjunction n c m d) i = two_conds (λ n a m b. Conjunction n a m b) (i + 1) n m c d (cond_numbered c (i + 1)) (cond_numbered d (i + 1 + cond_nodes c))
cond_numbered (Disjunction n c m d) i = two_conds (λ n a m b. Disjunction n a m b) (i + 1) n m c d (cond_numbered c (i + 1)) (cond_numbered d (i + 1 + cond_nodes c))

test_numbered : (c : Cond) (i : ℕ) → whole_cond spanless (numbered_cond i c) ≡ numbered_cond i (whole_cond bare c)
test_numbered c i = ap (λ k. record { node = at i (bare c.node); kind = k }) (cond_numbered c.kind i)

mutual
  stmt_numbered : (k : StmtKind) (i : ℕ) → changed_stmt spanless (numbered_stmt i k) ≡ numbered_stmt i (changed_stmt bare k)
  stmt_numbered (Set x a) i = ap (λ b. Set x b) (whole_numbered a (i + 1))
  stmt_numbered (Put x j a) i =
      ap₂ (λ k b. Put x k b) (index_numbered j (i + 1)) (whole_numbered a (i + 1 + index_nodes j))
      ∙ ap (λ k. Put x (numbered_index (i + 1) (changed_index bare j)) (numbered_expr (i + 1 + k) (whole_expr bare a))) (sym (index_count j))
  stmt_numbered (If' c _ xs _ ys) i =
      changed-If spanless (numbered_cond (i + 1) c) (numbered_block (i + 1 + cond_nodes c.kind) xs) (numbered_block (i + 1 + cond_nodes c.kind + block_nodes xs) ys)
      ∙ (ap₂ (λ t us. stmt.If t us (changed_list spanless (numbered_block (i + 1 + cond_nodes c.kind + block_nodes xs) ys))) (test_numbered c (i + 1)) (block_numbered _ xs (i + 1 + cond_nodes c.kind))
      ∙ (ap (λ vs. stmt.If (numbered_cond (i + 1) (whole_cond bare c)) (numbered_list (i + 1 + cond_nodes c.kind) (changed_block bare xs)) vs) (block_numbered _ ys (i + 1 + cond_nodes c.kind + block_nodes xs))
      ∙ (ap₂ (λ k l. stmt.If (numbered_cond (i + 1) (whole_cond bare c)) (numbered_list (i + 1 + k) (changed_block bare xs)) (numbered_list (i + 1 + k + l) (changed_block bare ys))) (sym (cond_count c.kind)) (sym (block_count _ xs))
      ∙ sym (numbered-If i (whole_cond bare c) (changed_block bare xs) (changed_block bare ys)))))
  stmt_numbered (For' x a b _ xs) i =
      changed-For spanless x (numbered_expr (i + 1) a) (numbered_expr (i + 1 + expr_nodes a.kind) b) (numbered_block (i + 1 + expr_nodes a.kind + expr_nodes b.kind) xs)
      ∙ (ap₂ (λ k l. stmt.For x k l (changed_list spanless (numbered_block (i + 1 + expr_nodes a.kind + expr_nodes b.kind) xs))) (whole_numbered a (i + 1)) (whole_numbered b (i + 1 + expr_nodes a.kind))
      ∙ (ap (λ us. stmt.For x (numbered_expr (i + 1) (whole_expr bare a)) (numbered_expr (i + 1 + expr_nodes a.kind) (whole_expr bare b)) us) (block_numbered _ xs (i + 1 + expr_nodes a.kind + expr_nodes b.kind))
      ∙ (ap₂ (λ k l. stmt.For x (numbered_expr (i + 1) (whole_expr bare a)) (numbered_expr (i + 1 + k) (whole_expr bare b)) (numbered_list (i + 1 + k + l) (changed_block bare xs))) (sym (expr_count a.kind)) (sym (expr_count b.kind))
      ∙ sym (numbered-For i x (whole_expr bare a) (whole_expr bare b) (changed_block bare xs)))))
  stmt_numbered (While' c _ xs) i =
      changed-While spanless (numbered_cond (i + 1) c) (numbered_block (i + 1 + cond_nodes c.kind) xs)
      ∙ (ap₂ (λ t us. stmt.While t us) (test_numbered c (i + 1)) (block_numbered _ xs (i + 1 + cond_nodes c.kind))
      ∙ (ap (λ k. stmt.While (numbered_cond (i + 1) (whole_cond bare c)) (numbered_list (i + 1 + k) (changed_block bare xs))) (sym (cond_count c.kind))
      ∙ sym (numbered-While i (whole_cond bare c) (changed_block bare xs))))
  stmt_numbered (Hand x y) i = refl
  stmt_numbered Skip i = refl

  block_numbered : (n : Count) (row : Row_of-Stmt n) (i : ℕ) → changed_list spanless (numbered_block i row) ≡ numbered_list i (changed_block bare row)
  block_numbered _ end_of-Stmt i = refl
  block_numbered _ (more_of-Stmt {n = n} m s rest) i =
      ap₂ (λ (k : StmtKind) (xs : List Stmt). record { node = at i (bare m); kind = k } ∷ xs) (stmt_numbered s i) (block_numbered n rest (i + stmt_nodes s))
      ∙ ap (λ k. record { node = at i (bare m); kind = numbered_stmt i (changed_stmt bare s) } ∷ numbered_list (i + k) (changed_block bare rest)) (sym (stmt_count s))

list_numbered : (xs : List Stmt) (i : ℕ) → changed_list spanless (numbered_list i xs) ≡ numbered_list i (changed_list bare xs)
list_numbered [] i = refl
list_numbered (s ∷ rest) i =
    ap₂ (λ (k : StmtKind) (xs : List Stmt). record { node = at i (bare s.node); kind = k } ∷ xs) (stmt_numbered s.kind i) (list_numbered rest (i + stmt_nodes s.kind))
    ∙ ap (λ k. record { node = at i (bare s.node); kind = numbered_stmt i (changed_stmt bare s.kind) } ∷ numbered_list (i + k) (changed_list bare rest)) (sym (stmt_count s.kind))

items_numbered : (ds : List Item) (i : ℕ) → changed_items spanless (numbered_items i ds) ≡ numbered_items i (changed_items bare ds)
items_numbered [] i = refl
items_numbered (d ∷ rest) i = ap (λ (xs : List Item). record d { node = at i (bare d.node) } ∷ xs) (items_numbered rest (i + 1))

items_count : (ds : List Item) → length (changed_items bare ds) ≡ length ds
items_count [] = refl
items_count (d ∷ rest) = ap suc (items_count rest)

pub program_numbered : (p : Program) → changed_program spanless (numbered_program p) ≡ numbered_program (changed_program bare p)
program_numbered p =
    ap₂ (λ (ds : List Item) (xs : List Stmt). record { node = at 0 (bare p.node); items = ds; body = xs }) (items_numbered p.items 1) (list_numbered p.body (1 + length p.items))
    ∙ ap (λ (k : ℕ). record { node = at 0 (bare p.node); items = numbered_items 1 (changed_items bare p.items); body = numbered_list (1 + k) (changed_list bare p.body) }) (sym (items_count p.items))
