-- Numbering a numbered tree changes nothing.
use Rattle.std.proofs.Common.{◌≡◌, ℕ, suc, ◌+◌, List, [], ◌∷◌, length, refl, ◌∙◌, ap, ap₂}
use mathlib.Core.Former.{Count}
use Rattle.ac_tree.specs.declared.node.Node.{Node}
use Rattle.ac_tree.specs.declared.program.Cond.{Cond}
use Rattle.ac_tree.specs.declared.program.CondKind.{CondKind}
use Rattle.ac_tree.specs.declared.program.CondKind.TheVariants.{True, False, Rel}
use Rattle.ac_tree.specs.declared.program.Expr.{Expr}
use Rattle.ac_tree.specs.declared.program.ExprKind.{ExprKind}
use Rattle.ac_tree.specs.declared.program.ExprKind.TheVariants.{Num, Get, Read}
use Rattle.ac_tree.specs.declared.program.Index.{Index}
use Rattle.ac_tree.specs.declared.program.Item.{Item}
use Rattle.ac_tree.specs.declared.program.Program.{Program}
use Rattle.ac_tree.specs.declared.program.Stmt.{Stmt}
use Rattle.ac_tree.specs.declared.program.StmtKind.{StmtKind, Row_of-Stmt, end_of-Stmt, more_of-Stmt}
use Rattle.ac_tree.specs.declared.program.StmtKind.TheVariants.{Set, Put, If', For', While', Hand, Skip}
use Rattle.ac_tree.specs.declared.program.StmtKind.TheVariants as stmt
use Rattle.ac_tree.specs.Numbering.{at, expr_nodes, index_nodes, cond_nodes, stmt_nodes, block_nodes, list_nodes, numbered, numbered_index, numbered_expr, numbered_kind, numbered_cond, numbered_stmt, numbered_block, numbered_list, numbered_items, numbered_program}
use Rattle.ac_tree.specs.Patterns.{Negative, Plus, Minus, Times, OneIndex, TwoIndexes, Negation, Conjunction, Disjunction}
use Rattle.ac_numbering.specs.Opened.{hidden, expr_shape, expr_child, cond_shape, cond_child}
use Rattle.ac_numbering.proofs.NumberRules.{add_three, nodes-If, nodes-For, nodes-While, numbered-If, numbered-For, numbered-While}

-- how many nodes

mutual
  unfolding hidden expr_shape expr_child

  expr_count : (k : ExprKind) (j : ℕ) → expr_nodes (numbered j k) ≡ expr_nodes k
  expr_count (Num k) j = refl
  expr_count (Get x) j = refl
  expr_count (Read x i) j = ap (λ n. 1 + n) (index_count i (j + 1))
  expr_count (Negative n a) j = ap (λ n. 1 + n) (expr_count a (j + 1))
  expr_count (Plus n a m b) j = ap₂ (λ k l. 1 + k + l) (expr_count a (j + 1)) (expr_count b (j + 1 + expr_nodes a))
  expr_count (Minus n a m b) j = ap₂ (λ k l. 1 + k + l) (expr_count a (j + 1)) (expr_count b (j + 1 + expr_nodes a))
  expr_count (Times n a m b) j = ap₂ (λ k l. 1 + k + l) (expr_count a (j + 1)) (expr_count b (j + 1 + expr_nodes a))

  index_count : (i : Index) (j : ℕ) → index_nodes (numbered_index j i) ≡ index_nodes i
  index_count (OneIndex n a) j = expr_count a j
  index_count (TwoIndexes n a m b) j = ap₂ (λ k l. k + l) (expr_count a j) (expr_count b (j + expr_nodes a))

cond_count : (k : CondKind) (j : ℕ) → cond_nodes (numbered_kind j k) ≡ cond_nodes k
unfolding hidden cond_shape cond_child
cond_count True j = refl
cond_count False j = refl
cond_count (Rel r a b) j = ap₂ (λ k l. 1 + k + l) (expr_count a.kind (j + 1)) (expr_count b.kind (j + 1 + expr_nodes a.kind))
cond_count (Negation n c) j = ap (λ n. 1 + n) (cond_count c (j + 1))
cond_count (Conjunction n c m d) j = ap₂ (λ k l. 1 + k + l) (cond_count c (j + 1)) (cond_count d (j + 1 + cond_nodes c))
cond_count (Disjunction n c m d) j = ap₂ (λ k l. 1 + k + l) (cond_count c (j + 1)) (cond_count d (j + 1 + cond_nodes c))

mutual
  stmt_count : (k : StmtKind) (j : ℕ) → stmt_nodes (numbered_stmt j k) ≡ stmt_nodes k
  stmt_count (Set x a) j = ap (λ n. 1 + n) (expr_count a.kind (j + 1))
  stmt_count (Put x i a) j = ap₂ (λ k l. 1 + k + l) (index_count i (j + 1)) (expr_count a.kind (j + 1 + index_nodes i))
  stmt_count (If' c _ xs _ ys) j =
      nodes-If (numbered_cond (j + 1) c) (numbered_block (j + 1 + cond_nodes c.kind) xs) (numbered_block (j + 1 + cond_nodes c.kind + block_nodes xs) ys)
      ∙ add_three _ _ _ _ _ _ (cond_count c.kind (j + 1)) (block_count _ xs (j + 1 + cond_nodes c.kind)) (block_count _ ys (j + 1 + cond_nodes c.kind + block_nodes xs))
  stmt_count (For' x a b _ xs) j =
      nodes-For x (numbered_expr (j + 1) a) (numbered_expr (j + 1 + expr_nodes a.kind) b) (numbered_block (j + 1 + expr_nodes a.kind + expr_nodes b.kind) xs)
      ∙ add_three _ _ _ _ _ _ (expr_count a.kind (j + 1)) (expr_count b.kind (j + 1 + expr_nodes a.kind)) (block_count _ xs (j + 1 + expr_nodes a.kind + expr_nodes b.kind))
  stmt_count (While' c _ xs) j =
      nodes-While (numbered_cond (j + 1) c) (numbered_block (j + 1 + cond_nodes c.kind) xs)
      ∙ ap₂ (λ k l. 1 + k + l) (cond_count c.kind (j + 1)) (block_count _ xs (j + 1 + cond_nodes c.kind))
  stmt_count (Hand x y) j = refl
  stmt_count Skip j = refl

  block_count : (n : Count) (row : Row_of-Stmt n) (j : ℕ) → list_nodes (numbered_block j row) ≡ block_nodes row
  block_count _ end_of-Stmt j = refl
  block_count _ (more_of-Stmt {n = n} m s rest) j = ap₂ (λ k l. k + l) (stmt_count s j) (block_count n rest (j + stmt_nodes s))

-- which numbers: i is where the second numbering begins, and j where the first began

two_twice : (P : Node → ExprKind → Node → ExprKind → ExprKind) (i j : ℕ) (n m : Node) (a b : ExprKind) → numbered i (numbered j a) ≡ numbered i a →
    numbered (i + expr_nodes a) (numbered (j + expr_nodes a) b) ≡ numbered (i + expr_nodes a) b →
    P (at i n) (numbered i (numbered j a)) (at (i + expr_nodes (numbered j a)) m) (numbered (i + expr_nodes (numbered j a)) (numbered (j + expr_nodes a) b)) ≡
    P (at i n) (numbered i a) (at (i + expr_nodes a) m) (numbered (i + expr_nodes a) b)
two_twice P i j n m a b e f =
    ap (λ k. P (at i n) (numbered i (numbered j a)) (at (i + k) m) (numbered (i + k) (numbered (j + expr_nodes a) b))) (expr_count a j)
    ∙ ap₂ (λ x y. P (at i n) x (at (i + expr_nodes a) m) y) e f

mutual
  unfolding hidden expr_shape expr_child

  expr_twice : (k : ExprKind) (i j : ℕ) → numbered i (numbered j k) ≡ numbered i k
  expr_twice (Num k) i j = refl
  expr_twice (Get x) i j = refl
  expr_twice (Read x a) i j = ap (λ k. Read x k) (index_twice a (i + 1) (j + 1))
  expr_twice (Negative n a) i j = ap (λ b. Negative (at (i + 1) n) b) (expr_twice a (i + 1) (j + 1))
  expr_twice (Plus n a m b) i j = two_twice (λ n a m b. Plus n a m b) (i + 1) (j + 1) n m a b (expr_twice a (i + 1) (j + 1)) (expr_twice b (i + 1 + expr_nodes a) (j + 1 + expr_nodes a))
  expr_twice (Minus n a m b) i j = two_twice (λ n a m b. Minus n a m b) (i + 1) (j + 1) n m a b (expr_twice a (i + 1) (j + 1)) (expr_twice b (i + 1 + expr_nodes a) (j + 1 + expr_nodes a))
  expr_twice (Times n a m b) i j = two_twice (λ n a m b. Times n a m b) (i + 1) (j + 1) n m a b (expr_twice a (i + 1) (j + 1)) (expr_twice b (i + 1 + expr_nodes a) (j + 1 + expr_nodes a))

  index_twice : (a : Index) (i j : ℕ) → numbered_index i (numbered_index j a) ≡ numbered_index i a
  index_twice (OneIndex n a) i j = ap (λ b. OneIndex (at i n) b) (expr_twice a i j)
  index_twice (TwoIndexes n a m b) i j =
      ap (λ k. TwoIndexes (at i n) (numbered i (numbered j a)) (at (i + k) m) (numbered (i + k) (numbered (j + expr_nodes a) b))) (expr_count a j)
      ∙ ap₂ (λ x y. TwoIndexes (at i n) x (at (i + expr_nodes a) m) y) (expr_twice a i j) (expr_twice b (i + expr_nodes a) (j + expr_nodes a))

whole_twice : (e : Expr) (i j : ℕ) → numbered_expr i (numbered_expr j e) ≡ numbered_expr i e
whole_twice e i j = ap (λ k. record { node = at i e.node; kind = k }) (expr_twice e.kind i j)

two_conds : (P : Node → CondKind → Node → CondKind → CondKind) (i j : ℕ) (n m : Node) (a b : CondKind) → numbered_kind i (numbered_kind j a) ≡ numbered_kind i a →
    numbered_kind (i + cond_nodes a) (numbered_kind (j + cond_nodes a) b) ≡ numbered_kind (i + cond_nodes a) b →
    P (at i n) (numbered_kind i (numbered_kind j a)) (at (i + cond_nodes (numbered_kind j a)) m) (numbered_kind (i + cond_nodes (numbered_kind j a)) (numbered_kind (j + cond_nodes a) b)) ≡
    P (at i n) (numbered_kind i a) (at (i + cond_nodes a) m) (numbered_kind (i + cond_nodes a) b)
two_conds P i j n m a b e f =
    ap (λ k. P (at i n) (numbered_kind i (numbered_kind j a)) (at (i + k) m) (numbered_kind (i + k) (numbered_kind (j + cond_nodes a) b))) (cond_count a j)
    ∙ ap₂ (λ x y. P (at i n) x (at (i + cond_nodes a) m) y) e f

cond_twice : (k : CondKind) (i j : ℕ) → numbered_kind i (numbered_kind j k) ≡ numbered_kind i k
unfolding hidden cond_shape cond_child
cond_twice True i j = refl
cond_twice False i j = refl
cond_twice (Rel r a b) i j =
    ap (λ k. Rel r (numbered_expr (i + 1) (numbered_expr (j + 1) a)) (numbered_expr (i + 1 + k) (numbered_expr (j + 1 + expr_nodes a.kind) b))) (expr_count a.kind (j + 1))
    ∙ ap₂ (λ x y. Rel r x y) (whole_twice a (i + 1) (j + 1)) (whole_twice b (i + 1 + expr_nodes a.kind) (j + 1 + expr_nodes a.kind))
cond_twice (Negation n c) i j = ap (λ b. Negation (at (i + 1) n) b) (cond_twice c (i + 1) (j + 1))
cond_twice (Conjunction n c m d) i j = two_conds (λ n a m b. Conjunction n a m b) (i + 1) (j + 1) n m c d (cond_twice c (i + 1) (j + 1)) (cond_twice d (i + 1 + cond_nodes c) (j + 1 + cond_nodes c))
cond_twice (Disjunction n c m d) i j = two_conds (λ n a m b. Disjunction n a m b) (i + 1) (j + 1) n m c d (cond_twice c (i + 1) (j + 1)) (cond_twice d (i + 1 + cond_nodes c) (j + 1 + cond_nodes c))

test_twice : (c : Cond) (i j : ℕ) → numbered_cond i (numbered_cond j c) ≡ numbered_cond i c
test_twice c i j = ap (λ k. record { node = at i c.node; kind = k }) (cond_twice c.kind i j)

mutual
  stmt_twice : (k : StmtKind) (i j : ℕ) → numbered_stmt i (numbered_stmt j k) ≡ numbered_stmt i k
  stmt_twice (Set x a) i j = ap (λ b. Set x b) (whole_twice a (i + 1) (j + 1))
  stmt_twice (Put x a b) i j =
      ap (λ k. Put x (numbered_index (i + 1) (numbered_index (j + 1) a)) (numbered_expr (i + 1 + k) (numbered_expr (j + 1 + index_nodes a) b))) (index_count a (j + 1))
      ∙ ap₂ (λ k b. Put x k b) (index_twice a (i + 1) (j + 1)) (whole_twice b (i + 1 + index_nodes a) (j + 1 + index_nodes a))
  stmt_twice (If' c _ xs _ ys) i j =
      let us = numbered_block (j + 1 + cond_nodes c.kind) xs in
      let vs = numbered_block (j + 1 + cond_nodes c.kind + block_nodes xs) ys in
      numbered-If i (numbered_cond (j + 1) c) us vs
      ∙ (ap₂ (λ k l. stmt.If (numbered_cond (i + 1) (numbered_cond (j + 1) c)) (numbered_list (i + 1 + k) us) (numbered_list (i + 1 + k + l) vs)) (cond_count c.kind (j + 1)) (block_count _ xs (j + 1 + cond_nodes c.kind))
      ∙ (ap₂ (λ t ws. stmt.If t ws (numbered_list (i + 1 + cond_nodes c.kind + block_nodes xs) vs)) (test_twice c (i + 1) (j + 1)) (block_twice _ xs (i + 1 + cond_nodes c.kind) (j + 1 + cond_nodes c.kind))
      ∙ ap (λ ws. stmt.If (numbered_cond (i + 1) c) (numbered_block (i + 1 + cond_nodes c.kind) xs) ws)
      (block_twice _ ys (i + 1 + cond_nodes c.kind + block_nodes xs) (j + 1 + cond_nodes c.kind + block_nodes xs))))
  stmt_twice (For' x a b _ xs) i j =
      let us = numbered_block (j + 1 + expr_nodes a.kind + expr_nodes b.kind) xs in
      let low = numbered_expr (j + 1) a in
      let high = numbered_expr (j + 1 + expr_nodes a.kind) b in
      numbered-For i x low high us
      ∙ (ap₂ (λ k l. stmt.For x (numbered_expr (i + 1) low) (numbered_expr (i + 1 + k) high) (numbered_list (i + 1 + k + l) us)) (expr_count a.kind (j + 1)) (expr_count b.kind (j + 1 + expr_nodes a.kind))
      ∙ (ap₂ (λ k l. stmt.For x k l (numbered_list (i + 1 + expr_nodes a.kind + expr_nodes b.kind) us)) (whole_twice a (i + 1) (j + 1)) (whole_twice b (i + 1 + expr_nodes a.kind) (j + 1 + expr_nodes a.kind))
      ∙ ap (λ ws. stmt.For x (numbered_expr (i + 1) a) (numbered_expr (i + 1 + expr_nodes a.kind) b) ws)
      (block_twice _ xs (i + 1 + expr_nodes a.kind + expr_nodes b.kind) (j + 1 + expr_nodes a.kind + expr_nodes b.kind))))
  stmt_twice (While' c _ xs) i j =
      let us = numbered_block (j + 1 + cond_nodes c.kind) xs in
      numbered-While i (numbered_cond (j + 1) c) us
      ∙ (ap (λ k. stmt.While (numbered_cond (i + 1) (numbered_cond (j + 1) c)) (numbered_list (i + 1 + k) us)) (cond_count c.kind (j + 1))
      ∙ ap₂ (λ t ws. stmt.While t ws) (test_twice c (i + 1) (j + 1)) (block_twice _ xs (i + 1 + cond_nodes c.kind) (j + 1 + cond_nodes c.kind)))
  stmt_twice (Hand x y) i j = refl
  stmt_twice Skip i j = refl

  block_twice : (n : Count) (row : Row_of-Stmt n) (i j : ℕ) → numbered_list i (numbered_block j row) ≡ numbered_block i row
  block_twice _ end_of-Stmt i j = refl
  block_twice _ (more_of-Stmt {n = n} m s rest) i j =
      ap (λ k. record { node = at i m; kind = numbered_stmt i (numbered_stmt j s) } ∷ numbered_list (i + k) (numbered_block (j + stmt_nodes s) rest)) (stmt_count s j)
      ∙ ap₂ (λ (k : StmtKind) (xs : List Stmt). record { node = at i m; kind = k } ∷ xs) (stmt_twice s i j) (block_twice n rest (i + stmt_nodes s) (j + stmt_nodes s))

list_twice : (xs : List Stmt) (i j : ℕ) → numbered_list i (numbered_list j xs) ≡ numbered_list i xs
list_twice [] i j = refl
list_twice (s ∷ rest) i j =
    ap (λ k. record { node = at i s.node; kind = numbered_stmt i (numbered_stmt j s.kind) } ∷ numbered_list (i + k) (numbered_list (j + stmt_nodes s.kind) rest)) (stmt_count s.kind j)
    ∙ ap₂ (λ (k : StmtKind) (xs : List Stmt). record { node = at i s.node; kind = k } ∷ xs) (stmt_twice s.kind i j) (list_twice rest (i + stmt_nodes s.kind) (j + stmt_nodes s.kind))

items_twice : (ds : List Item) (i j : ℕ) → numbered_items i (numbered_items j ds) ≡ numbered_items i ds
items_twice [] i j = refl
items_twice (d ∷ rest) i j = ap (λ (xs : List Item). record d { node = at i d.node } ∷ xs) (items_twice rest (i + 1) (j + 1))

items_count : (ds : List Item) (j : ℕ) → length (numbered_items j ds) ≡ length ds
items_count [] j = refl
items_count (d ∷ rest) j = ap suc (items_count rest (j + 1))

pub numbered_twice : (p : Program) → numbered_program (numbered_program p) ≡ numbered_program p
numbered_twice p =
    let body = numbered_list (1 + length p.items) p.body in
    ap (λ (k : ℕ). record { node = at 0 p.node; items = numbered_items 1 (numbered_items 1 p.items); body = numbered_list (1 + k) body }) (items_count p.items 1)
    ∙ ap₂ (λ (ds : List Item) (xs : List Stmt). record { node = at 0 p.node; items = ds; body = xs }) (items_twice p.items 1 1) (list_twice p.body (1 + length p.items) (1 + length p.items))
