-- The nodes of a numbered program have the numbers 0, 1, 2, .. in preorder, and there is a position for each.
use Rattle.ac_tree.specs.StaticRules.{index_count}
use Rattle.std.proofs.Common.{◌≡◌, ℕ, zero, suc, ◌+◌, List, [], ◌∷◌, ◌++◌, length, arith, rules, ap, refl, sym, subst, ◌∙◌, length-append}
use mathlib.Core.Former.{Count}
use Rattle.ac_tree.specs.declared.node.NodeId.{NodeId}
use Rattle.ac_tree.specs.declared.program.Cond.{Cond}
use Rattle.ac_tree.specs.declared.program.CondKind.{CondKind}
use Rattle.ac_tree.specs.declared.program.CondKind.TheVariants.{True, False, Rel}
use Rattle.ac_tree.specs.declared.program.Expr.{Expr}
use Rattle.ac_tree.specs.declared.program.ExprKind.{ExprKind}
use Rattle.ac_tree.specs.declared.program.ExprKind.TheVariants.{Num, Get, Read}
use Rattle.ac_tree.specs.declared.program.Index.{Index}
use Rattle.ac_tree.specs.declared.program.Item.{Item}
use Rattle.ac_tree.specs.declared.program.Program.{Program}
use Rattle.ac_tree.specs.declared.program.Stmt.{Stmt}
use Rattle.ac_tree.specs.declared.program.StmtKind.{StmtKind, the_lemmas as stmt_lemmas, Row_of-Stmt, end_of-Stmt, more_of-Stmt, items-the_row-Stmt}
use Rattle.ac_tree.specs.declared.program.StmtKind.TheVariants.{Set, Put, If', For', While', Hand, Skip}
use Rattle.ac_tree.specs.declared.program.StmtKind.TheVariants as stmt
use Rattle.ac_tree.specs.Opened.{hidden, expr_shape, expr_child, cond_shape, cond_child}
use Rattle.ac_tree.specs.Patterns.{Negative, Plus, Minus, Times, OneIndex, TwoIndexes, Negation, Conjunction, Disjunction}
use Rattle.ac_tree.specs.Numbering.{expr_nodes, index_nodes, cond_nodes, stmt_nodes, block_nodes, list_nodes, program_nodes, numbered, numbered_index, numbered_kind, numbered_cond, numbered_expr, numbered_stmt, numbered_block, numbered_list, numbered_items, numbered_program}
use Rattle.ac_tree.specs.Positions.{Positions, no_node, followed, node_at, part_at, below_expr, below_index, below_cond, below_stmt, block_positions, list_positions, items_positions, positions_of}
use Rattle.ac_tree.specs.Spelling.{Spells}
use Rattle.ac_tree.specs.Preorder.{inside_expr, inside_index, inside_cond, inside_stmt, nodes_of_row, nodes_of_list, nodes_of_items, nodes_of, numbers_from, IsNumbered}

-- Numbers in a row.

append : (i m n : ℕ) → numbers_from i (m + n) ≡ numbers_from i m ++ numbers_from (i + m) n
append i zero n =
    let a : i + 0 ≡ i = omega arith in
    ap (λ k. numbers_from i k) (omega arith) ∙ ap (λ j. numbers_from j n) (sym a)
append i (suc m) n =
    let a : suc m + n ≡ suc (m + n) = omega arith in
    let b : i + 1 + m ≡ i + suc m = omega arith in
    ap (λ k. numbers_from i k) a ∙ (ap (λ (xs : List NodeId). record { 0 = i } ∷ xs) (append (i + 1) m n) ∙ ap (λ j. (record { 0 = i } ∷ numbers_from (i + 1) m) ++ numbers_from j n) b)

abbrev node_and : ℕ → List NodeId → List NodeId
node_and i xs = record { 0 = i } ∷ xs

none : (i : ℕ) → node_and i [] ≡ numbers_from i 1
none i = refl

one : (i m : ℕ) (xs : List NodeId) → xs ≡ numbers_from (i + 1) m → node_and i xs ≡ numbers_from i (1 + m)
one i m xs e =
    let a : suc m ≡ 1 + m = omega arith in
    ap (node_and i) e ∙ ap (λ k. numbers_from i k) a

both : (i m n : ℕ) (xs ys : List NodeId) → xs ≡ numbers_from i m → ys ≡ numbers_from (i + m) n → xs ++ ys ≡ numbers_from i (m + n)
both i m n xs ys e f = ap (λ (zs : List NodeId). zs ++ ys) e ∙ (ap (λ (zs : List NodeId). numbers_from i m ++ zs) f ∙ sym (append i m n))

two : (i m n : ℕ) (xs ys : List NodeId) → xs ≡ numbers_from (i + 1) m → ys ≡ numbers_from (i + 1 + m) n → node_and i (xs ++ ys) ≡ numbers_from i (1 + m + n)
two i m n xs ys e f =
    let a : 1 + (m + n) ≡ 1 + m + n = omega arith in
    one i (m + n) (xs ++ ys) (both (i + 1) m n xs ys e f) ∙ ap (λ k. numbers_from i k) a

three : (i l m n : ℕ) (xs ys zs : List NodeId) → xs ≡ numbers_from (i + 1) l → ys ≡ numbers_from (i + 1 + l) m → zs ≡ numbers_from (i + 1 + l + m) n →
    node_and i (xs ++ (ys ++ zs)) ≡ numbers_from i (1 + l + m + n)
three i l m n xs ys zs e f g =
    let a : 1 + l + (m + n) ≡ 1 + l + m + n = omega arith in
    two i l (m + n) xs (ys ++ zs) e (both (i + 1 + l) m n ys zs f g) ∙ ap (λ k. numbers_from i k) a

-- Numbered trees.

mutual
  unfolding hidden expr_shape expr_child

  expr_numbers : (i : ℕ) (k : ExprKind) → node_and i (inside_expr (numbered i k)) ≡ numbers_from i (expr_nodes k)
  expr_numbers i (Num n) = none i
  expr_numbers i (Get x) = none i
  expr_numbers i (Read x a) = one i (index_nodes a) _ (index_numbers (i + 1) a)
  expr_numbers i (Negative n a) = one i (expr_nodes a) _ (expr_numbers (i + 1) a)
  expr_numbers i (Plus n a m b) = two i (expr_nodes a) (expr_nodes b) _ _ (expr_numbers (i + 1) a) (expr_numbers (i + 1 + expr_nodes a) b)
  expr_numbers i (Minus n a m b) = two i (expr_nodes a) (expr_nodes b) _ _ (expr_numbers (i + 1) a) (expr_numbers (i + 1 + expr_nodes a) b)
  expr_numbers i (Times n a m b) = two i (expr_nodes a) (expr_nodes b) _ _ (expr_numbers (i + 1) a) (expr_numbers (i + 1 + expr_nodes a) b)

  index_numbers : (i : ℕ) (k : Index) → inside_index (numbered_index i k) ≡ numbers_from i (index_nodes k)
  index_numbers i (OneIndex n a) = expr_numbers i a
  index_numbers i (TwoIndexes n a m b) = both i (expr_nodes a) (expr_nodes b) _ _ (expr_numbers i a) (expr_numbers (i + expr_nodes a) b)

cond_numbers : (i : ℕ) (k : CondKind) → node_and i (inside_cond (numbered_kind i k)) ≡ numbers_from i (cond_nodes k)
unfolding hidden cond_shape cond_child
cond_numbers i True = none i
cond_numbers i False = none i
cond_numbers i (Rel r a b) = two i (expr_nodes a.kind) (expr_nodes b.kind) _ _ (expr_numbers (i + 1) a.kind) (expr_numbers (i + 1 + expr_nodes a.kind) b.kind)
cond_numbers i (Negation n c) = one i (cond_nodes c) _ (cond_numbers (i + 1) c)
cond_numbers i (Conjunction n c m d) = two i (cond_nodes c) (cond_nodes d) _ _ (cond_numbers (i + 1) c) (cond_numbers (i + 1 + cond_nodes c) d)
cond_numbers i (Disjunction n c m d) = two i (cond_nodes c) (cond_nodes d) _ _ (cond_numbers (i + 1) c) (cond_numbers (i + 1 + cond_nodes c) d)

-- rows are lists
row-items : (n : Count) (row : Row_of-Stmt n) → nodes_of_row row ≡ nodes_of_list (items-the_row-Stmt n row)
row-items _ end_of-Stmt = refl
row-items _ (more_of-Stmt {n = n} at x rest) = ap (λ (xs : List NodeId). (at.id ∷ inside_stmt x) ++ xs) (row-items n rest)

inside-If : (c : Cond) (xs ys : List Stmt) → inside_stmt (stmt.If c xs ys) ≡ (c.node.id ∷ inside_cond c.kind) ++ (nodes_of_list xs ++ nodes_of_list ys)
inside-If c xs ys = first_of (search (rules, stmt_lemmas, row-items), grind (arith, stmt_lemmas, row-items))

inside-For : (x : List ℕ) (a b : Expr) (xs : List Stmt) →
    inside_stmt (stmt.For x a b xs) ≡ (a.node.id ∷ inside_expr a.kind) ++ ((b.node.id ∷ inside_expr b.kind) ++ nodes_of_list xs)
inside-For x a b xs = first_of (search (rules, stmt_lemmas, row-items), grind (arith, stmt_lemmas, row-items))

inside-While : (c : Cond) (xs : List Stmt) → inside_stmt (stmt.While c xs) ≡ (c.node.id ∷ inside_cond c.kind) ++ nodes_of_list xs
inside-While c xs = first_of (search (rules, stmt_lemmas, row-items), grind (arith, stmt_lemmas, row-items))

mutual
  stmt_numbers : (i : ℕ) (k : StmtKind) → node_and i (inside_stmt (numbered_stmt i k)) ≡ numbers_from i (stmt_nodes k)
  stmt_numbers i (Set x a) = one i (expr_nodes a.kind) _ (expr_numbers (i + 1) a.kind)
  stmt_numbers i (Put x a b) = two i (index_nodes a) (expr_nodes b.kind) _ _ (index_numbers (i + 1) a) (expr_numbers (i + 1 + index_nodes a) b.kind)
  stmt_numbers i (If' c _ xs _ ys) =
      ap (node_and i) (inside-If (numbered_cond (i + 1) c) (numbered_block (i + 1 + cond_nodes c.kind) xs) (numbered_block (i + 1 + cond_nodes c.kind + block_nodes xs) ys))
      ∙ three i (cond_nodes c.kind) (block_nodes xs) (block_nodes ys) _ _ _ (cond_numbers (i + 1) c.kind) (row_numbers (i + 1 + cond_nodes c.kind) xs) (row_numbers (i + 1 + cond_nodes c.kind + block_nodes xs) ys)
  stmt_numbers i (For' x a b _ xs) =
      ap (node_and i) (inside-For x (numbered_expr (i + 1) a) (numbered_expr (i + 1 + expr_nodes a.kind) b) (numbered_block (i + 1 + expr_nodes a.kind + expr_nodes b.kind) xs))
      ∙ three i (expr_nodes a.kind) (expr_nodes b.kind) (block_nodes xs) _ _ _ (expr_numbers (i + 1) a.kind) (expr_numbers (i + 1 + expr_nodes a.kind) b.kind) (row_numbers (i + 1 + expr_nodes a.kind + expr_nodes b.kind) xs)
  stmt_numbers i (While' c _ xs) =
      ap (node_and i) (inside-While (numbered_cond (i + 1) c) (numbered_block (i + 1 + cond_nodes c.kind) xs))
      ∙ two i (cond_nodes c.kind) (block_nodes xs) _ _ (cond_numbers (i + 1) c.kind) (row_numbers (i + 1 + cond_nodes c.kind) xs)
  stmt_numbers i (Hand x y) = none i
  stmt_numbers i Skip = none i

  row_numbers : {n : _} (i : ℕ) (row : Row_of-Stmt n) → nodes_of_list (numbered_block i row) ≡ numbers_from i (block_nodes row)
  row_numbers i end_of-Stmt = refl
  row_numbers i (more_of-Stmt n s rest) = both i (stmt_nodes s) (block_nodes rest) _ _ (stmt_numbers i s) (row_numbers (i + stmt_nodes s) rest)

list_numbers : (i : ℕ) (xs : List Stmt) → nodes_of_list (numbered_list i xs) ≡ numbers_from i (list_nodes xs)
list_numbers i [] = refl
list_numbers i (s ∷ rest) = both i (stmt_nodes s.kind) (list_nodes rest) _ _ (stmt_numbers i s.kind) (list_numbers (i + stmt_nodes s.kind) rest)

items_numbers : (i : ℕ) (ds : List Item) → nodes_of_items (numbered_items i ds) ≡ numbers_from i (length ds)
items_numbers i [] = refl
items_numbers i (d ∷ rest) =
    let a : 1 + length rest ≡ suc (length rest) = omega arith in
    one i (length rest) _ (items_numbers (i + 1) rest) ∙ ap (λ k. numbers_from i k) a

tree_numbers : (t : Program) → nodes_of (numbered_program t) ≡ numbers_from 0 (program_nodes t)
tree_numbers t = two 0 (length t.items) (list_nodes t.body) _ _ (items_numbers 1 t.items) (list_numbers (1 + length t.items) t.body)

-- As many positions as nodes.

length-followed : (a b : Positions) (i m n : ℕ) → length (a i) ≡ m → length (b (i + length (a i))) ≡ n → length (followed a b i) ≡ m + n
unfolding followed
length-followed a b i m n e f =
    let k = length-append (a i) (b (i + length (a i))) in
    omega arith

length-node : (parent block place : ℕ) (below : ℕ → Positions) (i n : ℕ) → length (below i (i + 1)) ≡ n → length (node_at parent block place below i) ≡ 1 + n
unfolding node_at
length-node parent block place below i n e = omega arith

abbrev Counts : ℕ → Positions → Type 0
Counts n a = (i : ℕ) → length (a i) ≡ n

counts-followed : (m n : ℕ) (a b : Positions) → Counts m a → Counts n b → Counts (m + n) (followed a b)
counts-followed m n a b f g = λ i. length-followed a b i m n (f i) (g (i + length (a i)))

counts-node : (parent block place : ℕ) (n : ℕ) (below : ℕ → Positions) → ((own : ℕ) → Counts n (below own)) → Counts (1 + n) (node_at parent block place below)
counts-node parent block place n below f = λ i. length-node parent block place below i n (f i (i + 1))

counts-as : (m n : ℕ) (a b : Positions) → m ≡ n → a ≡ b → Counts n b → Counts m a
counts-as m n a b e k f = subst (λ j. Counts j a) (sym e) (subst (λ (p : Positions). Counts n p) (sym k) f)

node-none : (parent block place : ℕ) → Counts 1 (node_at parent block place (λ own. no_node))
node-none parent block place = counts-node parent block place 0 (λ own. no_node) (λ own i. refl)

node-two : (parent block place m n : ℕ) (a b : ℕ → Positions) → ((own : ℕ) → Counts m (a own)) → ((own : ℕ) → Counts n (b own)) →
    Counts (1 + m + n) (node_at parent block place (λ own. followed (a own) (b own)))
node-two parent block place m n a b f g =
    let e : 1 + m + n ≡ 1 + (m + n) = omega arith in
    counts-as (1 + m + n) (1 + (m + n)) _ _ e refl (counts-node parent block place (m + n) (λ own. followed (a own) (b own)) (λ own. counts-followed m n (a own) (b own) (f own) (g own)))

node-three : (parent block place l m n : ℕ) (a b c : ℕ → Positions) → ((own : ℕ) → Counts l (a own)) → ((own : ℕ) → Counts m (b own)) → ((own : ℕ) → Counts n (c own)) →
    Counts (1 + l + m + n) (node_at parent block place (λ own. followed (a own) (followed (b own) (c own))))
node-three parent block place l m n a b c f g h =
    let e : 1 + l + m + n ≡ 1 + l + (m + n) = omega arith in
    counts-as (1 + l + m + n) (1 + l + (m + n)) _ _ e refl
    (node-two parent block place l (m + n) a (λ own. followed (b own) (c own)) f (λ own. counts-followed m n (b own) (c own) (g own) (h own)))

mutual
  unfolding hidden expr_shape expr_child below_expr

  expr_counts : (k : ExprKind) (parent place : ℕ) → Counts (expr_nodes k) (part_at parent place (below_expr k))
  expr_counts (Num n) parent place = node-none parent 0 place
  expr_counts (Get x) parent place = node-none parent 0 place
  expr_counts (Read x i) parent place = counts-node parent 0 place (index_nodes i) (below_index i) (λ own. index_counts i own)
  expr_counts (Negative n a) parent place = counts-node parent 0 place (expr_nodes a) (below_expr (Negative n a)) (λ own. expr_counts a own 0)
  expr_counts (Plus n a m b) parent place =
      node-two parent 0 place (expr_nodes a) (expr_nodes b) (λ own. part_at own 0 (below_expr a)) (λ own. part_at own 1 (below_expr b)) (λ own. expr_counts a own 0) (λ own. expr_counts b own 1)
  expr_counts (Minus n a m b) parent place =
      node-two parent 0 place (expr_nodes a) (expr_nodes b) (λ own. part_at own 0 (below_expr a)) (λ own. part_at own 1 (below_expr b)) (λ own. expr_counts a own 0) (λ own. expr_counts b own 1)
  expr_counts (Times n a m b) parent place =
      node-two parent 0 place (expr_nodes a) (expr_nodes b) (λ own. part_at own 0 (below_expr a)) (λ own. part_at own 1 (below_expr b)) (λ own. expr_counts a own 0) (λ own. expr_counts b own 1)

  index_counts : (k : Index) (own : ℕ) → Counts (index_nodes k) (below_index k own)
  index_counts (OneIndex n a) own = expr_counts a own 0
  index_counts (TwoIndexes n a m b) own =
      counts-followed (expr_nodes a) (expr_nodes b) (part_at own 0 (below_expr a)) (part_at own 1 (below_expr b)) (expr_counts a own 0) (expr_counts b own 1)

cond_counts : (k : CondKind) (parent place : ℕ) → Counts (cond_nodes k) (part_at parent place (below_cond k))
unfolding hidden cond_shape cond_child below_cond
cond_counts True parent place = node-none parent 0 place
cond_counts False parent place = node-none parent 0 place
cond_counts (Rel r a b) parent place =
    node-two parent 0 place (expr_nodes a.kind) (expr_nodes b.kind) (λ own. part_at own 0 (below_expr a.kind)) (λ own. part_at own 1 (below_expr b.kind)) (λ own. expr_counts a.kind own 0) (λ own. expr_counts b.kind own 1)
cond_counts (Negation n c) parent place = counts-node parent 0 place (cond_nodes c) (below_cond (Negation n c)) (λ own. cond_counts c own 0)
cond_counts (Conjunction n c m d) parent place =
    node-two parent 0 place (cond_nodes c) (cond_nodes d) (λ own. part_at own 0 (below_cond c)) (λ own. part_at own 1 (below_cond d)) (λ own. cond_counts c own 0) (λ own. cond_counts d own 1)
cond_counts (Disjunction n c m d) parent place =
    node-two parent 0 place (cond_nodes c) (cond_nodes d) (λ own. part_at own 0 (below_cond c)) (λ own. part_at own 1 (below_cond d)) (λ own. cond_counts c own 0) (λ own. cond_counts d own 1)

mutual
  unfolding below_stmt

  stmt_counts : (k : StmtKind) (parent block place : ℕ) → Counts (stmt_nodes k) (node_at parent block place (below_stmt k))
  stmt_counts (Set x a) parent block place = counts-node parent block place (expr_nodes a.kind) (below_stmt (Set x a)) (λ own. expr_counts a.kind own 0)
  stmt_counts (Put x i a) parent block place =
      node-two parent block place (index_nodes i) (expr_nodes a.kind) (below_index i) (λ own. part_at own (index_count i) (below_expr a.kind)) (λ own. index_counts i own) (λ own. expr_counts a.kind own (index_count i))
  stmt_counts (If' c _ xs _ ys) parent block place =
      node-three parent block place (cond_nodes c.kind) (block_nodes xs) (block_nodes ys) (λ own. part_at own 0 (below_cond c.kind)) (λ own. block_positions xs own 1 0) (λ own. block_positions ys own 2 0)
      (λ own. cond_counts c.kind own 0) (λ own. row_counts xs own 1 0) (λ own. row_counts ys own 2 0)
  stmt_counts (For' x a b _ xs) parent block place =
      node-three parent block place (expr_nodes a.kind) (expr_nodes b.kind) (block_nodes xs) (λ own. part_at own 0 (below_expr a.kind)) (λ own. part_at own 1 (below_expr b.kind)) (λ own. block_positions xs own 1 0)
      (λ own. expr_counts a.kind own 0) (λ own. expr_counts b.kind own 1) (λ own. row_counts xs own 1 0)
  stmt_counts (While' c _ xs) parent block place =
      node-two parent block place (cond_nodes c.kind) (block_nodes xs) (λ own. part_at own 0 (below_cond c.kind)) (λ own. block_positions xs own 1 0) (λ own. cond_counts c.kind own 0) (λ own. row_counts xs own 1 0)
  stmt_counts (Hand x y) parent block place = node-none parent block place
  stmt_counts Skip parent block place = node-none parent block place

  row_counts : {n : _} (row : Row_of-Stmt n) (parent block place : ℕ) → Counts (block_nodes row) (block_positions row parent block place)
  row_counts end_of-Stmt parent block place = λ i. refl
  row_counts (more_of-Stmt n s rest) parent block place =
      counts-followed (stmt_nodes s) (block_nodes rest) (node_at parent block place (below_stmt s)) (block_positions rest parent block (place + 1)) (stmt_counts s parent block place) (row_counts rest parent block (place + 1))

list_counts : (xs : List Stmt) (parent block place : ℕ) → Counts (list_nodes xs) (list_positions xs parent block place)
unfolding list_positions
list_counts [] parent block place = λ i. refl
list_counts (s ∷ rest) parent block place =
    counts-followed (stmt_nodes s.kind) (list_nodes rest) (node_at parent block place (below_stmt s.kind)) (list_positions rest parent block (place + 1)) (stmt_counts s.kind parent block place) (list_counts rest parent block (place + 1))

items_counts : (ds : List Item) (parent place : ℕ) → Counts (length ds) (items_positions ds parent place)
unfolding items_positions
items_counts [] parent place = λ i. refl
items_counts (d ∷ rest) parent place =
    let e : suc (length rest) ≡ 1 + length rest = omega arith in
    counts-as (suc (length rest)) (1 + length rest) _ _ e refl
    (counts-followed 1 (length rest) (part_at parent place (λ own. no_node)) (items_positions rest parent (place + 1)) (node-none parent 0 place) (items_counts rest parent (place + 1)))

-- As many nodes as are counted.

abbrev Sizes : List NodeId → ℕ → Type 0
Sizes xs n = length xs + 1 ≡ n

size-two : (n m : NodeId) (xs ys : List NodeId) (a b : ℕ) → Sizes xs a → Sizes ys b → length ((n ∷ xs) ++ (m ∷ ys)) ≡ a + b
size-two n m xs ys a b e f =
    let k = length-append (n ∷ xs) (m ∷ ys) in
    omega arith

size-front : (n : NodeId) (xs ys : List NodeId) (a b : ℕ) → Sizes xs a → length ys ≡ b → length ((n ∷ xs) ++ ys) ≡ a + b
size-front n xs ys a b e f =
    let k = length-append (n ∷ xs) ys in
    omega arith

size-back : (m : NodeId) (xs ys : List NodeId) (a b : ℕ) → length xs ≡ a → Sizes ys b → length (xs ++ (m ∷ ys)) ≡ a + b
size-back m xs ys a b e f =
    let k = length-append xs (m ∷ ys) in
    omega arith

size-lists : (xs ys : List NodeId) (a b : ℕ) → length xs ≡ a → length ys ≡ b → length (xs ++ ys) ≡ a + b
size-lists xs ys a b e f =
    let k = length-append xs ys in
    omega arith

mutual
  unfolding hidden expr_shape expr_child

  expr_size : (k : ExprKind) → Sizes (inside_expr k) (expr_nodes k)
  expr_size (Num n) = refl
  expr_size (Get x) = refl
  expr_size (Read x i) = omega (arith, index_size i)
  expr_size (Negative n a) = omega (arith, expr_size a)
  expr_size (Plus n a m b) = omega (arith, size-two n.id m.id (inside_expr a) (inside_expr b) (expr_nodes a) (expr_nodes b) (expr_size a) (expr_size b))
  expr_size (Minus n a m b) = omega (arith, size-two n.id m.id (inside_expr a) (inside_expr b) (expr_nodes a) (expr_nodes b) (expr_size a) (expr_size b))
  expr_size (Times n a m b) = omega (arith, size-two n.id m.id (inside_expr a) (inside_expr b) (expr_nodes a) (expr_nodes b) (expr_size a) (expr_size b))

  index_size : (k : Index) → length (inside_index k) ≡ index_nodes k
  index_size (OneIndex n a) = omega (arith, expr_size a)
  index_size (TwoIndexes n a m b) = size-two n.id m.id (inside_expr a) (inside_expr b) (expr_nodes a) (expr_nodes b) (expr_size a) (expr_size b)

cond_size : (k : CondKind) → Sizes (inside_cond k) (cond_nodes k)
unfolding hidden cond_shape cond_child
cond_size True = refl
cond_size False = refl
cond_size (Rel r a b) = omega (arith, size-two a.node.id b.node.id (inside_expr a.kind) (inside_expr b.kind) (expr_nodes a.kind) (expr_nodes b.kind) (expr_size a.kind) (expr_size b.kind))
cond_size (Negation n c) = omega (arith, cond_size c)
cond_size (Conjunction n c m d) = omega (arith, size-two n.id m.id (inside_cond c) (inside_cond d) (cond_nodes c) (cond_nodes d) (cond_size c) (cond_size d))
cond_size (Disjunction n c m d) = omega (arith, size-two n.id m.id (inside_cond c) (inside_cond d) (cond_nodes c) (cond_nodes d) (cond_size c) (cond_size d))

mutual
  stmt_size : (k : StmtKind) → Sizes (inside_stmt k) (stmt_nodes k)
  stmt_size (Set x a) = omega (arith, expr_size a.kind)
  stmt_size (Put x i a) = omega (arith, size-back a.node.id (inside_index i) (inside_expr a.kind) (index_nodes i) (expr_nodes a.kind) (index_size i) (expr_size a.kind))
  stmt_size (If' c _ xs _ ys) =
      omega (
        arith,
        size-front c.node.id (inside_cond c.kind) (nodes_of_row xs ++ nodes_of_row ys) (cond_nodes c.kind) (block_nodes xs + block_nodes ys) (cond_size c.kind)
            (size-lists (nodes_of_row xs) (nodes_of_row ys) (block_nodes xs) (block_nodes ys) (row_size xs) (row_size ys)),
      )
  stmt_size (For' x a b _ xs) =
      omega (
        arith,
        size-front a.node.id (inside_expr a.kind) ((b.node.id ∷ inside_expr b.kind) ++ nodes_of_row xs) (expr_nodes a.kind) (expr_nodes b.kind + block_nodes xs) (expr_size a.kind)
            (size-front b.node.id (inside_expr b.kind) (nodes_of_row xs) (expr_nodes b.kind) (block_nodes xs) (expr_size b.kind) (row_size xs)),
      )
  stmt_size (While' c _ xs) =
      omega (arith, size-front c.node.id (inside_cond c.kind) (nodes_of_row xs) (cond_nodes c.kind) (block_nodes xs) (cond_size c.kind) (row_size xs))
  stmt_size (Hand x y) = refl
  stmt_size Skip = refl

  row_size : {n : _} (row : Row_of-Stmt n) → length (nodes_of_row row) ≡ block_nodes row
  row_size end_of-Stmt = refl
  row_size (more_of-Stmt n s rest) = size-front n.id (inside_stmt s) (nodes_of_row rest) (stmt_nodes s) (block_nodes rest) (stmt_size s) (row_size rest)

list_size : (xs : List Stmt) → length (nodes_of_list xs) ≡ list_nodes xs
list_size [] = refl
list_size (s ∷ rest) = size-front s.node.id (inside_stmt s.kind) (nodes_of_list rest) (stmt_nodes s.kind) (list_nodes rest) (stmt_size s.kind) (list_size rest)

items_size : (ds : List Item) → length (nodes_of_items ds) ≡ length ds
items_size [] = refl
items_size (d ∷ rest) = ap suc (items_size rest)

length-numbers : (i k : ℕ) → length (numbers_from i k) ≡ k
length-numbers i zero = refl
length-numbers i (suc k) = ap suc (length-numbers (i + 1) k)

-- The laws.

pub as_many_nodes : (p : Program) → length (nodes_of p) ≡ program_nodes p
as_many_nodes p =
    let k = size-lists (nodes_of_items p.items) (nodes_of_list p.body) (length p.items) (list_nodes p.body) (items_size p.items) (list_size p.body) in
    omega arith

pub numbered_in_preorder : (p : Program) → IsNumbered p → nodes_of p ≡ numbers_from 0 (program_nodes p)
numbered_in_preorder p n =
    let e : nodes_of p ≡ numbers_from 0 (program_nodes n.tree) = ap nodes_of n.numbers ∙ tree_numbers n.tree in
    let l : length (nodes_of p) ≡ program_nodes n.tree = ap length e ∙ length-numbers 0 (program_nodes n.tree) in
    e ∙ ap (λ k. numbers_from 0 k) (sym l ∙ as_many_nodes p)

pub as_many_positions : (p : Program) → length (positions_of p) ≡ program_nodes p
as_many_positions p =
    node-two 0 0 0 (length p.items) (list_nodes p.body) (λ own. items_positions p.items own 0) (λ own. list_positions p.body own 1 0) (λ own. items_counts p.items own 0) (λ own. list_counts p.body own 1 0) 0

-- numbering a tree keeps how many nodes it has
pub spelled_count : (bytes : List ℕ) (p : Program) (s : Spells bytes p) → program_nodes p ≡ program_nodes s.tree
spelled_count bytes p s =
    ap program_nodes s.numbers ∙ (sym (as_many_nodes (numbered_program s.tree)) ∙ (ap length (tree_numbers s.tree) ∙ length-numbers 0 (program_nodes s.tree)))
