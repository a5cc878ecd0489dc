-- Counting and numbering nodes, by the constructors that code sees.
use Rattle.std.proofs.Common.{◌≡◌, ℕ, ◌+◌, min, List, ◌∷◌, refl, sym, ◌∙◌, ap, ap₂, rules, arith}
use mathlib.Core.Former.{Count}
use Rattle.ac_tree.specs.declared.program.Cond.{Cond}
use Rattle.ac_tree.specs.declared.node.Node.{Node}
use Rattle.ac_tree.specs.declared.program.CondKind.{CondKind}
use Rattle.ac_tree.specs.declared.program.CondKind.TheVariants as c
use Rattle.ac_tree.specs.declared.program.RelOp.{RelOp}
use Rattle.ac_tree.specs.declared.program.Expr.{Expr}
use Rattle.ac_tree.specs.declared.program.ExprKind.{ExprKind}
use Rattle.ac_tree.specs.declared.program.ExprKind.TheVariants as e
use Rattle.ac_tree.specs.declared.program.Index.{Index}
use Rattle.ac_tree.specs.declared.program.Index.TheVariants as i
use Rattle.ac_tree.specs.declared.program.Stmt.{Stmt}
use Rattle.ac_tree.specs.declared.program.StmtKind.{StmtKind, the_lemmas as stmt_lemmas, Row_of-Stmt, end_of-Stmt, more_of-Stmt, items-the_row-Stmt}
use Rattle.ac_tree.specs.declared.program.StmtKind.TheVariants as s
use Rattle.ac_tree.specs.Grammar.{NameBytes}
use Rattle.ac_tree.specs.Numbering.{at, expr_nodes, index_nodes, cond_nodes, stmt_nodes, list_nodes, numbered, numbered_index, numbered_expr, numbered_kind, numbered_cond, numbered_stmt, numbered_block, numbered_list}
use Rattle.ac_tree.proofs.AddedNodes.{block_nodes-items}
use Rattle.ac_numbering.specs.Numbers.{greatest, NumbersExpr, NumbersExprKind, NumbersIndex, NumbersCond, NumbersCondKind, NumbersStmt, NumbersStmtKind, NumbersBlock, whole_stmt}
use Rattle.ac_numbering.specs.Opened.{hidden, expr_shape, expr_child, cond_shape, cond_child}
use Rattle.ac_numbering.proofs.NumberSteps.{leaf, one, two, three, same, pair}

pub nodes-Num : (k : ℕ) → expr_nodes (e.Num k) ≡ 1
unfolding hidden expr_shape expr_child
nodes-Num k = refl

pub nodes-Get : (x : NameBytes) → expr_nodes (e.Get x) ≡ 1
unfolding hidden expr_shape expr_child
nodes-Get x = refl

pub nodes-Read : (x : NameBytes) (a : Index) → expr_nodes (e.Read x a) ≡ 1 + index_nodes a
unfolding hidden expr_shape expr_child
nodes-Read x a = refl

pub nodes-Neg : (a : Expr) → expr_nodes (e.Neg a) ≡ 1 + expr_nodes a.kind
unfolding hidden expr_shape expr_child
nodes-Neg a = refl

pub nodes-Add : (a b : Expr) → expr_nodes (e.Add a b) ≡ 1 + expr_nodes a.kind + expr_nodes b.kind
unfolding hidden expr_shape expr_child
nodes-Add a b = refl

pub nodes-Sub : (a b : Expr) → expr_nodes (e.Sub a b) ≡ 1 + expr_nodes a.kind + expr_nodes b.kind
unfolding hidden expr_shape expr_child
nodes-Sub a b = refl

pub nodes-Mul : (a b : Expr) → expr_nodes (e.Mul a b) ≡ 1 + expr_nodes a.kind + expr_nodes b.kind
unfolding hidden expr_shape expr_child
nodes-Mul a b = refl

pub nodes-One : (a : Expr) → index_nodes (i.One a) ≡ expr_nodes a.kind
unfolding hidden expr_shape expr_child
nodes-One a = refl

pub nodes-Two : (a b : Expr) → index_nodes (i.Two a b) ≡ expr_nodes a.kind + expr_nodes b.kind
unfolding hidden expr_shape expr_child
nodes-Two a b = refl

pub nodes-True : cond_nodes c.True ≡ 1
unfolding hidden cond_shape cond_child
nodes-True = refl

pub nodes-False : cond_nodes c.False ≡ 1
unfolding hidden cond_shape cond_child
nodes-False = refl

pub nodes-Rel : (r : RelOp) (a b : Expr) → cond_nodes (c.Rel r a b) ≡ 1 + expr_nodes a.kind + expr_nodes b.kind
unfolding hidden cond_shape cond_child
nodes-Rel r a b = refl

pub nodes-Not : (a : Cond) → cond_nodes (c.Not a) ≡ 1 + cond_nodes a.kind
unfolding hidden cond_shape cond_child
nodes-Not a = refl

pub nodes-And : (a b : Cond) → cond_nodes (c.And a b) ≡ 1 + cond_nodes a.kind + cond_nodes b.kind
unfolding hidden cond_shape cond_child
nodes-And a b = refl

pub nodes-Or : (a b : Cond) → cond_nodes (c.Or a b) ≡ 1 + cond_nodes a.kind + cond_nodes b.kind
unfolding hidden cond_shape cond_child
nodes-Or a b = refl

pub numbered-Num : (n k : ℕ) → numbered n (e.Num k) ≡ e.Num k
unfolding hidden expr_shape expr_child
numbered-Num n k = refl

pub numbered-Get : (n : ℕ) (x : NameBytes) → numbered n (e.Get x) ≡ e.Get x
unfolding hidden expr_shape expr_child
numbered-Get n x = refl

pub numbered-Read : (n : ℕ) (x : NameBytes) (a : Index) → numbered n (e.Read x a) ≡ e.Read x (numbered_index (n + 1) a)
unfolding hidden expr_shape expr_child
numbered-Read n x a = refl

pub numbered-Neg : (n : ℕ) (a : Expr) → numbered n (e.Neg a) ≡ e.Neg (numbered_expr (n + 1) a)
unfolding hidden expr_shape expr_child
numbered-Neg n a = refl

pub numbered-Add : (n : ℕ) (a b : Expr) → numbered n (e.Add a b) ≡ e.Add (numbered_expr (n + 1) a) (numbered_expr (n + 1 + expr_nodes a.kind) b)
unfolding hidden expr_shape expr_child
numbered-Add n a b = refl

pub numbered-Sub : (n : ℕ) (a b : Expr) → numbered n (e.Sub a b) ≡ e.Sub (numbered_expr (n + 1) a) (numbered_expr (n + 1 + expr_nodes a.kind) b)
unfolding hidden expr_shape expr_child
numbered-Sub n a b = refl

pub numbered-Mul : (n : ℕ) (a b : Expr) → numbered n (e.Mul a b) ≡ e.Mul (numbered_expr (n + 1) a) (numbered_expr (n + 1 + expr_nodes a.kind) b)
unfolding hidden expr_shape expr_child
numbered-Mul n a b = refl

pub numbered-One : (n : ℕ) (a : Expr) → numbered_index n (i.One a) ≡ i.One (numbered_expr n a)
unfolding hidden expr_shape expr_child
numbered-One n a = refl

pub numbered-Two : (n : ℕ) (a b : Expr) → numbered_index n (i.Two a b) ≡ i.Two (numbered_expr n a) (numbered_expr (n + expr_nodes a.kind) b)
unfolding hidden expr_shape expr_child
numbered-Two n a b = refl

pub numbered-True : (n : ℕ) → numbered_kind n c.True ≡ c.True
unfolding hidden cond_shape cond_child
numbered-True n = refl

pub numbered-False : (n : ℕ) → numbered_kind n c.False ≡ c.False
unfolding hidden cond_shape cond_child
numbered-False n = refl

pub numbered-Rel : (n : ℕ) (r : RelOp) (a b : Expr) → numbered_kind n (c.Rel r a b) ≡ c.Rel r (numbered_expr (n + 1) a) (numbered_expr (n + 1 + expr_nodes a.kind) b)
unfolding hidden cond_shape cond_child
numbered-Rel n r a b = refl

pub numbered-Not : (n : ℕ) (a : Cond) → numbered_kind n (c.Not a) ≡ c.Not (numbered_cond (n + 1) a)
unfolding hidden cond_shape cond_child
numbered-Not n a = refl

pub numbered-And : (n : ℕ) (a b : Cond) → numbered_kind n (c.And a b) ≡ c.And (numbered_cond (n + 1) a) (numbered_cond (n + 1 + cond_nodes a.kind) b)
unfolding hidden cond_shape cond_child
numbered-And n a b = refl

pub numbered-Or : (n : ℕ) (a b : Cond) → numbered_kind n (c.Or a b) ≡ c.Or (numbered_cond (n + 1) a) (numbered_cond (n + 1 + cond_nodes a.kind) b)
unfolding hidden cond_shape cond_child
numbered-Or n a b = refl

-- a row of statements is a list
pub numbered_block-items : (k : ℕ) (n : Count) (row : Row_of-Stmt n) → numbered_block k row ≡ numbered_list k (items-the_row-Stmt n row)
numbered_block-items k _ end_of-Stmt = refl
numbered_block-items k _ (more_of-Stmt {n = n} m st rest) = ap (λ xs. record { node = at k m; kind = numbered_stmt k st } ∷ xs) (numbered_block-items (k + stmt_nodes st) n rest)

pub nodes-Set : (x : NameBytes) (a : Expr) → stmt_nodes (s.Set x a) ≡ 1 + expr_nodes a.kind
nodes-Set x a = refl

pub nodes-Put : (x : NameBytes) (a : Index) (b : Expr) → stmt_nodes (s.Put x a b) ≡ 1 + index_nodes a + expr_nodes b.kind
nodes-Put x a b = refl

pub nodes-Hand : (x y : NameBytes) → stmt_nodes (s.Hand x y) ≡ 1
nodes-Hand x y = refl

pub nodes-Skip : stmt_nodes s.Skip ≡ 1
nodes-Skip = refl

pub nodes-If : (t : Cond) (xs ys : List Stmt) → stmt_nodes (s.If t xs ys) ≡ 1 + cond_nodes t.kind + list_nodes xs + list_nodes ys
nodes-If t xs ys = first_of (search (rules, stmt_lemmas, block_nodes-items), grind (arith, stmt_lemmas, block_nodes-items))

pub nodes-For : (x : NameBytes) (a b : Expr) (xs : List Stmt) → stmt_nodes (s.For x a b xs) ≡ 1 + expr_nodes a.kind + expr_nodes b.kind + list_nodes xs
nodes-For x a b xs = first_of (search (rules, stmt_lemmas, block_nodes-items), grind (arith, stmt_lemmas, block_nodes-items))

pub nodes-While : (t : Cond) (xs : List Stmt) → stmt_nodes (s.While t xs) ≡ 1 + cond_nodes t.kind + list_nodes xs
nodes-While t xs = first_of (search (rules, stmt_lemmas, block_nodes-items), grind (arith, stmt_lemmas, block_nodes-items))

pub numbered-Set : (n : ℕ) (x : NameBytes) (a : Expr) → numbered_stmt n (s.Set x a) ≡ s.Set x (numbered_expr (n + 1) a)
numbered-Set n x a = refl

pub numbered-Put : (n : ℕ) (x : NameBytes) (a : Index) (b : Expr) → numbered_stmt n (s.Put x a b) ≡ s.Put x (numbered_index (n + 1) a) (numbered_expr (n + 1 + index_nodes a) b)
numbered-Put n x a b = refl

pub numbered-Hand : (n : ℕ) (x y : NameBytes) → numbered_stmt n (s.Hand x y) ≡ s.Hand x y
numbered-Hand n x y = refl

pub numbered-Skip : (n : ℕ) → numbered_stmt n s.Skip ≡ s.Skip
numbered-Skip n = refl

pub numbered-If : (n : ℕ) (t : Cond) (xs ys : List Stmt) → numbered_stmt n (s.If t xs ys) ≡
    s.If (numbered_cond (n + 1) t) (numbered_list (n + 1 + cond_nodes t.kind) xs) (numbered_list (n + 1 + cond_nodes t.kind + list_nodes xs) ys)
numbered-If n t xs ys = first_of (search (rules, stmt_lemmas, block_nodes-items, numbered_block-items), grind (arith, stmt_lemmas, block_nodes-items, numbered_block-items))

pub numbered-For : (n : ℕ) (x : NameBytes) (a b : Expr) (xs : List Stmt) → numbered_stmt n (s.For x a b xs) ≡
    s.For x (numbered_expr (n + 1) a) (numbered_expr (n + 1 + expr_nodes a.kind) b) (numbered_list (n + 1 + expr_nodes a.kind + expr_nodes b.kind) xs)
numbered-For n x a b xs = first_of (search (rules, stmt_lemmas, block_nodes-items, numbered_block-items), grind (arith, stmt_lemmas, block_nodes-items, numbered_block-items))

pub numbered-While : (n : ℕ) (t : Cond) (xs : List Stmt) → numbered_stmt n (s.While t xs) ≡ s.While (numbered_cond (n + 1) t) (numbered_list (n + 1 + cond_nodes t.kind) xs)
numbered-While n t xs = first_of (search (rules, stmt_lemmas, block_nodes-items, numbered_block-items), grind (arith, stmt_lemmas, block_nodes-items, numbered_block-items))

pub add_three : (a b c x y z : ℕ) → a ≡ x → b ≡ y → c ≡ z → 1 + a + b + c ≡ 1 + x + y + z
add_three a b c x y z e f g = ap₂ (λ k l. 1 + k + l + c) e f ∙ ap (λ l. 1 + x + y + l) g

-- what code has numbered of each form

pub num_numbered : (k : ExprKind) (n first second : ℕ) → k ≡ e.Num n → second ≡ min (first + 1) greatest → NumbersExprKind first k (e.Num n, second)
num_numbered k n first second is s = leaf first (expr_nodes k) second (e.Num n) (numbered first k) s (ap expr_nodes is ∙ nodes-Num n) (ap (numbered first) is ∙ numbered-Num first n)

pub get_numbered : (k : ExprKind) (x y : NameBytes) (first second : ℕ) → k ≡ e.Get x → second ≡ min (first + 1) greatest → y ≡ x → NumbersExprKind first k (e.Get y, second)
get_numbered k x y first second is s q =
    leaf first (expr_nodes k) second (e.Get y) (numbered first k) s (ap expr_nodes is ∙ nodes-Get x) (ap (numbered first) is ∙ (numbered-Get first x ∙ ap (λ (w : NameBytes). e.Get w) (sym q)))

pub read_numbered : (k : ExprKind) (x y : NameBytes) (a b : Index) (first second next : ℕ) → k ≡ e.Read x a → second ≡ min (first + 1) greatest → y ≡ x → NumbersIndex second a (b, next) →
    NumbersExprKind first k (e.Read y b, next)
read_numbered k x y a b first second next is s q h =
    one (λ (i : Index). e.Read y i) (λ n. numbered_index n a) first (expr_nodes k) second next (index_nodes a) b (numbered first k) s h (ap expr_nodes is ∙ nodes-Read x a)
    (ap (numbered first) is ∙ (numbered-Read first x a ∙ ap (λ (w : NameBytes). e.Read w (numbered_index (first + 1) a)) (sym q)))

pub neg_numbered : (k : ExprKind) (a b : Expr) (first second next : ℕ) → k ≡ e.Neg a → second ≡ min (first + 1) greatest → NumbersExpr second a (b, next) → NumbersExprKind first k (e.Neg b, next)
neg_numbered k a b first second next is s h =
    one (λ (i : Expr). e.Neg i) (λ n. numbered_expr n a) first (expr_nodes k) second next (expr_nodes a.kind) b (numbered first k) s h (ap expr_nodes is ∙ nodes-Neg a) (ap (numbered first) is ∙ numbered-Neg first a)

pub operation_numbered : (make : Expr → Expr → ExprKind) → ((a b : Expr) → expr_nodes (make a b) ≡ 1 + expr_nodes a.kind + expr_nodes b.kind) →
    ((n : ℕ) (a b : Expr) → numbered n (make a b) ≡ make (numbered_expr (n + 1) a) (numbered_expr (n + 1 + expr_nodes a.kind) b)) →
    (k : ExprKind) (a a' b b' : Expr) (first second third next : ℕ) → k ≡ make a b → second ≡ min (first + 1) greatest →
    NumbersExpr second a (a', third) → NumbersExpr third b (b', next) → NumbersExprKind first k (make a' b', next)
operation_numbered make nodes numbers k a a' b b' first second third next is s h g =
    two make (λ n. numbered_expr n a) (λ n. numbered_expr n b) first (expr_nodes k) second third next (expr_nodes a.kind) (expr_nodes b.kind) a' b' (numbered first k) s h g
    (ap expr_nodes is ∙ nodes a b) (ap (numbered first) is ∙ numbers first a b)

pub one_index_numbered : (k : Index) (a b : Expr) (first next : ℕ) → k ≡ i.One a → NumbersExpr first a (b, next) → NumbersIndex first k (i.One b, next)
one_index_numbered k a b first next is h =
    same (λ (x : Expr). i.One x) first (index_nodes k) next (expr_nodes a.kind) b (numbered_expr first a) (numbered_index first k) h (ap index_nodes is ∙ nodes-One a) (ap (numbered_index first) is ∙ numbered-One first a)

pub two_indexes_numbered : (k : Index) (a a' b b' : Expr) (first second next : ℕ) → k ≡ i.Two a b → NumbersExpr first a (a', second) → NumbersExpr second b (b', next) → NumbersIndex first k (i.Two a' b', next)
two_indexes_numbered k a a' b b' first second next is h g =
    pair (λ (x y : Expr). i.Two x y) (λ n. numbered_expr n b) first (index_nodes k) second next (expr_nodes a.kind) (expr_nodes b.kind) a' (numbered_expr first a) b' (numbered_index first k) h g
    (ap index_nodes is ∙ nodes-Two a b) (ap (numbered_index first) is ∙ numbered-Two first a b)

pub whole_expr_numbered : (x : Expr) (n : Node) (k : ExprKind) (first next : ℕ) → n ≡ at first x.node → NumbersExprKind first x.kind (k, next) → NumbersExpr first x (record { node = n; kind = k }, next)
whole_expr_numbered x n k first next is h =
    same (λ (k : ExprKind). record { node = n; kind = k }) first (expr_nodes x.kind) next (expr_nodes x.kind) k (numbered first x.kind) (numbered_expr first x) h refl
    (ap (λ (n : Node). record { node = n; kind = numbered first x.kind }) (sym is))

pub truth_numbered : (t : CondKind) → cond_nodes t ≡ 1 → ((n : ℕ) → numbered_kind n t ≡ t) → (k : CondKind) (first second : ℕ) → k ≡ t → second ≡ min (first + 1) greatest → NumbersCondKind first k (t, second)
truth_numbered t nodes numbers k first second is s = leaf first (cond_nodes k) second t (numbered_kind first k) s (ap cond_nodes is ∙ nodes) (ap (numbered_kind first) is ∙ numbers first)

pub relation_numbered : (k : CondKind) (r : RelOp) (a a' b b' : Expr) (first second third next : ℕ) → k ≡ c.Rel r a b → second ≡ min (first + 1) greatest →
    NumbersExpr second a (a', third) → NumbersExpr third b (b', next) → NumbersCondKind first k (c.Rel r a' b', next)
relation_numbered k r a a' b b' first second third next is s h g =
    two (λ (x y : Expr). c.Rel r x y) (λ n. numbered_expr n a) (λ n. numbered_expr n b) first (cond_nodes k) second third next (expr_nodes a.kind) (expr_nodes b.kind) a' b' (numbered_kind first k) s h g
    (ap cond_nodes is ∙ nodes-Rel r a b) (ap (numbered_kind first) is ∙ numbered-Rel first r a b)

pub not_numbered : (k : CondKind) (a b : Cond) (first second next : ℕ) → k ≡ c.Not a → second ≡ min (first + 1) greatest → NumbersCond second a (b, next) → NumbersCondKind first k (c.Not b, next)
not_numbered k a b first second next is s h =
    one (λ (x : Cond). c.Not x) (λ n. numbered_cond n a) first (cond_nodes k) second next (cond_nodes a.kind) b (numbered_kind first k) s h (ap cond_nodes is ∙ nodes-Not a) (ap (numbered_kind first) is ∙ numbered-Not first a)

pub connective_numbered : (make : Cond → Cond → CondKind) → ((a b : Cond) → cond_nodes (make a b) ≡ 1 + cond_nodes a.kind + cond_nodes b.kind) →
    ((n : ℕ) (a b : Cond) → numbered_kind n (make a b) ≡ make (numbered_cond (n + 1) a) (numbered_cond (n + 1 + cond_nodes a.kind) b)) →
    (k : CondKind) (a a' b b' : Cond) (first second third next : ℕ) → k ≡ make a b → second ≡ min (first + 1) greatest →
    NumbersCond second a (a', third) → NumbersCond third b (b', next) → NumbersCondKind first k (make a' b', next)
connective_numbered make nodes numbers k a a' b b' first second third next is s h g =
    two make (λ n. numbered_cond n a) (λ n. numbered_cond n b) first (cond_nodes k) second third next (cond_nodes a.kind) (cond_nodes b.kind) a' b' (numbered_kind first k) s h g
    (ap cond_nodes is ∙ nodes a b) (ap (numbered_kind first) is ∙ numbers first a b)

pub whole_cond_numbered : (x : Cond) (n : Node) (k : CondKind) (first next : ℕ) → n ≡ at first x.node → NumbersCondKind first x.kind (k, next) → NumbersCond first x (record { node = n; kind = k }, next)
whole_cond_numbered x n k first next is h =
    same (λ (k : CondKind). record { node = n; kind = k }) first (cond_nodes x.kind) next (cond_nodes x.kind) k (numbered_kind first x.kind) (numbered_cond first x) h refl
    (ap (λ (n : Node). record { node = n; kind = numbered_kind first x.kind }) (sym is))

pub set_numbered : (k : StmtKind) (x y : NameBytes) (a b : Expr) (first second next : ℕ) → k ≡ s.Set x a → second ≡ min (first + 1) greatest → y ≡ x → NumbersExpr second a (b, next) →
    NumbersStmtKind first k (s.Set y b, next)
set_numbered k x y a b first second next is t q h =
    one (λ (z : Expr). s.Set y z) (λ n. numbered_expr n a) first (stmt_nodes k) second next (expr_nodes a.kind) b (numbered_stmt first k) t h (ap stmt_nodes is ∙ nodes-Set x a)
    (ap (numbered_stmt first) is ∙ (numbered-Set first x a ∙ ap (λ (w : NameBytes). s.Set w (numbered_expr (first + 1) a)) (sym q)))

pub put_numbered : (k : StmtKind) (x y : NameBytes) (a a' : Index) (b b' : Expr) (first second third next : ℕ) → k ≡ s.Put x a b → second ≡ min (first + 1) greatest → y ≡ x →
    NumbersIndex second a (a', third) → NumbersExpr third b (b', next) → NumbersStmtKind first k (s.Put y a' b', next)
put_numbered k x y a a' b b' first second third next is t q h g =
    two (λ (i : Index) (z : Expr). s.Put y i z) (λ n. numbered_index n a) (λ n. numbered_expr n b) first (stmt_nodes k) second third next (index_nodes a) (expr_nodes b.kind) a' b' (numbered_stmt first k) t h g
    (ap stmt_nodes is ∙ nodes-Put x a b) (ap (numbered_stmt first) is ∙ (numbered-Put first x a b ∙ ap (λ (w : NameBytes). s.Put w (numbered_index (first + 1) a) (numbered_expr (first + 1 + index_nodes a) b)) (sym q)))

pub if_numbered : (k : StmtKind) (c c' : Cond) (xs xs' ys ys' : List Stmt) (first second third fourth next : ℕ) → k ≡ s.If c xs ys → second ≡ min (first + 1) greatest →
    NumbersCond second c (c', third) → NumbersBlock third xs (xs', fourth) → NumbersBlock fourth ys (ys', next) → NumbersStmtKind first k (s.If c' xs' ys', next)
if_numbered k c c' xs xs' ys ys' first second third fourth next is t h g f =
    three (λ (x : Cond) (y z : List Stmt). s.If x y z) (λ n. numbered_cond n c) (λ n. numbered_list n xs) (λ n. numbered_list n ys) first (stmt_nodes k) second third fourth next
    (cond_nodes c.kind) (list_nodes xs) (list_nodes ys) c' xs' ys' (numbered_stmt first k) t h g f (ap stmt_nodes is ∙ nodes-If c xs ys) (ap (numbered_stmt first) is ∙ numbered-If first c xs ys)

pub for_numbered : (k : StmtKind) (x y : NameBytes) (a a' b b' : Expr) (xs xs' : List Stmt) (first second third fourth next : ℕ) → k ≡ s.For x a b xs → second ≡ min (first + 1) greatest → y ≡ x →
    NumbersExpr second a (a', third) → NumbersExpr third b (b', fourth) → NumbersBlock fourth xs (xs', next) → NumbersStmtKind first k (s.For y a' b' xs', next)
for_numbered k x y a a' b b' xs xs' first second third fourth next is t q h g f =
    three (λ (u v : Expr) (z : List Stmt). s.For y u v z) (λ n. numbered_expr n a) (λ n. numbered_expr n b) (λ n. numbered_list n xs) first (stmt_nodes k) second third fourth next
    (expr_nodes a.kind) (expr_nodes b.kind) (list_nodes xs) a' b' xs' (numbered_stmt first k) t h g f (ap stmt_nodes is ∙ nodes-For x a b xs)
    (ap (numbered_stmt first) is
    ∙ (numbered-For first x a b xs
    ∙ ap (λ (w : NameBytes). s.For w (numbered_expr (first + 1) a) (numbered_expr (first + 1 + expr_nodes a.kind) b) (numbered_list (first + 1 + expr_nodes a.kind + expr_nodes b.kind) xs)) (sym q)))

pub while_numbered : (k : StmtKind) (c c' : Cond) (xs xs' : List Stmt) (first second third next : ℕ) → k ≡ s.While c xs → second ≡ min (first + 1) greatest →
    NumbersCond second c (c', third) → NumbersBlock third xs (xs', next) → NumbersStmtKind first k (s.While c' xs', next)
while_numbered k c c' xs xs' first second third next is t h g =
    two (λ (x : Cond) (y : List Stmt). s.While x y) (λ n. numbered_cond n c) (λ n. numbered_list n xs) first (stmt_nodes k) second third next (cond_nodes c.kind) (list_nodes xs) c' xs' (numbered_stmt first k) t h g
    (ap stmt_nodes is ∙ nodes-While c xs) (ap (numbered_stmt first) is ∙ numbered-While first c xs)

pub hand_numbered : (k : StmtKind) (x x' y y' : NameBytes) (first second : ℕ) → k ≡ s.Hand x y → second ≡ min (first + 1) greatest → x' ≡ x → y' ≡ y → NumbersStmtKind first k (s.Hand x' y', second)
hand_numbered k x x' y y' first second is t q p =
    leaf first (stmt_nodes k) second (s.Hand x' y') (numbered_stmt first k) t (ap stmt_nodes is ∙ nodes-Hand x y)
    (ap (numbered_stmt first) is ∙ (numbered-Hand first x y ∙ (ap (λ (w : NameBytes). s.Hand w y) (sym q) ∙ ap (λ (w : NameBytes). s.Hand x' w) (sym p))))

pub skip_numbered : (k : StmtKind) (first second : ℕ) → k ≡ s.Skip → second ≡ min (first + 1) greatest → NumbersStmtKind first k (s.Skip, second)
skip_numbered k first second is t = leaf first (stmt_nodes k) second s.Skip (numbered_stmt first k) t (ap stmt_nodes is ∙ nodes-Skip) (ap (numbered_stmt first) is ∙ numbered-Skip first)

pub whole_stmt_numbered : (x : Stmt) (n : Node) (k : StmtKind) (first next : ℕ) → n ≡ at first x.node → NumbersStmtKind first x.kind (k, next) → NumbersStmt first x (record { node = n; kind = k }, next)
whole_stmt_numbered x n k first next is h =
    same (λ (k : StmtKind). record { node = n; kind = k }) first (stmt_nodes x.kind) next (stmt_nodes x.kind) k (numbered_stmt first x.kind) (whole_stmt first x) h refl
    (ap (λ (n : Node). record { node = n; kind = numbered_stmt first x.kind }) (sym is))
