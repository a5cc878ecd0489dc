-- What each production adds to the positions, as the code adds it: the node, what is below it, and its last node.
use mathlib.Core.Logic.{inl, inr}
use Rattle.std.proofs.Common.{◌≡◌, ◌⊎◌, ℕ, ◌+◌, ◌-◌, ◌<◌, ◌≤◌, List, [], ◌∷◌, ◌++◌, length, set, get_or, drop, Result, Ok, Err, OnOk, rules, arith, ap, refl, sym, subst, ◌∙◌, append_assoc, length-append, append-nil}
use Rattle.std.proofs.lemmas.List.{set_at, length_push, drop_more, drop_all}
use mathlib.Core.Former.{Count}
use Rattle.ac_tree.specs.declared.node_positions.Position.{Position}
use Rattle.ac_tree.specs.declared.node_positions.Spot.{Spot}
use Rattle.ac_tree.specs.declared.program.Cond.{Cond}
use Rattle.ac_tree.specs.declared.program.CondKind.{CondKind}
use Rattle.ac_tree.specs.declared.program.CondKind.TheVariants as cond
use Rattle.ac_tree.specs.declared.program.Expr.{Expr}
use Rattle.ac_tree.specs.declared.program.ExprKind.{ExprKind}
use Rattle.ac_tree.specs.declared.program.ExprKind.TheVariants as expr
use Rattle.ac_tree.specs.declared.program.Index.{Index}
use Rattle.ac_tree.specs.declared.program.Index.TheVariants as index
use Rattle.ac_tree.specs.declared.program.Item.{Item}
use Rattle.ac_tree.specs.declared.program.Program.{Program}
use Rattle.ac_tree.specs.declared.program.RelOp.{RelOp}
use Rattle.ac_tree.specs.declared.program.Stmt.{Stmt}
use Rattle.ac_tree.specs.declared.program.StmtKind.{StmtKind, the_lemmas as stmt_lemmas, Row_of-Stmt, end_of-Stmt, more_of-Stmt, items-the_row-Stmt}
use Rattle.ac_tree.specs.declared.program.StmtKind.TheVariants as stmt
use Rattle.ac_tree.specs.declared.program.StmtKind.TheVariants.{If', For', While'}
use Rattle.ac_tree.specs.Opened.{hidden, expr_shape, expr_child, cond_shape, cond_child}
use Rattle.ac_tree.specs.Patterns.{Negative, Plus, Minus, Times, Negation, Conjunction, Disjunction}
use Rattle.ac_tree.specs.Numbering.{expr_nodes, index_nodes, cond_nodes, stmt_nodes, block_nodes, list_nodes, program_nodes}
use Rattle.ac_tree.specs.Positions.{Positions, no_node, followed, position, node_at, part_at, below_expr, below_index, below_cond, below_stmt, block_positions, list_positions, items_positions, positions_of}
use Rattle.ac_tree.specs.StaticRules.{index_count}
use Rattle.ac_tree.specs.Added.{Adds, Fills, Opens, Closes, IsNumberOf, at_spot}

-- The steps, whatever is added.

pub on_ok : {T E P Q : Type 0} (r : Result T E) → (P → Q) → OnOk r P → OnOk r Q
on_ok (Ok x) f p = f p
on_ok (Err e) f p = p

pub adds-none : (xs : List Position) → Adds 0 no_node xs xs
adds-none xs = record { count = omega arith; made = λ h. sym (append-nil xs) }

pub adds-followed : (m n : ℕ) (a b : Positions) (xs ys zs : List Position) → Adds m a xs ys → Adds n b ys zs → Adds (m + n) (followed a b) xs zs
unfolding followed
adds-followed m n a b xs ys zs f g = record {
  count = omega arith;
  made = λ (h : length zs ≤ 4294967296).
      let i : length ys ≤ 4294967296 = omega arith in
      let e = f.made i in
      let k : length ys ≡ length xs + length (a (length xs)) = ap length e ∙ length-append xs (a (length xs)) in
      g.made h
      ∙ (ap (λ (ws : List Position). ws ++ b (length ys)) e
      ∙ (append_assoc xs (a (length xs)) (b (length ys))
      ∙ ap (λ j. xs ++ (a (length xs) ++ b j)) k));
}

opened-count : (s : Spot) (own : ℕ) (xs ys : List Position) → Opens s own xs ys → length ys ≡ length xs + 1
opened-count s own xs ys f = ap length f.made ∙ length_push xs (position s.parent s.block s.place own)

pub opened-inside : (nodes : ℕ) (s : Spot) (own : ℕ) (below : Positions) (xs ys zs : List Position) → Opens s own xs ys → Fills nodes below ys zs → own < length zs
opened-inside nodes s own below xs ys zs f g =
    let a = opened-count s own xs ys f in
    let b = f.number.at_most in
    omega arith

closed-at : (own last m : ℕ) (x y : ℕ → Position) (xs below zs : List Position) → own ≡ length xs → zs ≡ (xs ++ x own ∷ []) ++ below → m ≡ last →
    set zs own (y m) ≡ xs ++ y last ∷ below
closed-at own last m x y xs below zs n e k =
    ap (λ (ws : List Position). set ws own (y m)) (e ∙ append_assoc xs (x own ∷ []) below)
    ∙ (set_at xs (x own) below (y m) own (sym n)
    ∙ ap (λ j. xs ++ y j ∷ below) k)

pub adds-node : (nodes : ℕ) (s : Spot) (own : ℕ) (below : ℕ → Positions) (xs ys zs ws : List Position) → 1 ≤ nodes →
    Opens s own xs ys → Fills nodes (below own) ys zs → Closes s own zs ws → Adds nodes (at_spot s below) xs ws
unfolding node_at
adds-node nodes s own below xs ys zs ws some f g h =
    let a = opened-count s own xs ys f in
    let total : length ws ≡ length xs + nodes = omega (arith, g.count, h.count) in
    record {
      count = total;
      made = λ (room : length ws ≤ 4294967296).
          let small : length xs < 4294967296 = omega arith in
          let room_inside : length zs ≤ 4294967296 = omega (arith, h.count) in
          let n = f.number.exact small in
          let inner = below (length xs) (length xs + 1) in
          let e : below own (length ys) ≡ inner = ap (λ j. below j (length ys)) n ∙ ap (λ j. below (length xs) j) a in
          let z : zs ≡ (xs ++ position s.parent s.block s.place own ∷ []) ++ inner =
          g.made room_inside ∙ (ap (λ (us : List Position). us ++ below own (length ys)) f.made ∙ ap (λ (us : List Position). (xs ++ position s.parent s.block s.place own ∷ []) ++ us) e) in
          let b : length zs ≡ length (xs ++ position s.parent s.block s.place own ∷ []) + length inner = ap length z ∙ length-append (xs ++ position s.parent s.block s.place own ∷ []) inner in
          let l : length (xs ++ position s.parent s.block s.place own ∷ []) ≡ length xs + 1 = length_push xs (position s.parent s.block s.place own) in
          let m : length zs - 1 ≡ length xs + length inner = omega arith in
          h.made room_inside
          ∙ closed-at own (length xs + length inner) (length zs - 1) (position s.parent s.block s.place) (position s.parent s.block s.place) xs inner zs n z m;
    }

-- a leaf is there as soon as it is opened
pub adds-leaf : (s : Spot) (own : ℕ) (xs ys : List Position) → Opens s own xs ys → Adds 1 (at_spot s (λ own. no_node)) xs ys
unfolding node_at
adds-leaf s own xs ys f =
    let a = opened-count s own xs ys f in
    record {
      count = a;
      made = λ (room : length ys ≤ 4294967296).
          let small : length xs < 4294967296 = omega arith in
          let n : own ≡ length xs + 0 = omega (arith, f.number.exact small) in
          f.made ∙ ap (λ j. xs ++ position s.parent s.block s.place j ∷ []) n;
    }

fills-none : (xs : List Position) → Fills 1 no_node xs xs
fills-none xs = record { count = omega arith; made = λ h. sym (append-nil xs) }

fills-one : (n : ℕ) (a : Positions) (xs ys : List Position) → Adds n a xs ys → Fills (1 + n) a xs ys
fills-one n a xs ys f = record { count = omega (arith, f.count); made = f.made }

fills-two : (m n : ℕ) (a b : Positions) (xs ys zs : List Position) → Adds m a xs ys → Adds n b ys zs → Fills (1 + m + n) (followed a b) xs zs
fills-two m n a b xs ys zs f g =
    let h = adds-followed m n a b xs ys zs f g in
    record { count = omega (arith, h.count); made = h.made }

fills-three : (l m n : ℕ) (a b c : Positions) (xs ys zs ws : List Position) → Adds l a xs ys → Adds m b ys zs → Adds n c zs ws → Fills (1 + l + m + n) (followed a (followed b c)) xs ws
fills-three l m n a b c xs ys zs ws f g h =
    let k = adds-followed l (m + n) a (followed b c) xs ys ws f (adds-followed m n b c ys zs ws g h) in
    record { count = omega (arith, k.count); made = k.made }

-- The productions of expressions. What a box holds is told beside it, as an equation.

pub one_le-expr_nodes : (k : ExprKind) → 1 ≤ expr_nodes k
unfolding hidden expr_shape expr_child
one_le-expr_nodes (expr.Num n) = omega arith
one_le-expr_nodes (expr.Get x) = omega arith
one_le-expr_nodes (expr.Read x i) = omega arith
one_le-expr_nodes (Negative n a) = omega arith
one_le-expr_nodes (Plus n a m b) = omega arith
one_le-expr_nodes (Minus n a m b) = omega arith
one_le-expr_nodes (Times n a m b) = omega arith

-- the expression or condition at a place of a node
abbrev AddsExpr : ℕ → ℕ → Expr → List Position → List Position → Type 0
AddsExpr own place a = Adds (expr_nodes a.kind) (part_at own place (below_expr a.kind))

abbrev AddsCond : ℕ → ℕ → Cond → List Position → List Position → Type 0
AddsCond own place a = Adds (cond_nodes a.kind) (part_at own place (below_cond a.kind))

module _ (own : ℕ) (xs ys : List Position) where
  pub filled-Num : (n : ℕ) → Fills (expr_nodes (expr.Num n)) (below_expr (expr.Num n) own) xs xs
  unfolding hidden expr_shape expr_child below_expr
  filled-Num n = fills-none xs

  pub filled-Get : (x : List ℕ) → Fills (expr_nodes (expr.Get x)) (below_expr (expr.Get x) own) xs xs
  unfolding hidden expr_shape expr_child below_expr
  filled-Get x = fills-none xs

  pub filled-Read : {T E : Type 0} (r : Result T E) (x : List ℕ) (i : Index) → OnOk r (Adds (index_nodes i) (below_index i own) xs ys) →
      OnOk r (Fills (expr_nodes (expr.Read x i)) (below_expr (expr.Read x i) own) xs ys)
  unfolding hidden expr_shape expr_child below_expr
  filled-Read r x i f = on_ok r (fills-one (index_nodes i) (below_index i own) xs ys) f

  pub filled-Neg : {T E : Type 0} (r : Result T E) (a b : Expr) → a ≡ b → OnOk r (AddsExpr own 0 a xs ys) → OnOk r (Fills (expr_nodes (expr.Neg b)) (below_expr (expr.Neg b) own) xs ys)
  unfolding hidden expr_shape expr_child below_expr
  filled-Neg r a b e f =
      on_ok r (fills-one (expr_nodes b.kind) (part_at own 0 (below_expr b.kind)) xs ys) (subst (λ (x : Expr). OnOk r (AddsExpr own 0 x xs ys)) e f)

  pub added-One : {T E : Type 0} (r : Result T E) (a b : Expr) → a ≡ b → OnOk r (AddsExpr own 0 a xs ys) → OnOk r (Adds (index_nodes (index.One b)) (below_index (index.One b) own) xs ys)
  unfolding hidden expr_shape expr_child below_expr
  added-One r a b e f = subst (λ (x : Expr). OnOk r (AddsExpr own 0 x xs ys)) e f

module _ {T E : Type 0} (r : Result T E) (own : ℕ) (xs ys zs : List Position) (a b c d : Expr) where
  two_exprs : a ≡ c → b ≡ d → AddsExpr own 0 a xs ys → OnOk r (AddsExpr own 1 b ys zs) →
      OnOk r (Fills (1 + expr_nodes c.kind + expr_nodes d.kind) (followed (part_at own 0 (below_expr c.kind)) (part_at own 1 (below_expr d.kind))) xs zs)
  two_exprs e k f g =
      on_ok r
      (fills-two (expr_nodes c.kind) (expr_nodes d.kind) (part_at own 0 (below_expr c.kind)) (part_at own 1 (below_expr d.kind)) xs ys zs
      (subst (λ (x : Expr). AddsExpr own 0 x xs ys) e f))
      (subst (λ (x : Expr). OnOk r (AddsExpr own 1 x ys zs)) k g)

  pub filled-Add : a ≡ c → b ≡ d → AddsExpr own 0 a xs ys → OnOk r (AddsExpr own 1 b ys zs) → OnOk r (Fills (expr_nodes (expr.Add c d)) (below_expr (expr.Add c d) own) xs zs)
  unfolding hidden expr_shape expr_child below_expr
  filled-Add e k f g = two_exprs e k f g

  pub filled-Sub : a ≡ c → b ≡ d → AddsExpr own 0 a xs ys → OnOk r (AddsExpr own 1 b ys zs) → OnOk r (Fills (expr_nodes (expr.Sub c d)) (below_expr (expr.Sub c d) own) xs zs)
  unfolding hidden expr_shape expr_child below_expr
  filled-Sub e k f g = two_exprs e k f g

  pub filled-Mul : a ≡ c → b ≡ d → AddsExpr own 0 a xs ys → OnOk r (AddsExpr own 1 b ys zs) → OnOk r (Fills (expr_nodes (expr.Mul c d)) (below_expr (expr.Mul c d) own) xs zs)
  unfolding hidden expr_shape expr_child below_expr
  filled-Mul e k f g = two_exprs e k f g

  pub filled-binary : (k : ExprKind) → (k ≡ expr.Add c d) ⊎ ((k ≡ expr.Sub c d) ⊎ (k ≡ expr.Mul c d)) → a ≡ c → b ≡ d → AddsExpr own 0 a xs ys → OnOk r (AddsExpr own 1 b ys zs) →
      OnOk r (Fills (expr_nodes k) (below_expr k own) xs zs)
  filled-binary k w e m f g = elim w [
    | inl p ↦ rw p (filled-Add e m f g)
    | inr v ↦ elim v [ inl p ↦ rw p (filled-Sub e m f g) | inr p ↦ rw p (filled-Mul e m f g) ]
  ]

  pub added-Two : a ≡ c → b ≡ d → AddsExpr own 0 a xs ys → OnOk r (AddsExpr own 1 b ys zs) → OnOk r (Adds (index_nodes (index.Two c d)) (below_index (index.Two c d) own) xs zs)
  unfolding hidden expr_shape expr_child below_expr
  added-Two e k f g =
      on_ok r
      (adds-followed (expr_nodes c.kind) (expr_nodes d.kind) (part_at own 0 (below_expr c.kind)) (part_at own 1 (below_expr d.kind)) xs ys zs
      (subst (λ (x : Expr). AddsExpr own 0 x xs ys) e f))
      (subst (λ (x : Expr). OnOk r (AddsExpr own 1 x ys zs)) k g)

  pub filled-Rel : (o : RelOp) → a ≡ c → b ≡ d → AddsExpr own 0 a xs ys → OnOk r (AddsExpr own 1 b ys zs) → OnOk r (Fills (cond_nodes (cond.Rel o c d)) (below_cond (cond.Rel o c d) own) xs zs)
  unfolding hidden cond_shape cond_child below_cond
  filled-Rel o e k f g = two_exprs e k f g

-- The productions of conditions.

pub one_le-cond_nodes : (k : CondKind) → 1 ≤ cond_nodes k
unfolding hidden cond_shape cond_child
one_le-cond_nodes cond.True = omega arith
one_le-cond_nodes cond.False = omega arith
one_le-cond_nodes (cond.Rel o a b) = omega arith
one_le-cond_nodes (Negation n c) = omega arith
one_le-cond_nodes (Conjunction n c m d) = omega arith
one_le-cond_nodes (Disjunction n c m d) = omega arith

module _ (own : ℕ) (xs ys : List Position) where
  pub filled-True : Fills (cond_nodes cond.True) (below_cond cond.True own) xs xs
  unfolding hidden cond_shape cond_child below_cond
  filled-True = fills-none xs

  pub filled-False : Fills (cond_nodes cond.False) (below_cond cond.False own) xs xs
  unfolding hidden cond_shape cond_child below_cond
  filled-False = fills-none xs

  pub filled-Not : {T E : Type 0} (r : Result T E) (a b : Cond) → a ≡ b → OnOk r (AddsCond own 0 a xs ys) → OnOk r (Fills (cond_nodes (cond.Not b)) (below_cond (cond.Not b) own) xs ys)
  unfolding hidden cond_shape cond_child below_cond
  filled-Not r a b e f =
      on_ok r (fills-one (cond_nodes b.kind) (part_at own 0 (below_cond b.kind)) xs ys) (subst (λ (x : Cond). OnOk r (AddsCond own 0 x xs ys)) e f)

module _ {T E : Type 0} (r : Result T E) (own : ℕ) (xs ys zs : List Position) (a b c d : Cond) where
  two_conds : a ≡ c → b ≡ d → AddsCond own 0 a xs ys → OnOk r (AddsCond own 1 b ys zs) →
      OnOk r (Fills (1 + cond_nodes c.kind + cond_nodes d.kind) (followed (part_at own 0 (below_cond c.kind)) (part_at own 1 (below_cond d.kind))) xs zs)
  two_conds e k f g =
      on_ok r
      (fills-two (cond_nodes c.kind) (cond_nodes d.kind) (part_at own 0 (below_cond c.kind)) (part_at own 1 (below_cond d.kind)) xs ys zs
      (subst (λ (x : Cond). AddsCond own 0 x xs ys) e f))
      (subst (λ (x : Cond). OnOk r (AddsCond own 1 x ys zs)) k g)

  pub filled-And : a ≡ c → b ≡ d → AddsCond own 0 a xs ys → OnOk r (AddsCond own 1 b ys zs) → OnOk r (Fills (cond_nodes (cond.And c d)) (below_cond (cond.And c d) own) xs zs)
  unfolding hidden cond_shape cond_child below_cond
  filled-And e k f g = two_conds e k f g

  pub filled-Or : a ≡ c → b ≡ d → AddsCond own 0 a xs ys → OnOk r (AddsCond own 1 b ys zs) → OnOk r (Fills (cond_nodes (cond.Or c d)) (below_cond (cond.Or c d) own) xs zs)
  unfolding hidden cond_shape cond_child below_cond
  filled-Or e k f g = two_conds e k f g

  pub filled-connective : (k : CondKind) → (k ≡ cond.And c d) ⊎ (k ≡ cond.Or c d) → a ≡ c → b ≡ d → AddsCond own 0 a xs ys → OnOk r (AddsCond own 1 b ys zs) →
      OnOk r (Fills (cond_nodes k) (below_cond k own) xs zs)
  filled-connective k w e m f g = elim w [ inl p ↦ rw p (filled-And e m f g) | inr p ↦ rw p (filled-Or e m f g) ]

-- The productions of statements. Blocks are lists, and rows of statements as well.

pub block_nodes-items : (n : Count) (row : Row_of-Stmt n) → block_nodes row ≡ list_nodes (items-the_row-Stmt n row)
block_nodes-items _ end_of-Stmt = refl
block_nodes-items _ (more_of-Stmt {n = n} at x rest) = ap (λ k. stmt_nodes x + k) (block_nodes-items n rest)

block_positions-items : (n : Count) (row : Row_of-Stmt n) (parent block place : ℕ) → block_positions row parent block place ≡ list_positions (items-the_row-Stmt n row) parent block place
unfolding below_stmt list_positions
block_positions-items _ end_of-Stmt parent block place = refl
block_positions-items _ (more_of-Stmt {n = n} at x rest) parent block place =
    ap (λ (p : Positions). followed (node_at parent block place (below_stmt x)) p) (block_positions-items n rest parent block (place + 1))

pub one_le-stmt_nodes : (k : StmtKind) → 1 ≤ stmt_nodes k
one_le-stmt_nodes (stmt.Set x a) = omega arith
one_le-stmt_nodes (stmt.Put x i a) = omega arith
one_le-stmt_nodes (If' c _ xs _ ys) = omega arith
one_le-stmt_nodes (For' x a b _ xs) = omega arith
one_le-stmt_nodes (While' c _ xs) = omega arith
one_le-stmt_nodes (stmt.Hand x y) = omega arith
one_le-stmt_nodes stmt.Skip = omega arith

pub stmt_nodes-If : (c : Cond) (xs ys : List Stmt) → stmt_nodes (stmt.If c xs ys) ≡ 1 + cond_nodes c.kind + list_nodes xs + list_nodes ys
stmt_nodes-If c xs ys = first_of (search (rules, stmt_lemmas, block_nodes-items), grind (arith, stmt_lemmas, block_nodes-items))

pub stmt_nodes-For : (x : List ℕ) (a b : Expr) (xs : List Stmt) → stmt_nodes (stmt.For x a b xs) ≡ 1 + expr_nodes a.kind + expr_nodes b.kind + list_nodes xs
stmt_nodes-For x a b xs = first_of (search (rules, stmt_lemmas, block_nodes-items), grind (arith, stmt_lemmas, block_nodes-items))

pub stmt_nodes-While : (c : Cond) (xs : List Stmt) → stmt_nodes (stmt.While c xs) ≡ 1 + cond_nodes c.kind + list_nodes xs
stmt_nodes-While c xs = first_of (search (rules, stmt_lemmas, block_nodes-items), grind (arith, stmt_lemmas, block_nodes-items))

pub below_stmt-If : (c : Cond) (xs ys : List Stmt) (own : ℕ) →
    below_stmt (stmt.If c xs ys) own ≡ followed (part_at own 0 (below_cond c.kind)) (followed (list_positions xs own 1 0) (list_positions ys own 2 0))
unfolding below_stmt
below_stmt-If c xs ys own = first_of (search (rules, stmt_lemmas, block_positions-items), grind (arith, stmt_lemmas, block_positions-items))

pub below_stmt-For : (x : List ℕ) (a b : Expr) (xs : List Stmt) (own : ℕ) →
    below_stmt (stmt.For x a b xs) own ≡ followed (part_at own 0 (below_expr a.kind)) (followed (part_at own 1 (below_expr b.kind)) (list_positions xs own 1 0))
unfolding below_stmt
below_stmt-For x a b xs own = first_of (search (rules, stmt_lemmas, block_positions-items), grind (arith, stmt_lemmas, block_positions-items))

pub below_stmt-While : (c : Cond) (xs : List Stmt) (own : ℕ) → below_stmt (stmt.While c xs) own ≡ followed (part_at own 0 (below_cond c.kind)) (list_positions xs own 1 0)
unfolding below_stmt
below_stmt-While c xs own = first_of (search (rules, stmt_lemmas, block_positions-items), grind (arith, stmt_lemmas, block_positions-items))

-- the statements of a list of a node
abbrev AddsList : ℕ → ℕ → List Stmt → List Position → List Position → Type 0
AddsList own block xs = Adds (list_nodes xs) (list_positions xs own block 0)

fills-as : (m n : ℕ) (a b : Positions) (xs ys : List Position) → m ≡ n → a ≡ b → Fills n b xs ys → Fills m a xs ys
fills-as m n a b xs ys e k f = subst (λ j. Fills j a xs ys) (sym e) (subst (λ (p : Positions). Fills n p xs ys) (sym k) f)

module _ {T E : Type 0} (r : Result T E) (own : ℕ) (xs ys zs ws : List Position) where
  pub filled-Set : (x : List ℕ) (a : Expr) → OnOk r (AddsExpr own 0 a xs ys) → OnOk r (Fills (stmt_nodes (stmt.Set x a)) (below_stmt (stmt.Set x a) own) xs ys)
  unfolding below_stmt
  filled-Set x a f = on_ok r (fills-one (expr_nodes a.kind) (part_at own 0 (below_expr a.kind)) xs ys) f

  pub filled-Put : (x : List ℕ) (i : Index) (a : Expr) (place : ℕ) → place ≡ index_count i → Adds (index_nodes i) (below_index i own) xs ys → OnOk r (AddsExpr own place a ys zs) →
      OnOk r (Fills (stmt_nodes (stmt.Put x i a)) (below_stmt (stmt.Put x i a) own) xs zs)
  unfolding below_stmt
  filled-Put x i a place e f g =
      on_ok r (fills-two (index_nodes i) (expr_nodes a.kind) (below_index i own) (part_at own (index_count i) (below_expr a.kind)) xs ys zs f)
      (subst (λ k. OnOk r (AddsExpr own k a ys zs)) e g)

  pub filled-While : (c : Cond) (b s : List Stmt) → s ≡ b → AddsCond own 0 c xs ys → OnOk r (AddsList own 1 s ys zs) →
      OnOk r (Fills (stmt_nodes (stmt.While c b)) (below_stmt (stmt.While c b) own) xs zs)
  filled-While c b s e f g =
      on_ok r
      (λ h. fills-as _ _ _ _ xs zs (stmt_nodes-While c b) (below_stmt-While c b own)
      (fills-two (cond_nodes c.kind) (list_nodes b) (part_at own 0 (below_cond c.kind)) (list_positions b own 1 0) xs ys zs f h))
      (subst (λ (u : List Stmt). OnOk r (AddsList own 1 u ys zs)) e g)

  pub filled-If : (c : Cond) (b d s t : List Stmt) → s ≡ b → t ≡ d → AddsCond own 0 c xs ys → AddsList own 1 s ys zs → OnOk r (AddsList own 2 t zs ws) →
      OnOk r (Fills (stmt_nodes (stmt.If c b d)) (below_stmt (stmt.If c b d) own) xs ws)
  filled-If c b d s t e k f g h =
      on_ok r
      (λ j. fills-as _ _ _ _ xs ws (stmt_nodes-If c b d) (below_stmt-If c b d own)
      (fills-three (cond_nodes c.kind) (list_nodes b) (list_nodes d) (part_at own 0 (below_cond c.kind)) (list_positions b own 1 0) (list_positions d own 2 0) xs ys zs ws f
      (subst (λ (u : List Stmt). AddsList own 1 u ys zs) e g) j))
      (subst (λ (u : List Stmt). OnOk r (AddsList own 2 u zs ws)) k h)

  pub filled-For : (x : List ℕ) (a b : Expr) (d s : List Stmt) → s ≡ d → AddsExpr own 0 a xs ys → AddsExpr own 1 b ys zs → OnOk r (AddsList own 1 s zs ws) →
      OnOk r (Fills (stmt_nodes (stmt.For x a b d)) (below_stmt (stmt.For x a b d) own) xs ws)
  filled-For x a b d s e f g h =
      on_ok r
      (λ j. fills-as _ _ _ _ xs ws (stmt_nodes-For x a b d) (below_stmt-For x a b d own)
      (fills-three (expr_nodes a.kind) (expr_nodes b.kind) (list_nodes d) (part_at own 0 (below_expr a.kind)) (part_at own 1 (below_expr b.kind)) (list_positions d own 1 0) xs ys zs ws f g j))
      (subst (λ (u : List Stmt). OnOk r (AddsList own 1 u zs ws)) e h)

module _ (own : ℕ) (xs : List Position) where
  pub filled-Hand : (x y : List ℕ) → Fills (stmt_nodes (stmt.Hand x y)) (below_stmt (stmt.Hand x y) own) xs xs
  unfolding below_stmt
  filled-Hand x y = fills-none xs

  pub filled-Skip : Fills (stmt_nodes stmt.Skip) (below_stmt stmt.Skip own) xs xs
  unfolding below_stmt
  filled-Skip = fills-none xs

-- Lists, from a place on.

-- what is left of a block adds to what is found, and so does the whole to what was found before
pub record BlockLeft (all rest : List Stmt) (parent block place : ℕ) (before found : List Position) : Type 0 where
  pub room : place ≤ length found
  pub left : (after : List Position) → Adds (list_nodes rest) (list_positions rest parent block place) found after → Adds (list_nodes all) (list_positions all parent block 0) before after

block-one : (xs : List Stmt) (parent block place number : ℕ) (s : Stmt) (rest : List Stmt) (us vs ws : List Position) → xs ≡ s ∷ rest → IsNumberOf place number → place ≤ length us →
    Adds (stmt_nodes s.kind) (node_at parent block number (below_stmt s.kind)) us vs → Adds (list_nodes rest) (list_positions rest parent block (place + 1)) vs ws →
    Adds (list_nodes xs) (list_positions xs parent block place) us ws
unfolding list_positions
block-one xs parent block place number s rest us vs ws e n h f g =
    let some = one_le-stmt_nodes s.kind in
    subst (λ (b : List Stmt). Adds (list_nodes b) (list_positions b parent block place) us ws) (sym e)
    (record {
      count = omega (arith, f.count, g.count);
      made = λ (room : length ws ≤ 4294967296).
          let small : place < 4294967296 = omega (arith, f.count, g.count) in
          let moved = subst (λ k. Adds (stmt_nodes s.kind) (node_at parent block k (below_stmt s.kind)) us vs) (n.exact small) f in
          (adds-followed (stmt_nodes s.kind) (list_nodes rest) (node_at parent block place (below_stmt s.kind)) (list_positions rest parent block (place + 1)) us vs ws moved g).made room;
    })

pub block-begins : (xs : List Stmt) (parent block : ℕ) (us : List Position) → BlockLeft xs (drop 0 xs) parent block 0 us us
block-begins xs parent block us = record { room = omega arith; left = λ after f. f }

pub block-step : (xs : List Stmt) (i : ℕ) (s : Stmt) (parent block number : ℕ) (before us vs : List Position) → i < length xs → s ≡ get_or xs i s → IsNumberOf i number →
    BlockLeft xs (drop i xs) parent block i before us → Adds (stmt_nodes s.kind) (node_at parent block number (below_stmt s.kind)) us vs →
    BlockLeft xs (drop (i + 1) xs) parent block (i + 1) before vs
block-step xs i s parent block number before us vs h e n l f =
    let some = one_le-stmt_nodes s.kind in
    let head : drop i xs ≡ s ∷ drop (i + 1) xs = drop_more xs i s h ∙ ap (λ (x : Stmt). x ∷ drop (i + 1) xs) (sym e) in
    record {
      room = omega (arith, f.count, l.room);
      left = λ after g. l.left after (block-one (drop i xs) parent block i number s (drop (i + 1) xs) us vs after head n l.room f g);
    }

pub block-end : (xs : List Stmt) (i parent block : ℕ) (before us : List Position) → length xs ≤ i → BlockLeft xs (drop i xs) parent block i before us → AddsList parent block xs before us
unfolding list_positions
block-end xs i parent block before us h l =
    l.left us (subst (λ (b : List Stmt). Adds (list_nodes b) (list_positions b parent block i) us us) (sym (drop_all i xs h)) (adds-none us))

pub record ItemsLeft (all rest : List Item) (parent place : ℕ) (before found : List Position) : Type 0 where
  pub room : place ≤ length found
  pub left : (after : List Position) → Adds (length rest) (items_positions rest parent place) found after → Adds (length all) (items_positions all parent 0) before after

items-one : (xs : List Item) (parent place number : ℕ) (d : Item) (rest : List Item) (own : ℕ) (us vs ws : List Position) → xs ≡ d ∷ rest → IsNumberOf place number → place ≤ length us →
    Opens (record { parent = parent; block = 0; place = number }) own us vs → Adds (length rest) (items_positions rest parent (place + 1)) vs ws → Adds (length xs) (items_positions xs parent place) us ws
unfolding items_positions
items-one xs parent place number d rest own us vs ws e n h o g =
    let f = adds-leaf (record { parent = parent; block = 0; place = number }) own us vs o in
    subst (λ (b : List Item). Adds (length b) (items_positions b parent place) us ws) (sym e)
    (record {
      count = omega (arith, f.count, g.count);
      made = λ (room : length ws ≤ 4294967296).
          let small : place < 4294967296 = omega (arith, f.count, g.count) in
          let moved = subst (λ k. Adds 1 (node_at parent 0 k (λ own. no_node)) us vs) (n.exact small) f in
          (adds-followed 1 (length rest) (part_at parent place (λ own. no_node)) (items_positions rest parent (place + 1)) us vs ws moved g).made room;
    })

pub items-begin : (xs : List Item) (parent : ℕ) (us : List Position) → ItemsLeft xs (drop 0 xs) parent 0 us us
items-begin xs parent us = record { room = omega arith; left = λ after f. f }

item_at : (xs : List Item) (i : ℕ) → i < length xs → (d : Item) × (drop i xs ≡ d ∷ drop (i + 1) xs)
item_at [] i h = absurd (omega arith)
item_at (x ∷ xs) i h = (get_or (x ∷ xs) i x, drop_more (x ∷ xs) i x h)

pub items-step : (xs : List Item) (i parent number own : ℕ) (before us vs : List Position) → i < length xs → IsNumberOf i number →
    ItemsLeft xs (drop i xs) parent i before us → Opens (record { parent = parent; block = 0; place = number }) own us vs → ItemsLeft xs (drop (i + 1) xs) parent (i + 1) before vs
items-step xs i parent number own before us vs h n l o =
    let f = opened-count (record { parent = parent; block = 0; place = number }) own us vs o in
    let d = item_at xs i h in
    record {
      room = omega (arith, l.room);
      left = λ after g. l.left after (items-one (drop i xs) parent i number d.0 (drop (i + 1) xs) own us vs after d.1 n l.room o g);
    }

pub items-end : (xs : List Item) (i parent : ℕ) (before us : List Position) → length xs ≤ i → ItemsLeft xs (drop i xs) parent i before us → Adds (length xs) (items_positions xs parent 0) before us
unfolding items_positions
items-end xs i parent before us h l = l.left us (subst (λ (b : List Item). Adds (length b) (items_positions b parent i) us us) (sym (drop_all i xs h)) (adds-none us))

-- The program.

program-at : (p : Program) (own : ℕ) (ys zs us ws : List Position) → program_nodes p < 4294967296 → Opens (record { parent = 0; block = 0; place = 0 }) own [] ys →
    Adds (length p.items) (items_positions p.items own 0) ys zs → AddsList own 1 p.body zs us → Closes (record { parent = 0; block = 0; place = 0 }) own us ws → ws ≡ positions_of p
program-at p own ys zs us ws h o f g c =
    let inner = fills-two (length p.items) (list_nodes p.body) (items_positions p.items own 0) (list_positions p.body own 1 0) ys zs us f g in
    let all = adds-node (program_nodes p) (record { parent = 0; block = 0; place = 0 }) own (λ own. followed (items_positions p.items own 0) (list_positions p.body own 1 0)) [] ys us ws (omega arith) o inner c in
    all.made (omega (arith, all.count))

-- what code has as slices is what the program holds
pub program-positions : (p : Program) (own : ℕ) (items : List Item) (body : List Stmt) (xs ys zs us ws : List Position) → program_nodes p < 4294967296 → xs ≡ [] → items ≡ p.items → body ≡ p.body →
    Opens (record { parent = 0; block = 0; place = 0 }) own xs ys → Adds (length items) (items_positions items own 0) ys zs → AddsList own 1 body zs us →
    Closes (record { parent = 0; block = 0; place = 0 }) own us ws → ws ≡ positions_of p
program-positions p own items body xs ys zs us ws h n d b o f g c =
    program-at p own ys zs us ws h
    (subst (λ (v : List Position). Opens (record { parent = 0; block = 0; place = 0 }) own v ys) n o)
    (subst (λ (v : List Item). Adds (length v) (items_positions v own 0) ys zs) d f)
    (subst (λ (v : List Stmt). AddsList own 1 v zs us) b g)
    c
