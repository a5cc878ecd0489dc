-- The static rules and the fit of a start give each name its rank, each assigned name its cells, and each `for` its protected
-- names: one recursion over the faults of statements, of which there are none.
use Rattle.std.proofs.Common.{◌≡◌, ℕ, ◌+◌, ◌*◌, ◌<◌, ℤ, nat_abs, nat_eq, List, [], ◌∷◌, ◌++◌, Bool, true, false, not, ◌||◌, ◌&&◌, Option, Some, None, refl, sym, ◌∙◌, ap, subst, bytes_eq, arith, length}
use Rattle.std.proofs.lemmas.Bool.{false≢true, true≢false}
use Rattle.std.proofs.lemmas.Slice.Eq.{bytes_eq-Decides}
use Rattle.ac_tree.specs.declared.node.NodeId.{NodeId}
use Rattle.ac_tree.specs.declared.program.CondKind.{CondKind}
use Rattle.ac_tree.specs.declared.program.CondKind.TheVariants.{True, False, Rel}
use Rattle.ac_tree.specs.declared.program.ExprKind.{ExprKind}
use Rattle.ac_tree.specs.declared.program.ExprKind.TheVariants.{Num, Get, Read}
use Rattle.ac_tree.specs.declared.program.Extents.TheVariants.{One, Two}
use Rattle.ac_tree.specs.declared.program.Index.{Index}
use Rattle.ac_tree.specs.declared.program.ItemKind.{ItemKind}
use Rattle.ac_tree.specs.declared.program.ItemKind.TheVariants.{Const, InputScalar, InputArray, VarScalar, VarArray}
use Rattle.ac_tree.specs.declared.program.Program.{Program}
use Rattle.ac_tree.specs.declared.program.Stmt.{Stmt}
use Rattle.ac_tree.specs.declared.program.StmtKind.{StmtKind, Row_of-Stmt, end_of-Stmt, more_of-Stmt, Set, Put, If', For', While', Hand, Skip}
use Rattle.ac_tree.specs.Patterns.{Negative, Plus, Minus, Times, OneIndex, TwoIndexes, Negation, Conjunction, Disjunction}
use Rattle.ac_tree.specs.StaticRules.{KeepsStaticRules, Loop, broken, rank, is_constant, is_scalar_var, items_faults, index_tests, use_tests, index_count, expr_faults, index_faults, cond_faults, reads, reads_index, is_loop_variable, is_loop_bound, set_tests, for_tests, stmt_faults, block_faults, list_faults}
use Rattle.ac_tree.specs.StaticRules as rule
use Rattle.ac_run.specs.declared.start.Start.{Start}
use Rattle.ac_run.specs.Declarations.{NameBytes, Shape, Scalar, Vector, Matrix, kind_of, numbers_in, is_input_kind, shape, shape_in}
use Rattle.ac_run.specs.Memory.{is_within, is_below, is_missing, place, place_in}
use Rattle.ac_run.specs.Start.{count, Fits, is_held}
use Rattle.ac_policy.specs.FittingStart.{numbers-fit, front-nil, back-nil}
use Rattle.ac_policy.specs.State.{IsScalar, cell}
use Rattle.ac_soundness.proofs.Writes.{below_is, and_both}
use Rattle.ac_soundness.specs.Opened.{hidden, expr_shape, expr_child, cond_shape, cond_child}
use Rattle.ac_soundness.specs.Ranked.{HasIndexes, Ranked, RankedIndex, RankedCond, Assigned, NotIn, read_names, index_names, RankedStmt, RankedBlock, RankedList}

-- no test found anything
abbrev Passed : List (ℕ × Bool) → Type 0
Passed [] = Unit {0}
Passed ((rule, b) ∷ tests) = (b ≡ false) × Passed tests

passed : (at : NodeId) (tests : List (ℕ × Bool)) → broken at tests ≡ [] → Passed tests
passed at [] h = tt
passed at ((rule, true) ∷ tests) h = cc
passed at ((rule, false) ∷ tests) h = (refl, passed at tests h)

neither : (a b : Bool) → (a || b) ≡ false → (a ≡ false) × (b ≡ false)
neither true b h = absurd (false≢true (sym h))
neither false b h = (refl, h)

-- what is compared with the names
flipped : (x y : NameBytes) → bytes_eq y x ≡ false → bytes_eq x y ≡ false
flipped x y h = by (bytes_eq x y) refl
  where
    by : (b : Bool) → bytes_eq x y ≡ b → b ≡ false
    by false e = refl
    by true e = absurd (false≢true (sym h ∙ (bytes_eq-Decides y x).1 (sym ((bytes_eq-Decides x y).0 e))))

not_in-join : (z : NameBytes) (xs ys : List NameBytes) → NotIn z xs → NotIn z ys → NotIn z (xs ++ ys)
not_in-join z [] ys h k = k
not_in-join z (x ∷ xs) ys h k = (h.0, not_in-join z xs ys h.1 k)

mutual
  unfolding hidden expr_shape expr_child

  unread : (x : NameBytes) (e : ExprKind) → reads x e ≡ false → NotIn x (read_names e)
  unread x (Num n) h = tt
  unread x (Get y) h = (flipped x y h, tt)
  unread x (Read y i) h = let k = neither (bytes_eq y x) (reads_index x i) h in (flipped x y k.0, unread_index x i k.1)
  unread x (Negative n a) h = unread x a h
  unread x (Plus n a m b) h = let k = neither (reads x a) (reads x b) h in not_in-join x (read_names a) (read_names b) (unread x a k.0) (unread x b k.1)
  unread x (Minus n a m b) h = let k = neither (reads x a) (reads x b) h in not_in-join x (read_names a) (read_names b) (unread x a k.0) (unread x b k.1)
  unread x (Times n a m b) h = let k = neither (reads x a) (reads x b) h in not_in-join x (read_names a) (read_names b) (unread x a k.0) (unread x b k.1)

  unread_index : (x : NameBytes) (i : Index) → reads_index x i ≡ false → NotIn x (index_names i)
  unread_index x (OneIndex n a) h = unread x a h
  unread_index x (TwoIndexes n a m b) h = let k = neither (reads x a) (reads x b) h in not_in-join x (read_names a) (read_names b) (unread x a k.0) (unread x b k.1)

-- the names that the loops around a statement protect
abbrev protected : List Loop → List NameBytes
protected [] = []
protected (l ∷ ls) = l.variable ∷ ((read_names l.low ++ read_names l.high) ++ protected ls)

free_name : (x : NameBytes) (ls : List Loop) → is_loop_variable ls x ≡ false → is_loop_bound ls x ≡ false → NotIn x (protected ls)
free_name x [] h k = tt
free_name x (l ∷ ls) h k =
    let a = neither (bytes_eq l.variable x) (is_loop_variable ls x) h in
    let b = neither (reads x l.low || reads x l.high) (is_loop_bound ls x) k in
    let c = neither (reads x l.low) (reads x l.high) b.0 in (
      flipped x l.variable a.0,
      not_in-join x (read_names l.low ++ read_names l.high) (protected ls) (not_in-join x (read_names l.low) (read_names l.high) (unread x l.low c.0) (unread x l.high c.1)) (free_name x ls a.1 b.1),
    )

small : (i j n m : ℕ) → i < n → j < m → i * m + j < n * m
small i j n m h k = grind (arith, h, k)

pub inside_place : (k : Shape) (i j : ℤ) → is_within k i j ≡ true → place_in k (nat_abs i) (nat_abs j) < count k
inside_place Scalar i j h = omega arith
inside_place (Vector n) i j h = (below_is i n (and_both (is_below i n) (is_missing j) h).0).1
inside_place (Matrix n m) i j h =
    let a = and_both (is_below i n) (is_below j m) h in
    small (nat_abs i) (nat_abs j) n m (below_is i n a.0).1 (below_is j m a.1).1

module _ (p : Program) (start : Start) where
  scalar_by : (k : ItemKind) → (not (nat_eq (rank k) 0) && not (nat_eq 0 (rank k))) ≡ false → IsScalar (shape_in p start (Some k))
  scalar_by (Const v) h = tt
  scalar_by (InputScalar lo hi) h = tt
  scalar_by VarScalar h = tt
  scalar_by (InputArray (One e) lo hi) h = absurd (true≢false h)
  scalar_by (InputArray (Two e f) lo hi) h = absurd (true≢false h)
  scalar_by (VarArray (One e)) h = absurd (true≢false h)
  scalar_by (VarArray (Two e f)) h = absurd (true≢false h)

  indexed_kind : (k : ItemKind) (at : Index) → Passed (index_tests (rank k) (index_count at)) → HasIndexes (shape_in p start (Some k)) at
  unfolding hidden expr_shape expr_child
  indexed_kind (Const v) (OneIndex n a) h = absurd (true≢false h.0)
  indexed_kind (Const v) (TwoIndexes n a m b) h = absurd (true≢false h.0)
  indexed_kind (InputScalar lo hi) (OneIndex n a) h = absurd (true≢false h.0)
  indexed_kind (InputScalar lo hi) (TwoIndexes n a m b) h = absurd (true≢false h.0)
  indexed_kind VarScalar (OneIndex n a) h = absurd (true≢false h.0)
  indexed_kind VarScalar (TwoIndexes n a m b) h = absurd (true≢false h.0)
  indexed_kind (InputArray (One e) lo hi) (OneIndex n a) h = tt
  indexed_kind (InputArray (One e) lo hi) (TwoIndexes n a m b) h = absurd (true≢false h.1.0)
  indexed_kind (InputArray (Two e f) lo hi) (OneIndex n a) h = absurd (true≢false h.1.0)
  indexed_kind (InputArray (Two e f) lo hi) (TwoIndexes n a m b) h = tt
  indexed_kind (VarArray (One e)) (OneIndex n a) h = tt
  indexed_kind (VarArray (One e)) (TwoIndexes n a m b) h = absurd (true≢false h.1.0)
  indexed_kind (VarArray (Two e f)) (OneIndex n a) h = absurd (true≢false h.1.0)
  indexed_kind (VarArray (Two e f)) (TwoIndexes n a m b) h = tt

  get_ranked : (o : Option ItemKind) → Passed (use_tests o 0) → IsScalar (shape_in p start o)
  get_ranked None h = absurd (true≢false h.0)
  get_ranked (Some k) h = scalar_by k h.1.0

  read_ranked : (o : Option ItemKind) (at : Index) → Passed (use_tests o (index_count at)) → HasIndexes (shape_in p start o) at
  read_ranked None at h = absurd (true≢false h.0)
  read_ranked (Some k) at h = indexed_kind k at h

  mutual
    unfolding hidden expr_shape expr_child

    expr_ranked : (at : NodeId) (e : ExprKind) → expr_faults p.items at e ≡ [] → Ranked p start e
    expr_ranked at (Num n) h = tt
    expr_ranked at (Get x) h = get_ranked (kind_of p x) (passed at (use_tests (kind_of p x) 0) h)
    expr_ranked at (Read x i) h = (
      read_ranked (kind_of p x) i (passed at (use_tests (kind_of p x) (index_count i)) (front-nil (broken at (use_tests (kind_of p x) (index_count i))) (index_faults p.items i) h)),
      index_ranked i (back-nil (broken at (use_tests (kind_of p x) (index_count i))) (index_faults p.items i) h),
    )
    expr_ranked at (Negative n a) h = expr_ranked n.id a h
    expr_ranked at (Plus n a m b) h = (expr_ranked n.id a (front-nil (expr_faults p.items n.id a) (expr_faults p.items m.id b) h), expr_ranked m.id b (back-nil (expr_faults p.items n.id a) (expr_faults p.items m.id b) h))
    expr_ranked at (Minus n a m b) h = (expr_ranked n.id a (front-nil (expr_faults p.items n.id a) (expr_faults p.items m.id b) h), expr_ranked m.id b (back-nil (expr_faults p.items n.id a) (expr_faults p.items m.id b) h))
    expr_ranked at (Times n a m b) h = (expr_ranked n.id a (front-nil (expr_faults p.items n.id a) (expr_faults p.items m.id b) h), expr_ranked m.id b (back-nil (expr_faults p.items n.id a) (expr_faults p.items m.id b) h))

    index_ranked : (i : Index) → index_faults p.items i ≡ [] → RankedIndex p start i
    index_ranked (OneIndex n a) h = expr_ranked n.id a h
    index_ranked (TwoIndexes n a m b) h = (expr_ranked n.id a (front-nil (expr_faults p.items n.id a) (expr_faults p.items m.id b) h), expr_ranked m.id b (back-nil (expr_faults p.items n.id a) (expr_faults p.items m.id b) h))

  cond_ranked : (c : CondKind) → cond_faults p.items c ≡ [] → RankedCond p start c
  unfolding hidden expr_shape expr_child cond_shape cond_child
  cond_ranked True h = tt
  cond_ranked False h = tt
  cond_ranked (Rel op a b) h = (expr_ranked a.node.id a.kind (front-nil (expr_faults p.items a.node.id a.kind) (expr_faults p.items b.node.id b.kind) h), expr_ranked b.node.id b.kind (back-nil (expr_faults p.items a.node.id a.kind) (expr_faults p.items b.node.id b.kind) h))
  cond_ranked (Negation n c) h = cond_ranked c h
  cond_ranked (Conjunction n c m d) h = (cond_ranked c (front-nil (cond_faults p.items c) (cond_faults p.items d) h), cond_ranked d (back-nil (cond_faults p.items c) (cond_faults p.items d) h))
  cond_ranked (Disjunction n c m d) h = (cond_ranked c (front-nil (cond_faults p.items c) (cond_faults p.items d) h), cond_ranked d (back-nil (cond_faults p.items c) (cond_faults p.items d) h))

  module _ (accepted : KeepsStaticRules p) (fits : Fits p start) where
    held_kind : (k : ItemKind) → is_constant k ≡ false → is_held k ≡ true
    held_kind (Const v) h = absurd (true≢false h)
    held_kind (InputScalar lo hi) h = refl
    held_kind (InputArray es lo hi) h = refl
    held_kind VarScalar h = refl
    held_kind (VarArray es) h = refl

    no_input : (k : ItemKind) → rule.is_input k ≡ false → is_input_kind (Some k) ≡ false
    no_input (Const v) h = refl
    no_input (InputScalar lo hi) h = h
    no_input (InputArray es lo hi) h = h
    no_input VarScalar h = refl
    no_input (VarArray es) h = refl

    assigned : (x : NameBytes) (k : ItemKind) → kind_of p x ≡ Some k → is_constant k ≡ false → rule.is_input k ≡ false → Assigned p start x
    assigned x k e c i = record {
      free = ap is_input_kind e ∙ no_input k i;
      room = λ a b inside.
          let f = numbers-fit p start accepted fits x k e (held_kind k c) in
          let q : length (numbers_in start.cells x) ≡ count (shape p start x) = f.0 ∙ ap (λ (o : Option ItemKind). count (shape_in p start o)) (sym e) in
          subst (λ (z : ℕ). place p start (cell x a b) < z) (sym q) (inside_place (shape p start x) a b inside);
    }

    scalar_var : (k : ItemKind) → not (is_scalar_var k) ≡ false → IsScalar (shape_in p start (Some k))
    scalar_var VarScalar h = tt
    scalar_var (Const v) h = absurd (true≢false h)
    scalar_var (InputScalar lo hi) h = absurd (true≢false h)
    scalar_var (InputArray es lo hi) h = absurd (true≢false h)
    scalar_var (VarArray es) h = absurd (true≢false h)

    set_ranked : (ls : List Loop) (x : NameBytes) (o : Option ItemKind) → kind_of p x ≡ o → Passed (set_tests ls x o 0) → IsScalar (shape_in p start o) × Assigned p start x × NotIn x (protected ls)
    set_ranked ls x None e h = absurd (true≢false h.0)
    set_ranked ls x (Some k) e h = (scalar_by k h.1.0, assigned x k e h.1.1.0 h.1.1.1.0, free_name x ls h.1.1.1.1.0 h.1.1.1.1.1.0)

    put_ranked : (ls : List Loop) (x : NameBytes) (i : Index) (o : Option ItemKind) → kind_of p x ≡ o → Passed (set_tests ls x o (index_count i)) → HasIndexes (shape_in p start o) i × Assigned p start x × NotIn x (protected ls)
    put_ranked ls x i None e h = absurd (true≢false h.0)
    put_ranked ls x i (Some k) e h = (indexed_kind k i (h.0, (h.1.0, tt)), assigned x k e h.1.1.0 h.1.1.1.0, free_name x ls h.1.1.1.1.0 h.1.1.1.1.1.0)

    for_ranked : (ls : List Loop) (x : NameBytes) (lo hi : ExprKind) (o : Option ItemKind) → kind_of p x ≡ o → Passed (for_tests ls x o lo hi) → IsScalar (shape_in p start o) × Assigned p start x × NotIn x (protected ls) × NotIn x (read_names lo ++ read_names hi)
    for_ranked ls x lo hi None e h = absurd (true≢false h.0)
    for_ranked ls x lo hi (Some k) e h =
        let r = neither (reads x lo) (reads x hi) h.1.1.1.1.1.0 in
        (scalar_var k h.1.1.0, assigned x k e h.0 h.1.0, free_name x ls h.1.1.1.0 h.1.1.1.1.0, not_in-join x (read_names lo) (read_names hi) (unread x lo r.0) (unread x hi r.1))

    mutual
      unfolding hidden expr_shape expr_child

      stmt_ranked : (ls : List Loop) (at : NodeId) (k : StmtKind) → stmt_faults p.items ls at k ≡ [] → RankedStmt p start (protected ls) k
      stmt_ranked ls at (Set x e) h =
          let t = broken at (set_tests ls x (kind_of p x) 0) in
          let s = set_ranked ls x (kind_of p x) refl (passed at (set_tests ls x (kind_of p x) 0) (front-nil t (expr_faults p.items e.node.id e.kind) h)) in
          (s.0, expr_ranked e.node.id e.kind (back-nil t (expr_faults p.items e.node.id e.kind) h), s.1, s.2)
      stmt_ranked ls at (Put x i e) h =
          let t = broken at (set_tests ls x (kind_of p x) (index_count i)) in
          let more = back-nil t (index_faults p.items i ++ expr_faults p.items e.node.id e.kind) h in
          let s = put_ranked ls x i (kind_of p x) refl (passed at (set_tests ls x (kind_of p x) (index_count i)) (front-nil t (index_faults p.items i ++ expr_faults p.items e.node.id e.kind) h)) in
          (s.0, index_ranked i (front-nil (index_faults p.items i) (expr_faults p.items e.node.id e.kind) more), expr_ranked e.node.id e.kind (back-nil (index_faults p.items i) (expr_faults p.items e.node.id e.kind) more), s.1, s.2)
      stmt_ranked ls at (If' c _ xs _ ys) h =
          let more = back-nil (cond_faults p.items c.kind) (block_faults p.items ls xs ++ block_faults p.items ls ys) h in (
            cond_ranked c.kind (front-nil (cond_faults p.items c.kind) (block_faults p.items ls xs ++ block_faults p.items ls ys) h),
            block_ranked ls xs (front-nil (block_faults p.items ls xs) (block_faults p.items ls ys) more),
            block_ranked ls ys (back-nil (block_faults p.items ls xs) (block_faults p.items ls ys) more),
          )
      stmt_ranked ls at (For' x a b _ xs) h =
          let t = broken at (for_tests ls x (kind_of p x) a.kind b.kind) in
          let ls2 : List Loop = record { variable = x; low = a.kind; high = b.kind } ∷ ls in
          let body = block_faults p.items ls2 xs in
          let fa = expr_faults p.items a.node.id a.kind in
          let fb = expr_faults p.items b.node.id b.kind in
          let h1 = back-nil t (fa ++ (fb ++ body)) h in
          let h2 = back-nil fa (fb ++ body) h1 in
          let s = for_ranked ls x a.kind b.kind (kind_of p x) refl (passed at (for_tests ls x (kind_of p x) a.kind b.kind) (front-nil t (fa ++ (fb ++ body)) h)) in
          (s.0, expr_ranked a.node.id a.kind (front-nil fa (fb ++ body) h1), expr_ranked b.node.id b.kind (front-nil fb body h2), s.1, s.2, s.3, block_ranked ls2 xs (back-nil fb body h2))
      stmt_ranked ls at (While' c _ xs) h = (cond_ranked c.kind (front-nil (cond_faults p.items c.kind) (block_faults p.items ls xs) h), block_ranked ls xs (back-nil (cond_faults p.items c.kind) (block_faults p.items ls xs) h))
      stmt_ranked ls at (Hand x role) h = tt
      stmt_ranked ls at Skip h = tt

      block_ranked : {n : _} (ls : List Loop) (row : Row_of-Stmt n) → block_faults p.items ls row ≡ [] → RankedBlock p start (protected ls) row
      block_ranked ls end_of-Stmt h = tt
      block_ranked ls (more_of-Stmt n s rest) h = (stmt_ranked ls n.id s (front-nil (stmt_faults p.items ls n.id s) (block_faults p.items ls rest) h), block_ranked ls rest (back-nil (stmt_faults p.items ls n.id s) (block_faults p.items ls rest) h))

    list_ranked : (sts : List Stmt) → list_faults p.items [] sts ≡ [] → RankedList p start [] sts
    unfolding hidden expr_shape expr_child
    list_ranked [] h = tt
    list_ranked (st ∷ sts) h = (stmt_ranked [] st.node.id st.kind (front-nil (stmt_faults p.items [] st.node.id st.kind) (list_faults p.items [] sts) h), list_ranked sts (back-nil (stmt_faults p.items [] st.node.id st.kind) (list_faults p.items [] sts) h))

    pub program_ranked : RankedList p start [] p.body
    program_ranked = list_ranked p.body (back-nil (items_faults [] p.items) (list_faults p.items [] p.body) accepted)
