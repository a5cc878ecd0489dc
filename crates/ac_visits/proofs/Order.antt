-- The order of numbers in a program: rising numbers, and where a statement of a block stands among them.
use Rattle.std.proofs.Common.{◌≡◌, ℕ, suc, zero, nat_eq, nat_le, true, false, List, [], ◌∷◌, ◌++◌, refl, sym, ap, subst, arith, ◌+◌, ◌≤◌, ◌<◌}
use Rattle.std.proofs.lemmas.Bool.Decides.{nat_tests}
use mathlib.Core.Logic.{inl, inr}
use Rattle.ac_tree.specs.declared.node.NodeId.{NodeId}
use Rattle.ac_tree.specs.declared.program.Program.{Program}
use Rattle.ac_tree.specs.declared.program.Stmt.{Stmt}
use Rattle.ac_tree.specs.declared.program.StmtKind.{StmtKind, Row_of-Stmt, end_of-Stmt, more_of-Stmt, Set, Put, If', For', While', Hand, Skip}
use Rattle.ac_tree.specs.Numbering.{program_nodes}
use Rattle.ac_tree.specs.Preorder.{inside_expr, inside_cond, inside_stmt, nodes_of_row, nodes_of_list, nodes_of_items, nodes_of, numbers_from, IsNumbered}
use Rattle.ac_tree.proofs.NodeLaws.{numbered_in_preorder}
use Rattle.ac_flow.specs.Listed.{IsListed}
use Rattle.ac_flow.specs.Points.{block, Point}
pub use Rattle.ac_visits.specs.Rising.{Rises}
use Rattle.ac_visits.specs.Visits.{Has, BlockHas, HasInside}
use Rattle.ac_walk.specs.Walks.{list_begins}
use Rattle.ac_visits.proofs.Standing.{Stands, whole, later, in_yes, in_no, in_for, in_while}

pub listed_left : (xs ys : List NodeId) (n : NodeId) → IsListed xs n → IsListed (xs ++ ys) n
listed_left (x ∷ xs) ys n (inl e) = inl e
listed_left (x ∷ xs) ys n (inr h) = inr (listed_left xs ys n h)
listed_left [] ys n h = absurd h

pub listed_right : (xs ys : List NodeId) (n : NodeId) → IsListed ys n → IsListed (xs ++ ys) n
listed_right [] ys n h = h
listed_right (x ∷ xs) ys n h = inr (listed_right xs ys n h)

pub weaker : (i j : ℕ) (ns : List NodeId) → i ≤ j → Rises j ns → Rises i ns
weaker i j [] h r = tt
weaker i j (n ∷ ns) h r = (below, r.1)
  where
    below : i ≤ n.0
    below = let k = r.0 in omega arith

pub above : (i : ℕ) (ns : List NodeId) (n : NodeId) → Rises i ns → IsListed ns n → i ≤ n.0
above i [] n r h = absurd h
above i (m ∷ ns) n r (inl e) = subst (λ (k : NodeId). i ≤ k.0) (sym e) r.0
above i (m ∷ ns) n r (inr h) =
    let k = above (m.0 + 1) ns n r.1 h in
    let l = r.0 in
    omega arith

pub rises_left : (i : ℕ) (xs ys : List NodeId) → Rises i (xs ++ ys) → Rises i xs
rises_left i [] ys r = tt
rises_left i (x ∷ xs) ys r = (r.0, rises_left (x.0 + 1) xs ys r.1)

pub rises_right : (i : ℕ) (xs ys : List NodeId) → Rises i (xs ++ ys) → Rises i ys
rises_right i [] ys r = r
rises_right i (x ∷ xs) ys r = weaker i (x.0 + 1) ys below (rises_right (x.0 + 1) xs ys r.1)
  where
    below : i ≤ x.0 + 1
    below = let k = r.0 in omega arith

pub apart : (i : ℕ) (xs ys : List NodeId) (x y : NodeId) → Rises i (xs ++ ys) → IsListed xs x → IsListed ys y → x.0 < y.0
apart i [] ys x y r h k = absurd h
apart i (m ∷ xs) ys x y r (inl e) k =
    let l = above (m.0 + 1) (xs ++ ys) y r.1 (listed_right xs ys y k) in
    subst (λ (n : NodeId). n.0 < y.0) (sym e) (omega arith)
apart i (m ∷ xs) ys x y r (inr h) k = apart (m.0 + 1) xs ys x y r.1 h k

pub numbers_rise : (i n : ℕ) → Rises i (numbers_from i n)
numbers_rise i zero = tt
numbers_rise i (suc n) = (omega arith, numbers_rise (i + 1) n)

pub program_rises : (p : Program) → IsNumbered p → Rises 0 (nodes_of_list p.body)
program_rises p n =
    let all : Rises 0 (nodes_of p) = subst (λ (ns : List NodeId). Rises 0 ns) (sym (numbered_in_preorder p n)) (numbers_rise 0 (program_nodes p)) in
    rises_right 0 (p.node.id ∷ nodes_of_items p.items) (nodes_of_list p.body) all

-- tests of numbers

pub le_true : (n m : ℕ) → n ≤ m → nat_le n m ≡ true
le_true n m h = grind (arith, nat_tests)

pub le_false : (n m : ℕ) → m < n → nat_le n m ≡ false
le_false n m h = grind (arith, nat_tests)

pub eq_false : (n m : ℕ) → n < m → nat_eq n m ≡ false
eq_false n m h = grind (arith, nat_tests)

pub begins_later : (at : NodeId) (sts : List Stmt) → ((n : NodeId) → IsListed (nodes_of_list sts) n → at.0 < n.0) → list_begins at sts ≡ false
begins_later at [] h = refl
begins_later at (st ∷ rest) h = le_false st.node.id.0 at.0 (h st.node.id (inl refl))

pub begins_before : (at : NodeId) (sts : List Stmt) (i : ℕ) → Rises i (nodes_of_list sts) → IsListed (nodes_of_list sts) at → list_begins at sts ≡ true
begins_before at [] i r h = absurd h
begins_before at (st ∷ rest) i r (inl e) = le_true st.node.id.0 at.0 (subst (λ (k : NodeId). st.node.id.0 ≤ k.0) (sym e) (omega arith))
begins_before at (st ∷ rest) i r (inr h) =
    let k = above (st.node.id.0 + 1) (inside_stmt st.kind ++ nodes_of_list rest) at r.1 h in
    le_true st.node.id.0 at.0 (omega arith)

-- the nodes of rows and lists, and the statements among them

pub row_nodes : {k : _} (row : Row_of-Stmt k) → nodes_of_row row ≡ nodes_of_list (block row)
row_nodes end_of-Stmt = refl
row_nodes (more_of-Stmt n st rest) = ap (λ ns. (n.id ∷ inside_stmt st) ++ ns) (row_nodes rest)

mutual
  pub inside_listed : (k : StmtKind) (s : Stmt) → HasInside k s → IsListed (inside_stmt k) s.node.id
  inside_listed (If' c _ xs _ ys) s (inl h) = listed_right (c.node.id ∷ inside_cond c.kind) (nodes_of_row xs ++ nodes_of_row ys) s.node.id (listed_left (nodes_of_row xs) (nodes_of_row ys) s.node.id (row_listed xs s h))
  inside_listed (If' c _ xs _ ys) s (inr h) = listed_right (c.node.id ∷ inside_cond c.kind) (nodes_of_row xs ++ nodes_of_row ys) s.node.id (listed_right (nodes_of_row xs) (nodes_of_row ys) s.node.id (row_listed ys s h))
  inside_listed (For' x a b _ xs) s h = listed_right (a.node.id ∷ inside_expr a.kind) _ s.node.id (listed_right (b.node.id ∷ inside_expr b.kind) (nodes_of_row xs) s.node.id (row_listed xs s h))
  inside_listed (While' c _ xs) s h = listed_right (c.node.id ∷ inside_cond c.kind) (nodes_of_row xs) s.node.id (row_listed xs s h)
  inside_listed (Set x a) s h = absurd h
  inside_listed (Put x i a) s h = absurd h
  inside_listed (Hand x role) s h = absurd h
  inside_listed Skip s h = absurd h

  pub row_listed : {k : _} (row : Row_of-Stmt k) (s : Stmt) → BlockHas row s → IsListed (nodes_of_row row) s.node.id
  row_listed end_of-Stmt s h = absurd h
  row_listed (more_of-Stmt n st rest) s (inl e) = inl (ap (λ (x : Stmt). x.node.id) e)
  row_listed (more_of-Stmt n st rest) s (inr (inl h)) = inr (listed_left (inside_stmt st) (nodes_of_row rest) s.node.id (inside_listed st s h))
  row_listed (more_of-Stmt n st rest) s (inr (inr h)) = inr (listed_right (inside_stmt st) (nodes_of_row rest) s.node.id (row_listed rest s h))

pub has_listed : (sts : List Stmt) (s : Stmt) → Has sts s → IsListed (nodes_of_list sts) s.node.id
has_listed [] s h = absurd h
has_listed (st ∷ rest) s (inl e) = inl (ap (λ (x : Stmt). x.node.id) e)
has_listed (st ∷ rest) s (inr (inl h)) = inr (listed_left (inside_stmt st.kind) (nodes_of_list rest) s.node.id (inside_listed st.kind s h))
has_listed (st ∷ rest) s (inr (inr h)) = inr (listed_right (inside_stmt st.kind) (nodes_of_list rest) s.node.id (has_listed rest s h))

-- the numbers of what stands in the program rise

of_row : {k : _} (row : Row_of-Stmt k) → Rises 0 (nodes_of_row row) → Rises 0 (nodes_of_list (block row))
of_row row r = subst (λ (ns : List NodeId). Rises 0 ns) (row_nodes row) r

-- those inside the first statement of a list
pub inner_rises : (st : Stmt) (rest : List Stmt) → Rises 0 (nodes_of_list (st ∷ rest)) → Rises 0 (inside_stmt st.kind)
inner_rises st rest r = rises_right 0 (st.node.id ∷ []) (inside_stmt st.kind) (rises_left 0 (st.node.id ∷ inside_stmt st.kind) (nodes_of_list rest) r)

module _ (p : Program) where
  pub stands_rise : {sts : List Stmt} {after : Point} → Rises 0 (nodes_of_list p.body) → Stands p sts after → Rises 0 (nodes_of_list sts)
  stands_rise r whole = r
  stands_rise r (later st sts after d) = rises_right 0 (st.node.id ∷ inside_stmt st.kind) (nodes_of_list sts) (stands_rise r d)
  stands_rise r (in_yes at test a b yes_ no_ sts after d) =
      of_row yes_ (rises_left 0 (nodes_of_row yes_) (nodes_of_row no_) (rises_right 0 (test.node.id ∷ inside_cond test.kind) (nodes_of_row yes_ ++ nodes_of_row no_) (inner_rises (record { node = at; kind = If' test a yes_ b no_ }) sts (stands_rise r d))))
  stands_rise r (in_no at test a b yes_ no_ sts after d) =
      of_row no_ (rises_right 0 (nodes_of_row yes_) (nodes_of_row no_) (rises_right 0 (test.node.id ∷ inside_cond test.kind) (nodes_of_row yes_ ++ nodes_of_row no_) (inner_rises (record { node = at; kind = If' test a yes_ b no_ }) sts (stands_rise r d))))
  stands_rise r (in_for at x lo hi a body sts after d) =
      of_row body (rises_right 0 (hi.node.id ∷ inside_expr hi.kind) (nodes_of_row body) (rises_right 0 (lo.node.id ∷ inside_expr lo.kind) _ (inner_rises (record { node = at; kind = For' x lo hi a body }) sts (stands_rise r d))))
  stands_rise r (in_while at test a body sts after d) =
      of_row body (rises_right 0 (test.node.id ∷ inside_cond test.kind) (nodes_of_row body) (inner_rises (record { node = at; kind = While' test a body }) sts (stands_rise r d)))
