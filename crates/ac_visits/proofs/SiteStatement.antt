-- Control enters the statement of an access on its way there, or the cut is that statement's own.
use Rattle.std.proofs.Common.{◌≡◌, ℕ, Bool, true, false, if◌then◌else◌, List, [], ◌∷◌, ◌++◌, map, Option, Some, None, refl, sym, ◌∙◌, ap, subst}
use mathlib.Core.Logic.{◌⊎◌, inl, inr}
use Rattle.ac_tree.specs.declared.node.Node.{Node}
use Rattle.ac_tree.specs.declared.node.NodeId.{NodeId}
use Rattle.ac_tree.specs.declared.path.Cut.{Cut}
use Rattle.ac_tree.specs.declared.path.Target.TheVariants.{Barrier, Site}
use Rattle.ac_tree.specs.declared.program.Cond.{Cond}
use Rattle.ac_tree.specs.declared.program.CondKind.{CondKind}
use Rattle.ac_tree.specs.declared.program.CondKind.TheVariants.{True, False, Rel}
use Rattle.ac_tree.specs.declared.program.ExprKind.{ExprKind}
use Rattle.ac_tree.specs.declared.program.ExprKind.TheVariants.{Num, Get, Read}
use Rattle.ac_tree.specs.declared.program.Index.{Index}
use Rattle.ac_tree.specs.declared.program.Program.{Program}
use Rattle.ac_tree.specs.declared.program.Stmt.{Stmt}
use Rattle.ac_tree.specs.declared.program.StmtKind.{StmtKind, Row_of-Stmt, end_of-Stmt, more_of-Stmt, Set, Put, If', For', While', Hand, Skip}
use Rattle.ac_tree.specs.Patterns.{Negative, Plus, Minus, Times, OneIndex, TwoIndexes, Negation, Conjunction, Disjunction}
use Rattle.ac_tree.specs.Preorder.{inside_expr, inside_index, inside_cond, inside_stmt, nodes_of_row, nodes_of_list}
use Rattle.ac_flow.specs.Leads.{cond_reads}
use Rattle.ac_flow.specs.Listed.{IsListed}
use Rattle.ac_flow.specs.Paths.{LeadsTo, step, steps, Reaches}
use Rattle.ac_flow.specs.Points.{Do, Behind, Enter, Test, Turn, Exit, Judge, Decide, See, Begin, Point, Next, IsOneWay, ways_through, reads_of, index_reads, block, cut_at, target_at}
use Rattle.ac_flow.proofs.Within.{none-some, some-none, some-same}
use Rattle.ac_visits.specs.Opened.{hidden, expr_shape, expr_child, cond_shape, cond_child}
use Rattle.ac_visits.specs.Visits.{Has, BlockHas, HasInside, BelongsTo, EntersAt, LeadsBy, accesses}
use Rattle.ac_walk.specs.Walks.{target_node}
use Rattle.ac_visits.proofs.OnPaths.{in_either}
use Rattle.ac_visits.proofs.Order.{Rises, listed_left, listed_right, rises_left, rises_right}
use Rattle.ac_visits.proofs.Entered.{never_both}
use Rattle.ac_visits.proofs.Standing.{Stands, whole, later, in_yes, in_no, in_for, in_while, Follows, follows, Leaves, leaves_off, Loops, a_for, a_while, Lies, next_lies, point_lies, stands_has}

-- accesses are nodes

mutual
  unfolding hidden expr_shape expr_child

  reads_in : (n : Node) (e : ExprKind) (v : NodeId) → IsListed (reads_of n e) v → IsListed (n.id ∷ inside_expr e) v
  reads_in n (Num k) v h = absurd h
  reads_in n (Get x) v (inl e) = inl e
  reads_in n (Get x) v (inr e) = absurd e
  reads_in n (Read x i) v h = elim (in_either (index_reads i) (n.id ∷ []) v h) [ inl k ↦ inr (index_in i v k) | inr (inl e) ↦ inl e | inr (inr e) ↦ absurd e ]
  reads_in n (Negative m a) v h = inr (reads_in m a v h)
  reads_in n (Plus k a m b) v h = elim (in_either (reads_of k a) (reads_of m b) v h) [
    | inl i ↦ inr (listed_left (k.id ∷ inside_expr a) (m.id ∷ inside_expr b) v (reads_in k a v i))
    | inr i ↦ inr (listed_right (k.id ∷ inside_expr a) (m.id ∷ inside_expr b) v (reads_in m b v i))
  ]
  reads_in n (Minus k a m b) v h = elim (in_either (reads_of k a) (reads_of m b) v h) [
    | inl i ↦ inr (listed_left (k.id ∷ inside_expr a) (m.id ∷ inside_expr b) v (reads_in k a v i))
    | inr i ↦ inr (listed_right (k.id ∷ inside_expr a) (m.id ∷ inside_expr b) v (reads_in m b v i))
  ]
  reads_in n (Times k a m b) v h = elim (in_either (reads_of k a) (reads_of m b) v h) [
    | inl i ↦ inr (listed_left (k.id ∷ inside_expr a) (m.id ∷ inside_expr b) v (reads_in k a v i))
    | inr i ↦ inr (listed_right (k.id ∷ inside_expr a) (m.id ∷ inside_expr b) v (reads_in m b v i))
  ]

  index_in : (i : Index) (v : NodeId) → IsListed (index_reads i) v → IsListed (inside_index i) v
  index_in (OneIndex n a) v h = reads_in n a v h
  index_in (TwoIndexes k a m b) v h = elim (in_either (reads_of k a) (reads_of m b) v h) [
    | inl i ↦ listed_left (k.id ∷ inside_expr a) (m.id ∷ inside_expr b) v (reads_in k a v i)
    | inr i ↦ listed_right (k.id ∷ inside_expr a) (m.id ∷ inside_expr b) v (reads_in m b v i)
  ]

cond_reads_in : (c : CondKind) (v : NodeId) → IsListed (cond_reads c) v → IsListed (inside_cond c) v
unfolding hidden cond_shape cond_child
cond_reads_in True v h = absurd h
cond_reads_in False v h = absurd h
cond_reads_in (Rel op a b) v h = elim (in_either (reads_of a.node a.kind) (reads_of b.node b.kind) v h) [
  | inl i ↦ listed_left (a.node.id ∷ inside_expr a.kind) (b.node.id ∷ inside_expr b.kind) v (reads_in a.node a.kind v i)
  | inr i ↦ listed_right (a.node.id ∷ inside_expr a.kind) (b.node.id ∷ inside_expr b.kind) v (reads_in b.node b.kind v i)
]
cond_reads_in (Negation n c) v h = inr (cond_reads_in c v h)
cond_reads_in (Conjunction n c m d) v h = elim (in_either (cond_reads c) (cond_reads d) v h) [
  | inl i ↦ listed_left (n.id ∷ inside_cond c) (m.id ∷ inside_cond d) v (inr (cond_reads_in c v i))
  | inr i ↦ listed_right (n.id ∷ inside_cond c) (m.id ∷ inside_cond d) v (inr (cond_reads_in d v i))
]
cond_reads_in (Disjunction n c m d) v h = elim (in_either (cond_reads c) (cond_reads d) v h) [
  | inl i ↦ listed_left (n.id ∷ inside_cond c) (m.id ∷ inside_cond d) v (inr (cond_reads_in c v i))
  | inr i ↦ listed_right (n.id ∷ inside_cond c) (m.id ∷ inside_cond d) v (inr (cond_reads_in d v i))
]

module _ (v : NodeId) where
  abbrev pub Accesses : Stmt → Type 0
  Accesses s = IsListed (accesses s.node.id s.kind) v

  ends_in : (lo : Node) (a : ExprKind) (hi : Node) (b : ExprKind) (more : List NodeId) → IsListed (reads_of lo a ++ reads_of hi b) v → IsListed ((lo.id ∷ inside_expr a) ++ ((hi.id ∷ inside_expr b) ++ more)) v
  ends_in lo a hi b more h = elim (in_either (reads_of lo a) (reads_of hi b) v h) [
    | inl i ↦ listed_left (lo.id ∷ inside_expr a) ((hi.id ∷ inside_expr b) ++ more) v (reads_in lo a v i)
    | inr i ↦ listed_right (lo.id ∷ inside_expr a) ((hi.id ∷ inside_expr b) ++ more) v (listed_left (hi.id ∷ inside_expr b) more v (reads_in hi b v i))
  ]

  accesses_in : (n : NodeId) (k : StmtKind) → IsListed (accesses n k) v → IsListed (n ∷ inside_stmt k) v
  accesses_in n (Set x e) h = elim (in_either (reads_of e.node e.kind) (n ∷ []) v h) [ inl i ↦ inr (reads_in e.node e.kind v i) | inr (inl i) ↦ inl i | inr (inr i) ↦ absurd i ]
  accesses_in n (Put x i e) h = elim (in_either (index_reads i) (reads_of e.node e.kind ++ n ∷ []) v h) [
    | inl j ↦ inr (listed_left (inside_index i) (e.node.id ∷ inside_expr e.kind) v (index_in i v j))
    | inr j ↦ elim (in_either (reads_of e.node e.kind) (n ∷ []) v j) [
      | inl g ↦ inr (listed_right (inside_index i) (e.node.id ∷ inside_expr e.kind) v (reads_in e.node e.kind v g))
      | inr (inl g) ↦ inl g
      | inr (inr g) ↦ absurd g
    ]
  ]
  accesses_in n (If' test _ yes_ _ no_) h = inr (listed_left (test.node.id ∷ inside_cond test.kind) (nodes_of_row yes_ ++ nodes_of_row no_) v (inr (cond_reads_in test.kind v h)))
  accesses_in n (For' x lo hi _ body) h = inr (ends_in lo.node lo.kind hi.node hi.kind (nodes_of_row body) h)
  accesses_in n (While' test _ body) h = inr (listed_left (test.node.id ∷ inside_cond test.kind) (nodes_of_row body) v (inr (cond_reads_in test.kind v h)))
  accesses_in n (Hand x role) (inl e) = inl e
  accesses_in n (Hand x role) (inr e) = absurd e
  accesses_in n Skip h = absurd h

  mutual
    inside_site : (k : StmtKind) (s : Stmt) → HasInside k s → Accesses s → IsListed (inside_stmt k) v
    inside_site (If' c _ xs _ ys) s (inl h) a = listed_right (c.node.id ∷ inside_cond c.kind) (nodes_of_row xs ++ nodes_of_row ys) v (listed_left (nodes_of_row xs) (nodes_of_row ys) v (row_site xs s h a))
    inside_site (If' c _ xs _ ys) s (inr h) a = listed_right (c.node.id ∷ inside_cond c.kind) (nodes_of_row xs ++ nodes_of_row ys) v (listed_right (nodes_of_row xs) (nodes_of_row ys) v (row_site ys s h a))
    inside_site (For' x l u _ xs) s h a = listed_right (l.node.id ∷ inside_expr l.kind) ((u.node.id ∷ inside_expr u.kind) ++ nodes_of_row xs) v (listed_right (u.node.id ∷ inside_expr u.kind) (nodes_of_row xs) v (row_site xs s h a))
    inside_site (While' c _ xs) s h a = listed_right (c.node.id ∷ inside_cond c.kind) (nodes_of_row xs) v (row_site xs s h a)
    inside_site (Set x e) s h a = absurd h
    inside_site (Put x i e) s h a = absurd h
    inside_site (Hand x role) s h a = absurd h
    inside_site Skip s h a = absurd h

    row_site : {k : _} (row : Row_of-Stmt k) (s : Stmt) → BlockHas row s → Accesses s → IsListed (nodes_of_row row) v
    row_site end_of-Stmt s h a = absurd h
    row_site (more_of-Stmt n st rest) s (inl e) a = listed_left (n.id ∷ inside_stmt st) (nodes_of_row rest) v (accesses_in n.id st (subst (λ (x : Stmt). Accesses x) e a))
    row_site (more_of-Stmt n st rest) s (inr (inl h)) a = inr (listed_left (inside_stmt st) (nodes_of_row rest) v (inside_site st s h a))
    row_site (more_of-Stmt n st rest) s (inr (inr h)) a = inr (listed_right (inside_stmt st) (nodes_of_row rest) v (row_site rest s h a))

  list_site : (sts : List Stmt) (s : Stmt) → Has sts s → Accesses s → IsListed (nodes_of_list sts) v
  list_site [] s h a = absurd h
  list_site (st ∷ rest) s (inl e) a = listed_left (st.node.id ∷ inside_stmt st.kind) (nodes_of_list rest) v (accesses_in st.node.id st.kind (subst (λ (x : Stmt). Accesses x) e a))
  list_site (st ∷ rest) s (inr (inl h)) a = inr (listed_left (inside_stmt st.kind) (nodes_of_list rest) v (inside_site st.kind s h a))
  list_site (st ∷ rest) s (inr (inr h)) a = inr (listed_right (inside_stmt st.kind) (nodes_of_list rest) v (list_site rest s h a))

  -- an access is of one statement alone

  own_alone : (n : NodeId) (k : StmtKind) (s : Stmt) → Rises 0 (inside_stmt k) → IsListed (accesses n k) v → HasInside k s → Accesses s → ⊥
  own_alone n (If' c _ xs _ ys) s r h (inl g) a = never_both (c.node.id ∷ inside_cond c.kind) (nodes_of_row xs ++ nodes_of_row ys) v r (inr (cond_reads_in c.kind v h)) (listed_left (nodes_of_row xs) (nodes_of_row ys) v (row_site xs s g a))
  own_alone n (If' c _ xs _ ys) s r h (inr g) a = never_both (c.node.id ∷ inside_cond c.kind) (nodes_of_row xs ++ nodes_of_row ys) v r (inr (cond_reads_in c.kind v h)) (listed_right (nodes_of_row xs) (nodes_of_row ys) v (row_site ys s g a))
  own_alone n (For' x l u _ xs) s r h g a = elim (in_either (reads_of l.node l.kind) (reads_of u.node u.kind) v h) [
    | inl i ↦ never_both (l.node.id ∷ inside_expr l.kind) ((u.node.id ∷ inside_expr u.kind) ++ nodes_of_row xs) v r (reads_in l.node l.kind v i) (listed_right (u.node.id ∷ inside_expr u.kind) (nodes_of_row xs) v (row_site xs s g a))
    | inr i ↦ never_both (u.node.id ∷ inside_expr u.kind) (nodes_of_row xs) v (rises_right 0 (l.node.id ∷ inside_expr l.kind) ((u.node.id ∷ inside_expr u.kind) ++ nodes_of_row xs) r) (reads_in u.node u.kind v i) (row_site xs s g a)
  ]
  own_alone n (While' c _ xs) s r h g a = never_both (c.node.id ∷ inside_cond c.kind) (nodes_of_row xs) v r (inr (cond_reads_in c.kind v h)) (row_site xs s g a)
  own_alone n (Set x e) s r h g a = g
  own_alone n (Put x i e) s r h g a = g
  own_alone n (Hand x role) s r h g a = g
  own_alone n Skip s r h g a = g

  first_one : (at : Node) (k : StmtKind) (ns : List NodeId) (A B : Type 0) (x s : Stmt) → Rises 0 ((at.id ∷ inside_stmt k) ++ ns) → Accesses x → Accesses s → (A → IsListed ns v) → (B → IsListed ns v) →
      (HasInside k x → HasInside k s → x.node.id ≡ s.node.id) → (A → B → x.node.id ≡ s.node.id) →
      (x ≡ record { node = at; kind = k }) ⊎ (HasInside k x ⊎ A) → (s ≡ record { node = at; kind = k }) ⊎ (HasInside k s ⊎ B) → x.node.id ≡ s.node.id
  first_one at k ns A B x s r a b f g u w (inl e) (inl h) = ap (λ (y : Stmt). y.node.id) (e ∙ sym h)
  first_one at k ns A B x s r a b f g u w (inl e) (inr (inl h)) =
      absurd (own_alone at.id k s (rises_right 0 (at.id ∷ []) (inside_stmt k) (rises_left 0 (at.id ∷ inside_stmt k) ns r)) (subst (λ (y : Stmt). Accesses y) e a) h b)
  first_one at k ns A B x s r a b f g u w (inl e) (inr (inr h)) = absurd (never_both (at.id ∷ inside_stmt k) ns v r (accesses_in at.id k (subst (λ (y : Stmt). Accesses y) e a)) (g h))
  first_one at k ns A B x s r a b f g u w (inr (inl i)) (inl h) =
      absurd (own_alone at.id k x (rises_right 0 (at.id ∷ []) (inside_stmt k) (rises_left 0 (at.id ∷ inside_stmt k) ns r)) (subst (λ (y : Stmt). Accesses y) h b) i a)
  first_one at k ns A B x s r a b f g u w (inr (inl i)) (inr (inl h)) = u i h
  first_one at k ns A B x s r a b f g u w (inr (inl i)) (inr (inr h)) = absurd (never_both (at.id ∷ inside_stmt k) ns v r (inr (inside_site k x i a)) (g h))
  first_one at k ns A B x s r a b f g u w (inr (inr i)) (inl h) = absurd (never_both (at.id ∷ inside_stmt k) ns v r (accesses_in at.id k (subst (λ (y : Stmt). Accesses y) h b)) (f i))
  first_one at k ns A B x s r a b f g u w (inr (inr i)) (inr (inl h)) = absurd (never_both (at.id ∷ inside_stmt k) ns v r (inr (inside_site k s h b)) (f i))
  first_one at k ns A B x s r a b f g u w (inr (inr i)) (inr (inr h)) = w i h

  mutual
    inside_one : (k : StmtKind) (x s : Stmt) → Rises 0 (inside_stmt k) → Accesses x → Accesses s → HasInside k x → HasInside k s → x.node.id ≡ s.node.id
    inside_one (If' c _ xs _ ys) x s r a b (inl h) (inl g) = row_one xs x s (rises_left 0 (nodes_of_row xs) (nodes_of_row ys) (rises_right 0 (c.node.id ∷ inside_cond c.kind) (nodes_of_row xs ++ nodes_of_row ys) r)) a b h g
    inside_one (If' c _ xs _ ys) x s r a b (inr h) (inr g) = row_one ys x s (rises_right 0 (nodes_of_row xs) (nodes_of_row ys) (rises_right 0 (c.node.id ∷ inside_cond c.kind) (nodes_of_row xs ++ nodes_of_row ys) r)) a b h g
    inside_one (If' c _ xs _ ys) x s r a b (inl h) (inr g) = absurd (never_both (nodes_of_row xs) (nodes_of_row ys) v (rises_right 0 (c.node.id ∷ inside_cond c.kind) (nodes_of_row xs ++ nodes_of_row ys) r) (row_site xs x h a) (row_site ys s g b))
    inside_one (If' c _ xs _ ys) x s r a b (inr h) (inl g) = absurd (never_both (nodes_of_row xs) (nodes_of_row ys) v (rises_right 0 (c.node.id ∷ inside_cond c.kind) (nodes_of_row xs ++ nodes_of_row ys) r) (row_site xs s g b) (row_site ys x h a))
    inside_one (For' y l u _ xs) x s r a b h g = row_one xs x s (rises_right 0 (u.node.id ∷ inside_expr u.kind) (nodes_of_row xs) (rises_right 0 (l.node.id ∷ inside_expr l.kind) ((u.node.id ∷ inside_expr u.kind) ++ nodes_of_row xs) r)) a b h g
    inside_one (While' c _ xs) x s r a b h g = row_one xs x s (rises_right 0 (c.node.id ∷ inside_cond c.kind) (nodes_of_row xs) r) a b h g
    inside_one (Set y e) x s r a b h g = absurd h
    inside_one (Put y i e) x s r a b h g = absurd h
    inside_one (Hand y role) x s r a b h g = absurd h
    inside_one Skip x s r a b h g = absurd h

    row_one : {k : _} (row : Row_of-Stmt k) (x s : Stmt) → Rises 0 (nodes_of_row row) → Accesses x → Accesses s → BlockHas row x → BlockHas row s → x.node.id ≡ s.node.id
    row_one end_of-Stmt x s r a b h g = absurd h
    row_one (more_of-Stmt n st rest) x s r a b h g =
        first_one n st (nodes_of_row rest) (BlockHas rest x) (BlockHas rest s) x s r a b (λ i. row_site rest x i a) (λ i. row_site rest s i b)
        (inside_one st x s (rises_right 0 (n.id ∷ []) (inside_stmt st) (rises_left 0 (n.id ∷ inside_stmt st) (nodes_of_row rest) r)) a b)
        (row_one rest x s (rises_right 0 (n.id ∷ inside_stmt st) (nodes_of_row rest) r) a b) h g

  list_one : (sts : List Stmt) (x s : Stmt) → Rises 0 (nodes_of_list sts) → Accesses x → Accesses s → Has sts x → Has sts s → x.node.id ≡ s.node.id
  list_one [] x s r a b h g = absurd h
  list_one (st ∷ rest) x s r a b h g =
      first_one st.node st.kind (nodes_of_list rest) (Has rest x) (Has rest s) x s r a b (λ i. list_site rest x i a) (λ i. list_site rest s i b)
      (inside_one st.kind x s (rises_right 0 (st.node.id ∷ []) (inside_stmt st.kind) (rises_left 0 (st.node.id ∷ inside_stmt st.kind) (nodes_of_list rest) r)) a b)
      (list_one rest x s (rises_right 0 (st.node.id ∷ inside_stmt st.kind) (nodes_of_list rest) r) a b) h g

  -- the accesses that are made before control leaves what it is in

  abbrev head_sites : Point → List NodeId
  head_sites [] = []
  head_sites (See n ∷ rest) = n ∷ head_sites rest
  head_sites (Judge c ∷ rest) = cond_reads c.kind ++ head_sites rest
  head_sites (Decide c ∷ rest) = cond_reads c ++ head_sites rest
  head_sites (Begin ∷ rest) = []
  head_sites (Do st ∷ rest) = []
  head_sites (Behind n ∷ rest) = []
  head_sites (Enter n test body ∷ rest) = []
  head_sites (Test n test body ∷ rest) = []
  head_sites (Turn n test body ∷ rest) = []
  head_sites (Exit n ∷ rest) = []

  abbrev Heads : Point → Type 0
  Heads q = IsListed (head_sites q) v

  same_heads : (r q : Point) → r ≡ q → Heads r → Heads q
  same_heads r q e h = subst (λ (u : Point). Heads u) e h

  seen_heads : (ns : List NodeId) (after rest : Point) → Heads ((map See ns ++ after) ++ rest) → IsListed ns v ⊎ Heads (after ++ rest)
  seen_heads [] after rest h = inr h
  seen_heads (n ∷ ns) after rest (inl e) = inl (inl e)
  seen_heads (n ∷ ns) after rest (inr h) = elim (seen_heads ns after rest h) [ inl i ↦ inl (inr i) | inr i ↦ inr i ]

  all_seen_heads : (ns : List NodeId) (rest : Point) → Heads (map See ns ++ rest) → IsListed (ns ++ head_sites rest) v
  all_seen_heads [] rest h = h
  all_seen_heads (n ∷ ns) rest (inl e) = inl e
  all_seen_heads (n ∷ ns) rest (inr h) = inr (all_seen_heads ns rest h)

  none_done : (sts : List Stmt) (after rest : Point) → (Heads (after ++ rest) → ⊥) → Heads ((map Do sts ++ after) ++ rest) → ⊥
  none_done [] after rest f h = f h
  none_done (st ∷ sts) after rest f h = h

  none_listed : (sts : List Stmt) → Heads (map Do sts) → ⊥
  none_listed [] h = h
  none_listed (st ∷ sts) h = h

  first_read : (xs ys zs : List NodeId) → IsListed (xs ++ zs) v → IsListed ((xs ++ ys) ++ zs) v
  first_read xs ys zs h = elim (in_either xs zs v h) [ inl i ↦ listed_left (xs ++ ys) zs v (listed_left xs ys v i) | inr i ↦ listed_right (xs ++ ys) zs v i ]

  both_read : (xs ys zs : List NodeId) → IsListed (xs ++ (ys ++ zs)) v → IsListed ((xs ++ ys) ++ zs) v
  both_read xs ys zs h = elim (in_either xs (ys ++ zs) v h) [
    | inl i ↦ listed_left (xs ++ ys) zs v (listed_left xs ys v i)
    | inr i ↦ elim (in_either ys zs v i) [ inl j ↦ listed_left (xs ++ ys) zs v (listed_right xs ys v j) | inr j ↦ listed_right (xs ++ ys) zs v j ]
  ]

  cond_heads : (c : CondKind) (rest r : Point) → IsOneWay (ways_through c) rest r → Heads r → IsListed (cond_reads c ++ head_sites rest) v
  unfolding hidden cond_shape cond_child expr_shape expr_child
  cond_heads True rest r (inl e) h = same_heads r rest e h
  cond_heads False rest r (inl e) h = same_heads r rest e h
  cond_heads (Rel op a b) rest r (inl e) h = all_seen_heads (reads_of a.node a.kind ++ reads_of b.node b.kind) rest (same_heads r _ e h)
  cond_heads (Negation n c) rest r (inl e) h = same_heads r (Decide c ∷ rest) e h
  cond_heads (Conjunction n c m d) rest r (inl e) h = first_read (cond_reads c) (cond_reads d) (head_sites rest) (same_heads r (Judge (record { node = n; kind = c }) ∷ rest) e h)
  cond_heads (Conjunction n c m d) rest r (inr (inl e)) h = both_read (cond_reads c) (cond_reads d) (head_sites rest) (same_heads r (Judge (record { node = n; kind = c }) ∷ Decide d ∷ rest) e h)
  cond_heads (Conjunction n c m d) rest r (inr (inr e)) h = absurd e
  cond_heads (Disjunction n c m d) rest r (inl e) h = first_read (cond_reads c) (cond_reads d) (head_sites rest) (same_heads r (Judge (record { node = n; kind = c }) ∷ rest) e h)
  cond_heads (Disjunction n c m d) rest r (inr (inl e)) h = both_read (cond_reads c) (cond_reads d) (head_sites rest) (same_heads r (Judge (record { node = n; kind = c }) ∷ Decide d ∷ rest) e h)
  cond_heads (Disjunction n c m d) rest r (inr (inr e)) h = absurd e
  cond_heads True rest r (inr e) h = absurd e
  cond_heads False rest r (inr e) h = absurd e
  cond_heads (Rel op a b) rest r (inr e) h = absurd e
  cond_heads (Negation n c) rest r (inr e) h = absurd e

  module _ (p : Program) where
    none_behind : {sts : List Stmt} {after : Point} → Stands p sts after → Heads after → ⊥
    none_behind whole h = h
    none_behind (later st sts after d) h = none_behind d h
    none_behind (in_yes at test a b yes_ no_ sts after d) h = h
    none_behind (in_no at test a b yes_ no_ sts after d) h = h
    none_behind (in_for at x lo hi a body sts after d) h = h
    none_behind (in_while at test a body sts after d) h = h

    none_rest : (sts : List Stmt) (after : Point) → (Heads after → ⊥) → Heads (map Do sts ++ after) → ⊥
    none_rest [] after f h = f h
    none_rest (st ∷ sts) after f h = h

    none_left : {n : NodeId} {rest : Point} → Leaves p n rest → Heads rest → ⊥
    none_left (leaves_off _ _ (follows s sts after d)) h = none_rest sts after (none_behind d) h

    -- where the statement of the access begins: before it, or before its test
    abbrev Begins : Point → Type 0
    Begins [] = ⊥
    Begins (Do st ∷ rest) = Has p.body st × Accesses st
    Begins (Test n test body ∷ rest) = (s : Stmt) × (s.node.id ≡ n) × Has p.body s × Accesses s
    Begins (See n ∷ rest) = ⊥
    Begins (Judge c ∷ rest) = ⊥
    Begins (Decide c ∷ rest) = ⊥
    Begins (Begin ∷ rest) = ⊥
    Begins (Behind n ∷ rest) = ⊥
    Begins (Enter n test body ∷ rest) = ⊥
    Begins (Turn n test body ∷ rest) = ⊥
    Begins (Exit n ∷ rest) = ⊥

    own_heads : (at : Node) (k : StmtKind) (rest r : Point) → Next (Do (record { node = at; kind = k }) ∷ rest) r → Heads r → IsListed (accesses at.id k) v
    own_heads at (Set x e) rest r (inl g) h = elim (seen_heads (reads_of e.node e.kind) (See at.id ∷ Behind at.id ∷ []) rest (same_heads r _ g h)) [
      | inl i ↦ listed_left (reads_of e.node e.kind) (at.id ∷ []) v i
      | inr i ↦ listed_right (reads_of e.node e.kind) (at.id ∷ []) v i
    ]
    own_heads at (Put x j e) rest r (inl g) h = elim (seen_heads (index_reads j ++ reads_of e.node e.kind) (See at.id ∷ Behind at.id ∷ []) rest (same_heads r _ g h)) [
      | inl i ↦ elim (in_either (index_reads j) (reads_of e.node e.kind) v i) [
        | inl l ↦ listed_left (index_reads j) (reads_of e.node e.kind ++ at.id ∷ []) v l
        | inr l ↦ listed_right (index_reads j) (reads_of e.node e.kind ++ at.id ∷ []) v (listed_left (reads_of e.node e.kind) (at.id ∷ []) v l)
      ]
      | inr i ↦ listed_right (index_reads j) (reads_of e.node e.kind ++ at.id ∷ []) v (listed_right (reads_of e.node e.kind) (at.id ∷ []) v i)
    ]
    own_heads at (If' test a yes_ b no_) rest r (inl g) h =
        elim (in_either (cond_reads test.kind) (head_sites ((map Do (block yes_) ++ Behind at.id ∷ []) ++ rest)) v (same_heads r (Judge test ∷ ((map Do (block yes_) ++ Behind at.id ∷ []) ++ rest)) g h)) [
          | inl i ↦ i
          | inr i ↦ absurd (none_done (block yes_) (Behind at.id ∷ []) rest (λ y. y) i)
        ]
    own_heads at (If' test a yes_ b no_) rest r (inr (inl g)) h =
        elim (in_either (cond_reads test.kind) (head_sites ((map Do (block no_) ++ Behind at.id ∷ []) ++ rest)) v (same_heads r (Judge test ∷ ((map Do (block no_) ++ Behind at.id ∷ []) ++ rest)) g h)) [
          | inl i ↦ i
          | inr i ↦ absurd (none_done (block no_) (Behind at.id ∷ []) rest (λ y. y) i)
        ]
    own_heads at (If' test a yes_ b no_) rest r (inr (inr g)) h = absurd g
    own_heads at (For' x lo hi a body) rest r (inl g) h = elim (seen_heads (reads_of lo.node lo.kind ++ reads_of hi.node hi.kind) (Enter at.id None (block body) ∷ []) rest (same_heads r _ g h)) [ inl i ↦ i | inr i ↦ absurd i ]
    own_heads at (While' test a body) rest r (inl g) h = absurd (same_heads r (Enter at.id (Some test) (block body) ∷ rest) g h)
    own_heads at (Hand x role) rest r (inl g) h = same_heads r (See at.id ∷ Behind at.id ∷ rest) g h
    own_heads at Skip rest r (inl g) h = absurd (same_heads r (Behind at.id ∷ rest) g h)
    own_heads at (Set x e) rest r (inr g) h = absurd g
    own_heads at (Put x j e) rest r (inr g) h = absurd g
    own_heads at (For' x lo hi a body) rest r (inr g) h = absurd g
    own_heads at (While' test a body) rest r (inr g) h = absurd g
    own_heads at (Hand x role) rest r (inr g) h = absurd g
    own_heads at Skip rest r (inr g) h = absurd g

    do_back : {st : Stmt} {rest : Point} (r : Point) → Follows p st rest → Next (Do st ∷ rest) r → Heads r → Has p.body st × Accesses st
    do_back r (follows st sts after d) g h = (stands_has p st d (inl refl), own_heads st.node st.kind (map Do sts ++ after) r g h)

    test_back : {n : NodeId} {test : Option Cond} {body : List Stmt} {rest : Point} (r : Point) → Loops p n test body rest → Next (Test n test body ∷ rest) r → Heads r → (s : Stmt) × (s.node.id ≡ n) × Has p.body s × Accesses s
    test_back r (a_for at x lo hi a body sts after d) (inl g) h = absurd (none_done (block body) (Turn at.id None (block body) ∷ []) (map Do sts ++ after) (λ y. y) (same_heads r _ g h))
    test_back r (a_for at x lo hi a body sts after d) (inr (inl g)) h = absurd (same_heads r (Exit at.id ∷ (map Do sts ++ after)) g h)
    test_back r (a_for at x lo hi a body sts after d) (inr (inr g)) h = absurd g
    test_back r (a_while at test a body sts after d) (inl g) h =
        let s : Stmt = record { node = at; kind = While' test a body } in
        let turn : Point = (map Do (block body) ++ Turn at.id (Some test) (block body) ∷ []) ++ (map Do sts ++ after) in (
          s,
          refl,
          stands_has p s d (inl refl),
          elim (in_either (cond_reads test.kind) (head_sites turn) v (same_heads r (Judge test ∷ turn) g h)) [
            | inl i ↦ i
            | inr i ↦ absurd (none_done (block body) (Turn at.id (Some test) (block body) ∷ []) (map Do sts ++ after) (λ y. y) i)
          ],
        )
    test_back r (a_while at test a body sts after d) (inr (inl g)) h =
        let s : Stmt = record { node = at; kind = While' test a body } in
        (s, refl, stands_has p s d (inl refl), elim (in_either (cond_reads test.kind) [] v (same_heads r (Judge test ∷ Exit at.id ∷ (map Do sts ++ after)) g h)) [ inl i ↦ i | inr i ↦ absurd i ])
    test_back r (a_while at test a body sts after d) (inr (inr g)) h = absurd g

    back : (q r : Point) → Lies p q → Next q r → Heads r → Heads q ⊎ Begins q
    back [] r l g h = absurd g
    back (Begin ∷ rest) r l (inl g) h = absurd (none_listed p.body (same_heads r (map Do p.body) (g ∙ l) h))
    back (Begin ∷ rest) r l (inr g) h = absurd g
    back (Do st ∷ rest) r l g h = inr (do_back r l g h)
    back (Behind n ∷ rest) r l (inl g) h = absurd (none_left l (same_heads r rest g h))
    back (Behind n ∷ rest) r l (inr g) h = absurd g
    back (Enter n test body ∷ rest) r l (inl g) h = absurd (same_heads r (Test n test body ∷ rest) g h)
    back (Enter n test body ∷ rest) r l (inr g) h = absurd g
    back (Test n test body ∷ rest) r l g h = inr (test_back r l g h)
    back (Turn n test body ∷ rest) r l (inl g) h = absurd (same_heads r (Test n test body ∷ rest) g h)
    back (Turn n test body ∷ rest) r l (inr g) h = absurd g
    back (Exit n ∷ rest) r l (inl g) h = absurd (same_heads r (Behind n ∷ rest) g h)
    back (Exit n ∷ rest) r l (inr g) h = absurd g
    back (Judge c ∷ rest) r l (inl g) h = inl (same_heads r (Decide c.kind ∷ rest) g h)
    back (Judge c ∷ rest) r l (inr g) h = absurd g
    back (Decide c ∷ rest) r l g h = inl (cond_heads c rest r g h)
    back (See n ∷ rest) r l (inl g) h = inl (inr (same_heads r rest g h))
    back (See n ∷ rest) r l (inr g) h = absurd g

    module _ (barrier : ℕ → Bool) where
      -- the statement of the access, entered at a point between
      abbrev Between : Point → Point → Type 0
      Between q r = (st : Stmt) × (rest : Point) × LeadsTo barrier q (Do st ∷ rest) × LeadsTo barrier (Do st ∷ rest) r × Has p.body st × Accesses st

      begun : (q w r : Point) → Next q w → cut_at barrier w ≡ None → LeadsTo barrier w r → Begins w → Between q r
      begun q [] r g c path b = absurd b
      begun q (Do st ∷ rest) r g c path b = (st, rest, step g, path, b.0, b.1)
      begun q (Test n test body ∷ rest) r g c path b = absurd (some-none c)
      begun q (See n ∷ rest) r g c path b = absurd b
      begun q (Judge d ∷ rest) r g c path b = absurd b
      begun q (Decide d ∷ rest) r g c path b = absurd b
      begun q (Begin ∷ rest) r g c path b = absurd b
      begun q (Behind n ∷ rest) r g c path b = absurd b
      begun q (Enter n test body ∷ rest) r g c path b = absurd b
      begun q (Turn n test body ∷ rest) r g c path b = absurd b
      begun q (Exit n ∷ rest) r g c path b = absurd b

      path_back : {q r : Point} → LeadsTo barrier q r → Lies p q → Heads r → Heads q ⊎ (Begins q ⊎ Between q r)
      path_back (step {from = q} {to = r} g) l h = elim (back q r l g h) [ inl i ↦ inl i | inr i ↦ inr (inl i) ]
      path_back (steps {from = q} {via = w} {to = r} g c path) l h = elim (path_back path (next_lies p q w l g) h) [
        | inl i ↦ elim (back q w l g i) [ inl j ↦ inl j | inr j ↦ inr (inl j) ]
        | inr (inl b) ↦ inr (inr (begun q w r g c path b))
        | inr (inr b) ↦ inr (inr (b.0, b.1, steps g c b.2, b.3, b.4, b.5))
      ]

      behind_no_site : (n : NodeId) (b : Bool) → (if b then Some (Barrier n) else None) ≡ Some (Site v) → ⊥
      behind_no_site n true e = cc
      behind_no_site n false e = none-some e

      target_heads : (q : Point) → target_at barrier q ≡ Some (Site v) → Heads q
      target_heads [] e = absurd (none-some e)
      target_heads (See n ∷ rest) e = inl (sym (ap target_node (some-same e)))
      target_heads (Judge c ∷ rest) e = absurd (none-some e)
      target_heads (Decide c ∷ rest) e = absurd (none-some e)
      target_heads (Begin ∷ rest) e = absurd (none-some e)
      target_heads (Do st ∷ rest) e = absurd (none-some e)
      target_heads (Behind n ∷ rest) e = absurd (behind_no_site n (barrier n.0) e)
      target_heads (Enter n test body ∷ rest) e = cc
      target_heads (Test n test body ∷ rest) e = absurd (none-some e)
      target_heads (Turn n test body ∷ rest) e = cc
      target_heads (Exit n ∷ rest) e = absurd (none-some e)

      cut_no_heads : (q : Point) (c : Cut) → cut_at barrier q ≡ Some c → Heads q → ⊥
      cut_no_heads [] c e h = h
      cut_no_heads (See n ∷ rest) c e h = none-some e
      cut_no_heads (Judge d ∷ rest) c e h = none-some e
      cut_no_heads (Decide d ∷ rest) c e h = none-some e
      cut_no_heads (Begin ∷ rest) c e h = h
      cut_no_heads (Do st ∷ rest) c e h = h
      cut_no_heads (Behind n ∷ rest) c e h = h
      cut_no_heads (Enter n test body ∷ rest) c e h = h
      cut_no_heads (Test n test body ∷ rest) c e h = h
      cut_no_heads (Turn n test body ∷ rest) c e h = h
      cut_no_heads (Exit n ∷ rest) c e h = h

      module _ (rises : Rises 0 (nodes_of_list p.body)) (s : Stmt) (has : Has p.body s) (makes : Accesses s) where
        cut_begins : (q : Point) (c : Cut) → cut_at barrier q ≡ Some c → Begins q → BelongsTo c s.node.id
        cut_begins [] c e b = absurd b
        cut_begins (See n ∷ rest) c e b = absurd b
        cut_begins (Judge d ∷ rest) c e b = absurd b
        cut_begins (Decide d ∷ rest) c e b = absurd b
        cut_begins (Begin ∷ rest) c e b = absurd b
        cut_begins (Do st ∷ rest) c e b = absurd (none-some e)
        cut_begins (Behind n ∷ rest) c e b = absurd b
        cut_begins (Enter n test body ∷ rest) c e b = absurd b
        cut_begins (Test n test body ∷ rest) c e b =
            subst (λ (d : Cut). BelongsTo d s.node.id) (some-same e) (list_one p.body s b.0 rises makes b.3 has b.2 ∙ b.1)
        cut_begins (Turn n test body ∷ rest) c e b = absurd b
        cut_begins (Exit n ∷ rest) c e b = absurd b

        pub site_entered : (c : Cut) → Reaches p barrier c (Site v) → BelongsTo c s.node.id ⊎ ((via : Point) × LeadsBy p barrier c (Site v) via × EntersAt via s.node.id)
        site_entered c r = elim (path_back r.path (point_lies p r.of_program) (target_heads r.to r.is_target)) [
          | inl h ↦ absurd (cut_no_heads r.from c r.is_cut h)
          | inr (inl b) ↦ inl (cut_begins r.from c r.is_cut b)
          | inr (inr b) ↦ (let by : LeadsBy p barrier c (Site v) (Do b.0 ∷ b.1) = record { from = r.from; to = r.to; of_program = r.of_program; is_cut = r.is_cut; before = b.2; behind = b.3; is_target = r.is_target } in
              inr (Do b.0 ∷ b.1, by, list_one p.body s b.0 rises makes b.5 has b.4))
        ]
