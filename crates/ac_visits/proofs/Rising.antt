-- The inputs and what a path names have rising numbers, since they stand in the order of the nodes of the program.
use Rattle.std.proofs.Common.{◌≡◌, ℕ, nat_eq, Bool, true, false, ◌||◌, ◌+◌, ◌≤◌, if◌then◌else◌, List, [], ◌∷◌, ◌++◌, refl, sym, ◌∙◌, ap, subst, arith, eq-eqb}
use Rattle.ac_tree.specs.declared.node.NodeId.{NodeId}
use Rattle.ac_tree.specs.declared.path.Cut.{Cut}
use Rattle.ac_tree.specs.declared.path.Cut.TheVariants as cut
use Rattle.ac_tree.specs.declared.path.Target.{Target}
use Rattle.ac_tree.specs.declared.program.CondKind.{CondKind}
use Rattle.ac_tree.specs.declared.program.CondKind.TheVariants.{True, False, Rel}
use Rattle.ac_tree.specs.declared.program.Item.{Item}
use Rattle.ac_tree.specs.declared.program.Program.{Program}
use Rattle.ac_tree.specs.declared.program.Stmt.{Stmt}
use Rattle.ac_tree.specs.declared.program.StmtKind.{StmtKind, Row_of-Stmt, end_of-Stmt, more_of-Stmt, Set, Put, If', For', While', Hand, Skip}
use Rattle.ac_tree.specs.Patterns.{Negation, Conjunction, Disjunction}
use Rattle.ac_tree.specs.Numbering.{program_nodes}
use Rattle.ac_tree.specs.Preorder.{inside_expr, inside_cond, inside_stmt, nodes_of_row, nodes_of_list, nodes_of_items, nodes_of, IsNumbered}
use Rattle.ac_tree.proofs.NodeLaws.{numbered_in_preorder}
use Rattle.ac_visits.specs.Opened.{hidden, cond_shape, cond_child}
use Rattle.ac_visits.specs.Rising.{Rises, IsOnce}
use Rattle.ac_walk.specs.Walks.{target_node, is_in_cond, lefts, parts, begins, list_begins, holder_of, is_for, past_by, meets, block_meets, entered, block_entered, list_entered, turn, at_cut, enclosing, deeper, block_from, leaves, from, held_from, list_from, path_nodes, is_input, inputs, walk_of}
use Rattle.std.specs.List.{list_any}
use mathlib.Core.Logic.{inl, inr}
use Rattle.ac_tree.specs.declared.path.Pair.{Pair}
use Rattle.ac_flow.specs.Cuts.{has_barrier}
use Rattle.ac_flow.specs.Listed.{IsListed}
use Rattle.ac_flow.specs.Pairs.{is_node}
use Rattle.ac_flow.specs.Through.{block_passes}
use Rattle.ac_flow.proofs.Within.{false-true}
use Rattle.ac_visits.proofs.OnPaths.{in_either}
use Rattle.ac_visits.proofs.Order.{weaker, above, numbers_rise, rises_right}

-- some of a list, in its order
pub data Some_of : List NodeId → List NodeId → Type 0 where
  none_of : (ys : List NodeId) → Some_of [] ys
  take_it : (y : NodeId) (xs ys : List NodeId) → Some_of xs ys → Some_of (y ∷ xs) (y ∷ ys)
  leave_it : (y : NodeId) (xs ys : List NodeId) → Some_of xs ys → Some_of xs (y ∷ ys)

all_of : (xs : List NodeId) → Some_of xs xs
all_of [] = none_of []
all_of (x ∷ xs) = take_it x xs xs (all_of xs)

late : (ys zs xs : List NodeId) → Some_of xs zs → Some_of xs (ys ++ zs)
late [] zs xs h = h
late (y ∷ ys) zs xs h = leave_it y xs (ys ++ zs) (late ys zs xs h)

joined : {us xs : List NodeId} (ys zs : List NodeId) → Some_of us ys → Some_of xs zs → Some_of (us ++ xs) (ys ++ zs)
joined {xs = xs} ys zs (none_of _) k = late ys zs xs k
joined {xs = xs} _ zs (take_it y us ys h) k = take_it y (us ++ xs) (ys ++ zs) (joined ys zs h k)
joined {xs = xs} _ zs (leave_it y us ys h) k = leave_it y (us ++ xs) (ys ++ zs) (joined ys zs h k)

early : {us : List NodeId} (ys zs : List NodeId) → Some_of us ys → Some_of us (ys ++ zs)
early ys zs (none_of _) = none_of (ys ++ zs)
early _ zs (take_it y us ys h) = take_it y us (ys ++ zs) (early ys zs h)
early _ zs (leave_it y us ys h) = leave_it y us (ys ++ zs) (early ys zs h)

where_of : (b : Bool) (xs ys : List NodeId) → Some_of xs ys → Some_of (if b then xs else []) ys
where_of true xs ys h = h
where_of false xs ys h = none_of ys

unless_of : (b : Bool) (xs ys : List NodeId) → Some_of xs ys → Some_of (if b then [] else xs) ys
unless_of true xs ys h = none_of ys
unless_of false xs ys h = h

either_of : (b : Bool) (us xs ys : List NodeId) → Some_of us ys → Some_of xs ys → Some_of (if b then us else xs) ys
either_of true us xs ys h k = h
either_of false us xs ys h k = k

parts_of : (my mn py pn : Bool) (us xs ys zs : List NodeId) → Some_of us ys → Some_of xs zs → Some_of (parts my mn py pn us xs) (ys ++ zs)
parts_of true mn py pn us xs ys zs h k = early ys zs h
parts_of false true py pn us xs ys zs h k = late ys zs xs k
parts_of false false py pn us xs ys zs h k = joined ys zs (where_of py us ys h) (where_of pn xs zs k)

around_of : (b : Bool) (n : NodeId) (xs ys : List NodeId) → Some_of xs ys → Some_of ((if b then n ∷ [] else []) ++ xs) (n ∷ ys)
around_of true n xs ys h = take_it n xs ys h
around_of false n xs ys h = leave_it n xs ys h

below : (a b : ℕ) → a ≤ b → a ≤ b + 1
below a b h = omega arith

some_rise : {xs : List NodeId} (i : ℕ) (ys : List NodeId) → Some_of xs ys → Rises i ys → Rises i xs
some_rise i ys (none_of _) r = tt
some_rise i _ (take_it y xs ys h) r = (r.0, some_rise (y.0 + 1) ys h r.1)
some_rise i _ (leave_it y xs ys h) r = some_rise i ys h (weaker i (y.0 + 1) ys (below i y.0 r.0) r.1)

lefts_of : (t : Target) (c : CondKind) → Some_of (lefts t c) (inside_cond c)
unfolding hidden cond_shape cond_child
lefts_of t True = none_of []
lefts_of t False = none_of []
lefts_of t (Rel op a b) = none_of _
lefts_of t (Negation n c) = leave_it n.id (lefts t c) (inside_cond c) (lefts_of t c)
lefts_of t (Conjunction n c m d) =
    take_it n.id _ _ (joined (inside_cond c) (m.id ∷ inside_cond d) (lefts_of t c) (unless_of (is_in_cond t c) (lefts t d) (m.id ∷ inside_cond d) (leave_it m.id (lefts t d) (inside_cond d) (lefts_of t d))))
lefts_of t (Disjunction n c m d) =
    take_it n.id _ _ (joined (inside_cond c) (m.id ∷ inside_cond d) (lefts_of t c) (unless_of (is_in_cond t c) (lefts t d) (m.id ∷ inside_cond d) (leave_it m.id (lefts t d) (inside_cond d) (lefts_of t d))))

module _ (barrier : ℕ → Bool) (t : Target) where
  mutual
    entered_of : (k : StmtKind) → Some_of (entered barrier t k) (inside_stmt k)
    entered_of (Set x e) = none_of _
    entered_of (Put x i e) = none_of _
    entered_of (For' x lo hi _ body) = none_of _
    entered_of (While' test _ body) = none_of _
    entered_of (Hand x role) = none_of _
    entered_of Skip = none_of _
    entered_of (If' c _ xs _ ys) =
        take_it c.node.id _ _ (joined (inside_cond c.kind) (nodes_of_row xs ++ nodes_of_row ys) (lefts_of t c.kind) (unless_of (is_in_cond t c.kind) _ (nodes_of_row xs ++ nodes_of_row ys)
        (parts_of (block_meets barrier t xs) (block_meets barrier t ys) (block_passes barrier xs) (block_passes barrier ys) (block_entered barrier t xs) (block_entered barrier t ys) (nodes_of_row xs) (nodes_of_row ys) (row_of xs) (row_of ys))))

    row_of : {k : _} (row : Row_of-Stmt k) → Some_of (block_entered barrier t row) (nodes_of_row row)
    row_of end_of-Stmt = none_of []
    row_of (more_of-Stmt n st rest) =
        take_it n.id _ _ (joined (inside_stmt st) (nodes_of_row rest) (entered_of st) (where_of (past_by barrier t n.id st (meets barrier t n.id st)) (block_entered barrier t rest) (nodes_of_row rest) (row_of rest)))

  list_of : (sts : List Stmt) → Some_of (list_entered barrier t sts) (nodes_of_list sts)
  list_of [] = none_of []
  list_of (st ∷ rest) =
      take_it st.node.id _ _ (joined (inside_stmt st.kind) (nodes_of_list rest) (entered_of st.kind) (where_of (past_by barrier t st.node.id st.kind (meets barrier t st.node.id st.kind)) (list_entered barrier t rest) (nodes_of_list rest) (list_of rest)))

  turn_of : (k : StmtKind) → Some_of (turn barrier t k) (inside_stmt k)
  turn_of (For' x lo hi _ body) = late (lo.node.id ∷ inside_expr lo.kind) _ _ (late (hi.node.id ∷ inside_expr hi.kind) (nodes_of_row body) _ (row_of body))
  turn_of (While' test _ body) =
      take_it test.node.id _ _ (joined (inside_cond test.kind) (nodes_of_row body) (lefts_of t test.kind) (unless_of (is_in_cond t test.kind) (block_entered barrier t body) (nodes_of_row body) (row_of body)))
  turn_of (Set x e) = none_of _
  turn_of (Put x i e) = none_of _
  turn_of (If' test _ yes_ _ no_) = none_of _
  turn_of (Hand x role) = none_of _
  turn_of Skip = none_of _

  at_cut_of : (c : Cut) (k : StmtKind) → Some_of (at_cut barrier t c k) (inside_stmt k)
  at_cut_of cut.Start k = none_of _
  at_cut_of (cut.Head n) k = turn_of k
  at_cut_of (cut.Exit n) k = none_of _
  at_cut_of (cut.After n) k = none_of _

  module _ (c : Cut) (at : NodeId) where
    mutual
      deeper_of : (k : StmtKind) → Some_of (deeper barrier t c at k) (inside_stmt k)
      deeper_of (If' test _ yes_ _ no_) =
          late (test.node.id ∷ inside_cond test.kind) (nodes_of_row yes_ ++ nodes_of_row no_) _
          (either_of (begins at no_) (block_from barrier t c at no_) (block_from barrier t c at yes_) (nodes_of_row yes_ ++ nodes_of_row no_) (late (nodes_of_row yes_) (nodes_of_row no_) _ (row_from_of no_)) (early (nodes_of_row yes_) (nodes_of_row no_) (row_from_of yes_)))
      deeper_of (For' x lo hi _ body) = late (lo.node.id ∷ inside_expr lo.kind) _ _ (late (hi.node.id ∷ inside_expr hi.kind) (nodes_of_row body) _ (row_from_of body))
      deeper_of (While' test _ body) = late (test.node.id ∷ inside_cond test.kind) (nodes_of_row body) _ (row_from_of body)
      deeper_of (Set x e) = none_of _
      deeper_of (Put x i e) = none_of _
      deeper_of (Hand x role) = none_of _
      deeper_of Skip = none_of _

      row_from_of : {k : _} (row : Row_of-Stmt k) → Some_of (block_from barrier t c at row) (nodes_of_row row)
      row_from_of end_of-Stmt = none_of []
      row_from_of (more_of-Stmt n st rest) =
          let s : Stmt = record { node = n; kind = st } in
          either_of (begins at rest) (block_from barrier t c at rest) (from barrier t c at s ++ (if leaves barrier t c at s then block_entered barrier t rest else [])) ((n.id ∷ inside_stmt st) ++ nodes_of_row rest)
          (late (n.id ∷ inside_stmt st) (nodes_of_row rest) _ (row_from_of rest))
          (joined (n.id ∷ inside_stmt st) (nodes_of_row rest)
          (either_of (nat_eq n.id.0 at.0) (n.id ∷ at_cut barrier t c st) (enclosing barrier t n.id st ++ deeper barrier t c at st) (n.id ∷ inside_stmt st) (take_it n.id _ _ (at_cut_of c st)) (around_of (is_for st || nat_eq (target_node t).0 n.id.0) n.id _ _ (deeper_of st)))
          (where_of (leaves barrier t c at s) (block_entered barrier t rest) (nodes_of_row rest) (row_of rest)))

    from_of : (s : Stmt) → Some_of (from barrier t c at s) (s.node.id ∷ inside_stmt s.kind)
    from_of s =
        either_of (nat_eq s.node.id.0 at.0) (s.node.id ∷ at_cut barrier t c s.kind) (enclosing barrier t s.node.id s.kind ++ deeper barrier t c at s.kind) (s.node.id ∷ inside_stmt s.kind)
        (take_it s.node.id _ _ (at_cut_of c s.kind)) (around_of (is_for s.kind || nat_eq (target_node t).0 s.node.id.0) s.node.id _ _ (deeper_of s.kind))

    held_of : (b : Bool) (st : Stmt) (rest : List Stmt) → Some_of (held_from barrier t c at (holder_of at rest)) (nodes_of_list rest) → Some_of (held_from barrier t c at (if b then holder_of at rest else st ∷ rest)) (nodes_of_list (st ∷ rest))
    held_of true st rest h = late (st.node.id ∷ inside_stmt st.kind) (nodes_of_list rest) _ h
    held_of false st rest h = joined (st.node.id ∷ inside_stmt st.kind) (nodes_of_list rest) (from_of st) (where_of (leaves barrier t c at st) (list_entered barrier t rest) (nodes_of_list rest) (list_of rest))

    list_from_of : (sts : List Stmt) → Some_of (list_from barrier t c at sts) (nodes_of_list sts)
    list_from_of [] = none_of []
    list_from_of (st ∷ rest) = held_of (list_begins at rest) st rest (list_from_of rest)

  path_of : (c : Cut) (body : List Stmt) → Some_of (path_nodes barrier t c body) (nodes_of_list body)
  path_of cut.Start body = list_of body
  path_of (cut.Head n) body = list_from_of (cut.Head n) n body
  path_of (cut.Exit n) body = list_from_of (cut.Exit n) n body
  path_of (cut.After n) body = list_from_of (cut.After n) n body

inputs_of : (ds : List Item) → Some_of (inputs ds) (nodes_of_items ds)
inputs_of [] = none_of []
inputs_of (d ∷ rest) = around_of (is_input d.kind) d.node.id (inputs rest) (nodes_of_items rest) (inputs_of rest)

pub path_rises : (p : Program) (barrier : ℕ → Bool) (t : Target) (c : Cut) → IsNumbered p → Rises 0 (inputs p.items ++ path_nodes barrier t c p.body)
path_rises p barrier t c n =
    let all : Rises 0 (nodes_of p) = subst (λ (ns : List NodeId). Rises 0 ns) (sym (numbered_in_preorder p n)) (numbers_rise 0 (program_nodes p)) in
    some_rise 0 (nodes_of_items p.items ++ nodes_of_list p.body) (joined (nodes_of_items p.items) (nodes_of_list p.body) (inputs_of p.items) (path_of barrier t c p.body))
    (rises_right 0 (p.node.id ∷ []) (nodes_of_items p.items ++ nodes_of_list p.body) all)

-- so no node stands twice

too_high : (n : ℕ) → n + 1 ≤ n → ⊥
too_high n h = omega arith

rise_once : (i : ℕ) (ns : List NodeId) → Rises i ns → IsOnce ns
rise_once i [] r = tt
rise_once i (n ∷ ns) r = (λ h. too_high n.0 (above (n.0 + 1) ns n r.1 h), rise_once (n.0 + 1) ns r.1)

once_more : (n : NodeId) (ns : List NodeId) → IsOnce ns → (IsListed ns n → ⊥) → IsOnce (ns ++ n ∷ [])
once_more n [] o f = (λ h. h, tt)
once_more n (m ∷ ns) o f = (fresh, once_more n ns o.1 (λ h. f (inr h)))
  where
    fresh : IsListed (ns ++ n ∷ []) m → ⊥
    fresh h = elim (in_either ns (n ∷ []) m h) [ inl i ↦ o.0 i | inr (inl e) ↦ f (inl (sym e)) | inr (inr e) ↦ e ]

or_else : (a b : Bool) → b ≡ true → (a || b) ≡ true
or_else true b h = refl
or_else false b h = h

or_first : (a b : Bool) → a ≡ true → (a || b) ≡ true
or_first true b h = refl
or_first false b h = cc

listed_any : (n : NodeId) (ns : List NodeId) → IsListed ns n → list_any (is_node n.0) ns ≡ true
listed_any n [] h = absurd h
listed_any n (m ∷ ns) (inl e) = or_first (nat_eq m.0 n.0) (list_any (is_node n.0) ns) (eq-eqb m.0 n.0 (ap (λ (k : NodeId). k.0) (sym e)))
listed_any n (m ∷ ns) (inr h) = or_else (nat_eq m.0 n.0) (list_any (is_node n.0) ns) (listed_any n ns h)

with_once : (n : NodeId) (ns : List NodeId) (b : Bool) → list_any (is_node n.0) ns ≡ b → IsOnce ns → IsOnce (if b then ns else ns ++ n ∷ [])
with_once n ns true e o = o
with_once n ns false e o = once_more n ns o (λ h. false-true (sym e ∙ listed_any n ns h))

pub walk_once : (p : Program) (cuts : List Cut) (pair : Pair) → IsNumbered p → IsOnce (walk_of p cuts pair)
walk_once p cuts pair n =
    let ns : List NodeId = inputs p.items ++ path_nodes (has_barrier cuts) pair.target pair.cut p.body in
    with_once (target_node pair.target) ns (list_any (is_node (target_node pair.target).0) ns) refl (rise_once 0 ns (path_rises p (has_barrier cuts) pair.target pair.cut n))
