-- The nodes of the sites at which the policy needs something mark the accesses: the nodes are different, so each has its own site.
use Rattle.std.proofs.Common.{◌≡◌, ℕ, zero, suc, nat_eq, ◌+◌, ◌≤◌, List, [], ◌∷◌, ◌++◌, Bool, true, false, ◌&&◌, ◌||◌, Option, Some, None, is_some, ℤ, refl, sym, ◌∙◌, ap, subst, arith, inl, inr, if◌then◌else◌}
use Rattle.std.specs.List.{list_any}
use Rattle.std.proofs.lemmas.Bool.{eq-eqb}
use Rattle.ac_tree.specs.declared.node.NodeId.{NodeId}
use Rattle.ac_tree.specs.declared.path.Target.{Target}
use Rattle.ac_tree.specs.declared.path.Target.TheVariants as target
use Rattle.ac_tree.specs.declared.program.CondKind.{CondKind}
use Rattle.ac_tree.specs.declared.program.CondKind.TheVariants.{True, False, Rel}
use Rattle.ac_tree.specs.declared.program.ExprKind.{ExprKind}
use Rattle.ac_tree.specs.declared.program.ExprKind.TheVariants.{Num, Get, Read}
use Rattle.ac_tree.specs.declared.program.Index.{Index}
use Rattle.ac_tree.specs.declared.program.Program.{Program}
use Rattle.ac_tree.specs.declared.program.Stmt.{Stmt}
use Rattle.ac_tree.specs.declared.program.StmtKind.{StmtKind, Row_of-Stmt, end_of-Stmt, more_of-Stmt, Set, Put, If', For', While', Hand, Skip}
use Rattle.ac_tree.specs.Numbering.{program_nodes}
use Rattle.ac_tree.specs.Patterns.{Negative, Plus, Minus, Times, OneIndex, TwoIndexes, Negation, Conjunction, Disjunction}
use Rattle.ac_tree.specs.Preorder.{inside_expr, inside_index, inside_cond, inside_stmt, nodes_of_row, nodes_of_list, nodes_of_items, nodes_of, numbers_from, IsNumbered}
use Rattle.ac_tree.proofs.NodeLaws.{numbered_in_preorder}
use Rattle.ac_run.specs.Declarations.{constant_of}
use Rattle.ac_flow.specs.Listed.{IsListed}
use Rattle.ac_flow.specs.Pairs.{is_subject}
use Rattle.ac_logic.specs.declared.formula.Formula.{Formula}
use Rattle.ac_policy.specs.declared.site.Site.{Site}
use Rattle.ac_policy.specs.declared.site.SiteKind.TheVariants as kind
use Rattle.ac_policy.specs.Sites.{site_at, unless_constant, read_sites, scalar_write, expr_sites, index_sites, cond_sites, stmt_sites, block_sites, list_sites, sites_of}
use Rattle.ac_policy.specs.Terms.{zero_term, first_index, second_index}
use Rattle.ac_conditions.proofs.BarriersOfCuts.{any_append}
use Rattle.ac_conditions.proofs.ConditionsInOrder.{Stand, sites_join, read_stands, expr_stands, index_stands, test_stands}
use Rattle.ac_conditions.proofs.PairsInOrder.{targets_at}
use Rattle.ac_conditions.proofs.Sublists.{IsSublist, late, listed, AreApart, AreRisingFrom, rising_apart}
use Rattle.ac_conditions.proofs.TargetsCover.{same_number}
use Rattle.ac_conditions.specs.Marked.{ExprMarked, IndexMarked, CondMarked, StmtMarked, BlockMarked, ListMarked, AreMarked, needed_nodes}
use Rattle.ac_conditions.specs.Opened.{hidden, expr_shape, expr_child, cond_shape, cond_child}
use Rattle.ac_conditions.specs.Preconditions.{element_write, role_use}
use Rattle.ac_conditions.specs.Targets.{site_targets}

-- nodes that are apart
in_second : (xs ys : List NodeId) (z : NodeId) → IsListed ys z → IsListed (xs ++ ys) z
in_second [] ys z h = h
in_second (x ∷ xs) ys z h = inr (in_second xs ys z h)

in_first : (xs ys : List NodeId) (z : NodeId) → IsListed xs z → IsListed (xs ++ ys) z
in_first [] ys z h = absurd h
in_first (x ∷ xs) ys z (inl e) = inl e
in_first (x ∷ xs) ys z (inr h) = inr (in_first xs ys z h)

apart_left : (ns ms : List NodeId) → AreApart (ns ++ ms) → AreApart ns
apart_left [] ms a = tt
apart_left (n ∷ ns) ms a = (λ h. a.0 (in_first ns ms n h), apart_left ns ms a.1)

apart_right : (ns ms : List NodeId) → AreApart (ns ++ ms) → AreApart ms
apart_right [] ms a = a
apart_right (n ∷ ns) ms a = apart_right ns ms a.1

in_one : (ns ms : List NodeId) (n : NodeId) → AreApart (ns ++ ms) → IsListed ns n → IsListed ms n → ⊥
in_one [] ms n a h k = absurd h
in_one (m ∷ ns) ms n a (inl e) k = a.0 (in_second ns ms m (subst (λ (i : NodeId). IsListed ms i) e k))
in_one (m ∷ ns) ms n a (inr h) k = in_one ns ms n a.1 h k

-- the nodes of the sites that stand there
node_listed : (ns : List NodeId) (n : NodeId) → IsListed (targets_at ns) (target.Site n) → IsListed ns n
node_listed [] n h = absurd h
node_listed (m ∷ ns) n (inl e) = absurd (entry_apart e)
  where
    entry_apart : target.Site n ≡ target.Entry m → ⊥
    entry_apart e = cc
node_listed (m ∷ ns) n (inr (inl e)) = absurd (keep_apart e)
  where
    keep_apart : target.Site n ≡ target.Keep m → ⊥
    keep_apart e = cc
node_listed (m ∷ ns) n (inr (inr (inl e))) = absurd (barrier_apart e)
  where
    barrier_apart : target.Site n ≡ target.Barrier m → ⊥
    barrier_apart e = cc
node_listed (m ∷ ns) n (inr (inr (inr (inl e)))) = inl (ap node_or e)
  where
    node_or : Target → NodeId
    node_or (target.Site k) = k
    node_or (target.Entry k) = k
    node_or (target.Keep k) = k
    node_or (target.Barrier k) = k
node_listed (m ∷ ns) n (inr (inr (inr (inr h)))) = inr (node_listed ns n h)

module _ (need : Site → Option Formula) where
  abbrev needed_at : List Site → ℕ → Bool
  needed_at ss k = list_any (λ s. is_some (need s) && nat_eq s.node.0 k) ss

  needed_append : (ss more : List Site) (k : ℕ) → needed_at (ss ++ more) k ≡ (needed_at ss k || needed_at more k)
  needed_append ss more k = any_append (λ s. is_some (need s) && nat_eq s.node.0 k) ss more

  -- sites at other nodes
  needed_nowhere : (ss : List Site) (ns : List NodeId) (n : NodeId) → ((t : Target) → IsListed (site_targets ss) t → IsListed (targets_at ns) t) → (IsListed ns n → ⊥) → needed_at ss n.0 ≡ false
  needed_nowhere [] ns n f a = refl
  needed_nowhere (s ∷ ss) ns n f a = by (nat_eq s.node.0 n.0) refl (is_some (need s)) (needed_nowhere ss ns n (λ t h. f t (inr h)) a)
    where
      by : (b : Bool) → nat_eq s.node.0 n.0 ≡ b → (c : Bool) → needed_at ss n.0 ≡ false → ((c && b) || needed_at ss n.0) ≡ false
      by true e c h =
          let here : s.node ≡ n = λ i. record { 0 = (same_number s.node.0 n.0 e) i } in
          absurd (a (subst (λ (m : NodeId). IsListed ns m) here (node_listed ns s.node (f (target.Site s.node) (inl refl)))))
      by false e true h = h
      by false e false h = h

  needed_read : (o : Option ℤ) (s : Site) → needed_at (unless_constant o s) s.node.0 ≡ list_any (λ x. is_some (need x)) (unless_constant o s)
  needed_read (Some v) s = refl
  needed_read None s = ap (λ (b : Bool). (is_some (need s) && b) || false) (eq-eqb s.node.0 s.node.0 refl) ∙ by (is_some (need s))
    where
      by : (b : Bool) → ((b && true) || false) ≡ (b || false)
      by true = refl
      by false = refl

  subject_needed : (ss : List Site) (k : ℕ) → is_subject (needed_nodes need ss) k ≡ needed_at ss k
  subject_needed [] k = refl
  subject_needed (s ∷ ss) k = by (is_some (need s)) (subject_needed ss k)
    where
      by : (b : Bool) → is_subject (needed_nodes need ss) k ≡ needed_at ss k → is_subject (if b then s.node ∷ needed_nodes need ss else needed_nodes need ss) k ≡ ((b && nat_eq s.node.0 k) || needed_at ss k)
      by true h = ap (λ (x : Bool). nat_eq s.node.0 k || x) h
      by false h = h

  or_false : (b : Bool) → (b || false) ≡ b
  or_false true = refl
  or_false false = refl

  module _ (p : Program) (subject : ℕ → Bool) where
    -- at these nodes, which are apart, the marks are those of these sites, which stand at them
    record Local (ss : List Site) (ns : List NodeId) : Type 0 where
      told : (n : NodeId) → IsListed ns n → subject n.0 ≡ needed_at ss n.0
      apart : AreApart ns

    below : (ss : List Site) (n : NodeId) (ns : List NodeId) → Local ss (n ∷ ns) → Local ss ns
    below ss n ns l = record { told = λ m h. l.told m (inr h); apart = l.apart.1 }

    first : (ss more : List Site) (ns ms : List NodeId) → Stand (site_targets more) ms → Local (ss ++ more) (ns ++ ms) → Local ss ns
    first ss more ns ms h l = record {
      told = λ n i. l.told n (in_first ns ms n i) ∙ needed_append ss more n.0 ∙ ap (λ (b : Bool). needed_at ss n.0 || b) (needed_nowhere more ms n (listed (site_targets more) (targets_at ms) h) (in_one ns ms n l.apart i)) ∙ or_false (needed_at ss n.0);
      apart = apart_left ns ms l.apart;
    }

    second : (ss more : List Site) (ns ms : List NodeId) → Stand (site_targets ss) ns → Local (ss ++ more) (ns ++ ms) → Local more ms
    second ss more ns ms h l = record {
      told = λ n i. l.told n (in_second ns ms n i) ∙ needed_append ss more n.0 ∙ ap (λ (b : Bool). b || needed_at more n.0) (needed_nowhere ss ns n (listed (site_targets ss) (targets_at ns) h) (λ j. in_one ns ms n l.apart j i));
      apart = apart_right ns ms l.apart;
    }

    here : (n : NodeId) → IsSublist (target.Site n ∷ []) (targets_at (n ∷ []))
    here n = inr (inr (inr (inl (refl, tt))))

    below_one : (ss : List Site) (n : NodeId) (ns : List NodeId) → Stand (site_targets ss) ns → Stand (site_targets ss) (n ∷ ns)
    below_one ss n ns h = late (site_targets ss) (targets_at (n ∷ [])) (targets_at ns) h

    read_marked : (o : Option ℤ) (s : Site) (ns : List NodeId) → Local (unless_constant o s) (s.node ∷ ns) → subject s.node.0 ≡ list_any (λ x. is_some (need x)) (unless_constant o s)
    read_marked o s ns l = l.told s.node (inl refl) ∙ needed_read o s

    one_marked : (s : Site) (ns : List NodeId) → Local (s ∷ []) (s.node ∷ ns) → subject s.node.0 ≡ list_any (λ x. is_some (need x)) (s ∷ [])
    one_marked s ns l = read_marked None s ns l

    mutual
      unfolding hidden expr_shape expr_child

      expr_marked : (n : NodeId) (e : ExprKind) → Local (expr_sites p n e) (n ∷ inside_expr e) → ExprMarked p need subject n e
      expr_marked n (Num k) l = tt
      expr_marked n (Get x) l = read_marked (constant_of p x) (site_at n kind.Read x zero_term zero_term) [] l
      expr_marked n (Read x at) l =
          let s = site_at n kind.Read x (first_index p at) (second_index p at) in
          let ss = read_sites p n x (first_index p at) (second_index p at) in (
            read_marked (constant_of p x) s [] (first ss (index_sites p at) (n ∷ []) (inside_index at) (index_stands p at) l),
            index_marked at (second ss (index_sites p at) (n ∷ []) (inside_index at) (read_stands p n (constant_of p x) x (first_index p at) (second_index p at)) l),
          )
      expr_marked n (Negative k a) l = expr_marked k.id a (below (expr_sites p k.id a) n (k.id ∷ inside_expr a) l)
      expr_marked n (Plus k a m b) l =
          let A = k.id ∷ inside_expr a in
          let B = m.id ∷ inside_expr b in
          let r = below (expr_sites p k.id a ++ expr_sites p m.id b) n (A ++ B) l in
          (expr_marked k.id a (first (expr_sites p k.id a) (expr_sites p m.id b) A B (expr_stands p m.id b) r), expr_marked m.id b (second (expr_sites p k.id a) (expr_sites p m.id b) A B (expr_stands p k.id a) r))
      expr_marked n (Minus k a m b) l =
          let A = k.id ∷ inside_expr a in
          let B = m.id ∷ inside_expr b in
          let r = below (expr_sites p k.id a ++ expr_sites p m.id b) n (A ++ B) l in
          (expr_marked k.id a (first (expr_sites p k.id a) (expr_sites p m.id b) A B (expr_stands p m.id b) r), expr_marked m.id b (second (expr_sites p k.id a) (expr_sites p m.id b) A B (expr_stands p k.id a) r))
      expr_marked n (Times k a m b) l =
          let A = k.id ∷ inside_expr a in
          let B = m.id ∷ inside_expr b in
          let r = below (expr_sites p k.id a ++ expr_sites p m.id b) n (A ++ B) l in
          (expr_marked k.id a (first (expr_sites p k.id a) (expr_sites p m.id b) A B (expr_stands p m.id b) r), expr_marked m.id b (second (expr_sites p k.id a) (expr_sites p m.id b) A B (expr_stands p k.id a) r))

      index_marked : (at : Index) → Local (index_sites p at) (inside_index at) → IndexMarked p need subject at
      index_marked (OneIndex k a) l = expr_marked k.id a l
      index_marked (TwoIndexes k a m b) l =
          let A = k.id ∷ inside_expr a in
          let B = m.id ∷ inside_expr b in
          (expr_marked k.id a (first (expr_sites p k.id a) (expr_sites p m.id b) A B (expr_stands p m.id b) l), expr_marked m.id b (second (expr_sites p k.id a) (expr_sites p m.id b) A B (expr_stands p k.id a) l))

    cond_marked : (c : CondKind) → Local (cond_sites p c) (inside_cond c) → CondMarked p need subject c
    unfolding hidden cond_shape cond_child
    cond_marked True l = tt
    cond_marked False l = tt
    cond_marked (Rel op a b) l =
        let A = a.node.id ∷ inside_expr a.kind in
        let B = b.node.id ∷ inside_expr b.kind in
        let xs = expr_sites p a.node.id a.kind in
        let ys = expr_sites p b.node.id b.kind in
        (expr_marked a.node.id a.kind (first xs ys A B (expr_stands p b.node.id b.kind) l), expr_marked b.node.id b.kind (second xs ys A B (expr_stands p a.node.id a.kind) l))
    cond_marked (Negation n c) l = cond_marked c (below (cond_sites p c) n.id (inside_cond c) l)
    cond_marked (Conjunction n c m d) l =
        let C = n.id ∷ inside_cond c in
        let D = m.id ∷ inside_cond d in (
          cond_marked c (below (cond_sites p c) n.id (inside_cond c) (first (cond_sites p c) (cond_sites p d) C D (test_stands p m.id d) l)),
          cond_marked d (below (cond_sites p d) m.id (inside_cond d) (second (cond_sites p c) (cond_sites p d) C D (test_stands p n.id c) l)),
        )
    cond_marked (Disjunction n c m d) l =
        let C = n.id ∷ inside_cond c in
        let D = m.id ∷ inside_cond d in (
          cond_marked c (below (cond_sites p c) n.id (inside_cond c) (first (cond_sites p c) (cond_sites p d) C D (test_stands p m.id d) l)),
          cond_marked d (below (cond_sites p d) m.id (inside_cond d) (second (cond_sites p c) (cond_sites p d) C D (test_stands p n.id c) l)),
        )

    mutual
      stmt_stands : (n : NodeId) (st : StmtKind) → Stand (site_targets (stmt_sites p n st)) (n ∷ inside_stmt st)
      stmt_stands n (Set x e) = sites_join (scalar_write n x ∷ []) (expr_sites p e.node.id e.kind) (n ∷ []) (e.node.id ∷ inside_expr e.kind) (here n) (expr_stands p e.node.id e.kind)
      stmt_stands n (Put x at e) =
          sites_join (element_write p n x at ∷ []) (index_sites p at ++ expr_sites p e.node.id e.kind) (n ∷ []) (inside_index at ++ (e.node.id ∷ inside_expr e.kind)) (here n)
          (sites_join (index_sites p at) (expr_sites p e.node.id e.kind) (inside_index at) (e.node.id ∷ inside_expr e.kind) (index_stands p at) (expr_stands p e.node.id e.kind))
      stmt_stands n (If' c _ y _ z) =
          let C = c.node.id ∷ inside_cond c.kind in
          below_one (cond_sites p c.kind ++ (block_sites p y ++ block_sites p z)) n (C ++ (nodes_of_row y ++ nodes_of_row z))
          (sites_join (cond_sites p c.kind) (block_sites p y ++ block_sites p z) C (nodes_of_row y ++ nodes_of_row z) (test_stands p c.node.id c.kind)
          (sites_join (block_sites p y) (block_sites p z) (nodes_of_row y) (nodes_of_row z) (row_stands y) (row_stands z)))
      stmt_stands n (For' x a b _ body) =
          let A = a.node.id ∷ inside_expr a.kind in
          let B = b.node.id ∷ inside_expr b.kind in
          below_one (expr_sites p a.node.id a.kind ++ (expr_sites p b.node.id b.kind ++ block_sites p body)) n (A ++ (B ++ nodes_of_row body))
          (sites_join (expr_sites p a.node.id a.kind) (expr_sites p b.node.id b.kind ++ block_sites p body) A (B ++ nodes_of_row body) (expr_stands p a.node.id a.kind)
          (sites_join (expr_sites p b.node.id b.kind) (block_sites p body) B (nodes_of_row body) (expr_stands p b.node.id b.kind) (row_stands body)))
      stmt_stands n (While' c _ body) =
          let C = c.node.id ∷ inside_cond c.kind in
          below_one (cond_sites p c.kind ++ block_sites p body) n (C ++ nodes_of_row body)
          (sites_join (cond_sites p c.kind) (block_sites p body) C (nodes_of_row body) (test_stands p c.node.id c.kind) (row_stands body))
      stmt_stands n (Hand x role) = here n
      stmt_stands n Skip = tt

      row_stands : {k : _} (row : Row_of-Stmt k) → Stand (site_targets (block_sites p row)) (nodes_of_row row)
      row_stands end_of-Stmt = tt
      row_stands (more_of-Stmt n st rest) = sites_join (stmt_sites p n.id st) (block_sites p rest) (n.id ∷ inside_stmt st) (nodes_of_row rest) (stmt_stands n.id st) (row_stands rest)

    list_stands : (sts : List Stmt) → Stand (site_targets (list_sites p sts)) (nodes_of_list sts)
    list_stands [] = tt
    list_stands (st ∷ sts) = sites_join (stmt_sites p st.node.id st.kind) (list_sites p sts) (st.node.id ∷ inside_stmt st.kind) (nodes_of_list sts) (stmt_stands st.node.id st.kind) (list_stands sts)

    mutual
      stmt_marked : (n : NodeId) (st : StmtKind) → Local (stmt_sites p n st) (n ∷ inside_stmt st) → StmtMarked p need subject n st
      stmt_marked n (Set x e) l =
          let E = e.node.id ∷ inside_expr e.kind in
          let es = expr_sites p e.node.id e.kind in
          let s = scalar_write n x in
          (one_marked s [] (first (s ∷ []) es (n ∷ []) E (expr_stands p e.node.id e.kind) l), expr_marked e.node.id e.kind (second (s ∷ []) es (n ∷ []) E (here n) l))
      stmt_marked n (Put x at e) l =
          let E = e.node.id ∷ inside_expr e.kind in
          let es = expr_sites p e.node.id e.kind in
          let s = element_write p n x at in
          let more = second (s ∷ []) (index_sites p at ++ es) (n ∷ []) (inside_index at ++ E) (here n) l in (
            one_marked s [] (first (s ∷ []) (index_sites p at ++ es) (n ∷ []) (inside_index at ++ E) (sites_join (index_sites p at) es (inside_index at) E (index_stands p at) (expr_stands p e.node.id e.kind)) l),
            index_marked at (first (index_sites p at) es (inside_index at) E (expr_stands p e.node.id e.kind) more),
            expr_marked e.node.id e.kind (second (index_sites p at) es (inside_index at) E (index_stands p at) more),
          )
      stmt_marked n (If' c _ y _ z) l =
          let C = c.node.id ∷ inside_cond c.kind in
          let Y = nodes_of_row y in
          let Z = nodes_of_row z in
          let cs = cond_sites p c.kind in
          let ys = block_sites p y in
          let zs = block_sites p z in
          let all = below (cs ++ (ys ++ zs)) n (C ++ (Y ++ Z)) l in
          let more = second cs (ys ++ zs) C (Y ++ Z) (test_stands p c.node.id c.kind) all in (
            cond_marked c.kind (below cs c.node.id (inside_cond c.kind) (first cs (ys ++ zs) C (Y ++ Z) (sites_join ys zs Y Z (row_stands y) (row_stands z)) all)),
            block_marked y (first ys zs Y Z (row_stands z) more),
            block_marked z (second ys zs Y Z (row_stands y) more),
          )
      stmt_marked n (For' x a b _ body) l =
          let A = a.node.id ∷ inside_expr a.kind in
          let B = b.node.id ∷ inside_expr b.kind in
          let R = nodes_of_row body in
          let xs = expr_sites p a.node.id a.kind in
          let ys = expr_sites p b.node.id b.kind in
          let zs = block_sites p body in
          let all = below (xs ++ (ys ++ zs)) n (A ++ (B ++ R)) l in
          let more = second xs (ys ++ zs) A (B ++ R) (expr_stands p a.node.id a.kind) all in (
            expr_marked a.node.id a.kind (first xs (ys ++ zs) A (B ++ R) (sites_join ys zs B R (expr_stands p b.node.id b.kind) (row_stands body)) all),
            expr_marked b.node.id b.kind (first ys zs B R (row_stands body) more),
            block_marked body (second ys zs B R (expr_stands p b.node.id b.kind) more),
          )
      stmt_marked n (While' c _ body) l =
          let C = c.node.id ∷ inside_cond c.kind in
          let R = nodes_of_row body in
          let cs = cond_sites p c.kind in
          let zs = block_sites p body in
          let all = below (cs ++ zs) n (C ++ R) l in
          (cond_marked c.kind (below cs c.node.id (inside_cond c.kind) (first cs zs C R (row_stands body) all)), block_marked body (second cs zs C R (test_stands p c.node.id c.kind) all))
      stmt_marked n (Hand x role) l = one_marked (role_use p n x role) [] l
      stmt_marked n Skip l = tt

      block_marked : {k : _} (row : Row_of-Stmt k) → Local (block_sites p row) (nodes_of_row row) → BlockMarked p need subject row
      block_marked end_of-Stmt l = tt
      block_marked (more_of-Stmt n st rest) l =
          let N = n.id ∷ inside_stmt st in (
            stmt_marked n.id st (first (stmt_sites p n.id st) (block_sites p rest) N (nodes_of_row rest) (row_stands rest) l),
            block_marked rest (second (stmt_sites p n.id st) (block_sites p rest) N (nodes_of_row rest) (stmt_stands n.id st) l),
          )

    list_marked : (sts : List Stmt) → Local (list_sites p sts) (nodes_of_list sts) → ListMarked p need subject sts
    list_marked [] l = tt
    list_marked (st ∷ sts) l =
        let N = st.node.id ∷ inside_stmt st.kind in (
          stmt_marked st.node.id st.kind (first (stmt_sites p st.node.id st.kind) (list_sites p sts) N (nodes_of_list sts) (list_stands sts) l),
          list_marked sts (second (stmt_sites p st.node.id st.kind) (list_sites p sts) N (nodes_of_list sts) (stmt_stands st.node.id st.kind) l),
        )

numbers_rise : (count i least : ℕ) → least ≤ i → AreRisingFrom (λ (n : NodeId). n.0) least (numbers_from i count)
numbers_rise zero i least h = tt
numbers_rise (suc count) i least h = (h, numbers_rise count (i + 1) (i + 1) (omega arith))

pub needed_marked_from : (p : Program) (need : Site → Option Formula) (count : ℕ) → nodes_of p ≡ numbers_from 0 count → AreMarked p need (is_subject (needed_nodes need (sites_of p)))
needed_marked_from p need count numbers =
    let apart : AreApart (nodes_of p) = subst (λ (ns : List NodeId). AreApart ns) (sym numbers) (rising_apart (λ (n : NodeId). n.0) 0 (numbers_from 0 count) (numbers_rise count 0 0 (omega arith))) in
    list_marked need p (is_subject (needed_nodes need (sites_of p))) p.body (record {
      told = λ n h. subject_needed need (sites_of p) n.0;
      apart = apart_right (nodes_of_items p.items) (nodes_of_list p.body) apart.1;
    })

pub needed_marked : (p : Program) (need : Site → Option Formula) → IsNumbered p → AreMarked p need (is_subject (needed_nodes need (sites_of p)))
needed_marked p need numbered = needed_marked_from p need (program_nodes p) (numbered_in_preorder p numbered)
