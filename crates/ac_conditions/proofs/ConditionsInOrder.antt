-- The conditions stand by target and then by cut, in the order of the nodes.
use Rattle.std.proofs.Common.{◌≡◌, List, [], ◌∷◌, ◌++◌, Option, Some, None, ℤ, refl, sym, ap, subst, append_assoc, inl, inr}
use Rattle.ac_tree.specs.declared.node.NodeId.{NodeId}
use Rattle.ac_tree.specs.declared.path.Cut.{Cut}
use Rattle.ac_tree.specs.declared.path.Cut.TheVariants.{Start, Head, Exit, After}
use Rattle.ac_tree.specs.declared.path.Pair.{Pair}
use Rattle.ac_tree.specs.declared.path.Target.{Target}
use Rattle.ac_tree.specs.declared.path.Target.TheVariants as target
use Rattle.ac_tree.specs.declared.policy.PolicyName.{PolicyName}
use Rattle.ac_tree.specs.declared.program.CondKind.{CondKind}
use Rattle.ac_tree.specs.declared.program.CondKind.TheVariants.{True, False, Rel}
use Rattle.ac_tree.specs.declared.program.ExprKind.{ExprKind}
use Rattle.ac_tree.specs.declared.program.ExprKind.TheVariants.{Num, Get, Read}
use Rattle.ac_tree.specs.declared.program.Index.{Index}
use Rattle.ac_tree.specs.declared.program.Program.{Program}
use Rattle.ac_tree.specs.declared.program.Stmt.{Stmt}
use Rattle.ac_tree.specs.declared.program.StmtKind.{StmtKind, Row_of-Stmt, end_of-Stmt, more_of-Stmt, Set, Put, If', For', While', Hand, Skip}
use Rattle.ac_tree.specs.Patterns.{Negative, Plus, Minus, Times, OneIndex, TwoIndexes, Negation, Conjunction, Disjunction}
use Rattle.ac_tree.specs.Preorder.{inside_expr, inside_index, inside_cond, inside_stmt, nodes_of_row, nodes_of_list, nodes_of_items, nodes_of}
use Rattle.ac_run.specs.Declarations.{NameBytes, constant_of}
use Rattle.ac_flow.specs.Pairs.{each}
use Rattle.ac_logic.specs.declared.condition.Condition.{Condition}
use Rattle.ac_logic.specs.declared.formula.Formula.{Formula}
use Rattle.ac_logic.specs.declared.formula.Term.{Term}
use Rattle.ac_policy.specs.declared.site.Site.{Site}
use Rattle.ac_policy.specs.declared.site.SiteKind.TheVariants as kind
use Rattle.ac_policy.specs.Sites.{site_at, unless_constant, read_sites, expr_sites, index_sites, cond_sites}
use Rattle.ac_policy.specs.Terms.{zero_term, first_index, second_index}
use Rattle.ac_conditions.proofs.Parts.{pairs_in}
use Rattle.ac_conditions.proofs.PairsInOrder.{targets_at, cuts_at, all_pairs, fewer_cuts, fewer_targets, fewer_pairs, targets_join}
use Rattle.ac_conditions.proofs.Sublists.{IsSublist, skip, late, early, joined, same, through, mapped, map_append}
use Rattle.ac_conditions.specs.AllConditions.{at_each, part_conditions}
use Rattle.ac_conditions.specs.Conditions.{condition, barrier_condition, conditions, block_conditions, list_conditions, conditions_at}
use Rattle.ac_conditions.specs.Hypotheses.{in_body}
use Rattle.ac_conditions.specs.Opened.{hidden, expr_shape, expr_child, cond_shape, cond_child}
use Rattle.ac_conditions.specs.Part.{Part}
use Rattle.ac_conditions.specs.Preconditions.{past_barrier, before_block, before_list, for_head, while_head, for_keep, while_keep}
use Rattle.ac_conditions.specs.Ranges.{ranges}
use Rattle.ac_conditions.specs.Targets.{site_targets, stmt_targets, block_targets, list_targets}

-- targets

abbrev pub Stand : List Target → List NodeId → Type 0
Stand ts ns = IsSublist ts (targets_at ns)

below_one : (ts : List Target) (n : NodeId) (ns : List NodeId) → Stand ts ns → Stand ts (n ∷ ns)
below_one ts n ns h = late ts (target.Entry n ∷ target.Keep n ∷ target.Barrier n ∷ target.Site n ∷ []) (targets_at ns) h

pub sites_join : (xs ys : List Site) (ns ms : List NodeId) → Stand (site_targets xs) ns → Stand (site_targets ys) ms → Stand (site_targets (xs ++ ys)) (ns ++ ms)
sites_join xs ys ns ms h k =
    subst (λ (ts : List Target). Stand ts (ns ++ ms)) (sym (map_append (λ (s : Site). target.Site s.node) xs ys)) (targets_join (site_targets xs) (site_targets ys) ns ms h k)

module _ (p : Program) where
  pub read_stands : (n : NodeId) (o : Option ℤ) (x : NameBytes) (i j : Term) → Stand (site_targets (unless_constant o (site_at n kind.Read x i j))) (n ∷ [])
  read_stands n (Some v) x i j = tt
  read_stands n None x i j = inr (inr (inr (inl (refl, tt))))

  mutual
    unfolding hidden expr_shape expr_child

    pub expr_stands : (n : NodeId) (e : ExprKind) → Stand (site_targets (expr_sites p n e)) (n ∷ inside_expr e)
    expr_stands n (Num k) = tt
    expr_stands n (Get x) = read_stands n (constant_of p x) x zero_term zero_term
    expr_stands n (Read x at) =
        sites_join (read_sites p n x (first_index p at) (second_index p at)) (index_sites p at) (n ∷ []) (inside_index at)
        (read_stands n (constant_of p x) x (first_index p at) (second_index p at)) (index_stands at)
    expr_stands n (Negative k a) = below_one (site_targets (expr_sites p k.id a)) n (k.id ∷ inside_expr a) (expr_stands k.id a)
    expr_stands n (Plus k a m b) = below_one (site_targets (expr_sites p k.id a ++ expr_sites p m.id b)) n ((k.id ∷ inside_expr a) ++ (m.id ∷ inside_expr b))
        (sites_join (expr_sites p k.id a) (expr_sites p m.id b) (k.id ∷ inside_expr a) (m.id ∷ inside_expr b) (expr_stands k.id a) (expr_stands m.id b))
    expr_stands n (Minus k a m b) = below_one (site_targets (expr_sites p k.id a ++ expr_sites p m.id b)) n ((k.id ∷ inside_expr a) ++ (m.id ∷ inside_expr b))
        (sites_join (expr_sites p k.id a) (expr_sites p m.id b) (k.id ∷ inside_expr a) (m.id ∷ inside_expr b) (expr_stands k.id a) (expr_stands m.id b))
    expr_stands n (Times k a m b) = below_one (site_targets (expr_sites p k.id a ++ expr_sites p m.id b)) n ((k.id ∷ inside_expr a) ++ (m.id ∷ inside_expr b))
        (sites_join (expr_sites p k.id a) (expr_sites p m.id b) (k.id ∷ inside_expr a) (m.id ∷ inside_expr b) (expr_stands k.id a) (expr_stands m.id b))

    pub index_stands : (at : Index) → Stand (site_targets (index_sites p at)) (inside_index at)
    index_stands (OneIndex k a) = expr_stands k.id a
    index_stands (TwoIndexes k a m b) = sites_join (expr_sites p k.id a) (expr_sites p m.id b) (k.id ∷ inside_expr a) (m.id ∷ inside_expr b) (expr_stands k.id a) (expr_stands m.id b)

  pub cond_stands : (c : CondKind) → Stand (site_targets (cond_sites p c)) (inside_cond c)
  unfolding hidden cond_shape cond_child
  cond_stands True = tt
  cond_stands False = tt
  cond_stands (Rel op a b) =
      sites_join (expr_sites p a.node.id a.kind) (expr_sites p b.node.id b.kind) (a.node.id ∷ inside_expr a.kind) (b.node.id ∷ inside_expr b.kind) (expr_stands a.node.id a.kind) (expr_stands b.node.id b.kind)
  cond_stands (Negation n c) = below_one (site_targets (cond_sites p c)) n.id (inside_cond c) (cond_stands c)
  cond_stands (Conjunction n c m d) =
      sites_join (cond_sites p c) (cond_sites p d) (n.id ∷ inside_cond c) (m.id ∷ inside_cond d)
      (below_one (site_targets (cond_sites p c)) n.id (inside_cond c) (cond_stands c)) (below_one (site_targets (cond_sites p d)) m.id (inside_cond d) (cond_stands d))
  cond_stands (Disjunction n c m d) =
      sites_join (cond_sites p c) (cond_sites p d) (n.id ∷ inside_cond c) (m.id ∷ inside_cond d)
      (below_one (site_targets (cond_sites p c)) n.id (inside_cond c) (cond_stands c)) (below_one (site_targets (cond_sites p d)) m.id (inside_cond d) (cond_stands d))

  pub test_stands : (n : NodeId) (c : CondKind) → Stand (site_targets (cond_sites p c)) (n ∷ inside_cond c)
  test_stands n c = below_one (site_targets (cond_sites p c)) n (inside_cond c) (cond_stands c)

  -- the targets of a barrier alone, and of a loop, before those inside
  behind_barrier : (ts : List Target) (n : NodeId) (ns : List NodeId) → Stand ts ns → Stand (target.Barrier n ∷ ts) (n ∷ ns)
  behind_barrier ts n ns h = inr (inr (inl (refl, skip ts (target.Site n) (targets_at ns) h)))

  behind_loop : (ts : List Target) (n : NodeId) (ns : List NodeId) → Stand ts ns → Stand (target.Entry n ∷ target.Keep n ∷ target.Barrier n ∷ ts) (n ∷ ns)
  behind_loop ts n ns h = inl (refl, inl (refl, inl (refl, skip ts (target.Site n) (targets_at ns) h)))

  -- the sites of the ends of a `for`, before what stands in its body
  ends_stand : (xs ys : List Site) (ts : List Target) (ns ms ks : List NodeId) → Stand (site_targets xs) ns → Stand (site_targets ys) ms → Stand ts ks → Stand (site_targets (xs ++ ys) ++ ts) (ns ++ (ms ++ ks))
  ends_stand xs ys ts ns ms ks h k l =
      subst (λ (is : List NodeId). Stand (site_targets (xs ++ ys) ++ ts) is) (append_assoc ns ms ks) (targets_join (site_targets (xs ++ ys)) ts (ns ++ ms) ks (sites_join xs ys ns ms h k) l)

  mutual
    pub stmt_stands : (n : NodeId) (s : StmtKind) → Stand (stmt_targets p n s) (n ∷ inside_stmt s)
    stmt_stands n (Set x e) = inr (inr (inl (refl, inl (refl, expr_stands e.node.id e.kind))))
    stmt_stands n (Put x at e) =
        inr (inr (inl (refl, inl (refl, sites_join (index_sites p at) (expr_sites p e.node.id e.kind) (inside_index at) (e.node.id ∷ inside_expr e.kind) (index_stands at) (expr_stands e.node.id e.kind)))))
    stmt_stands n (If' c _ xs _ ys) =
        behind_barrier (site_targets (cond_sites p c.kind) ++ (block_targets p xs ++ block_targets p ys)) n ((c.node.id ∷ inside_cond c.kind) ++ (nodes_of_row xs ++ nodes_of_row ys))
        (targets_join (site_targets (cond_sites p c.kind)) (block_targets p xs ++ block_targets p ys) (c.node.id ∷ inside_cond c.kind) (nodes_of_row xs ++ nodes_of_row ys)
        (test_stands c.node.id c.kind) (targets_join (block_targets p xs) (block_targets p ys) (nodes_of_row xs) (nodes_of_row ys) (row_stands xs) (row_stands ys)))
    stmt_stands n (For' x a b _ xs) =
        behind_loop (site_targets (expr_sites p a.node.id a.kind ++ expr_sites p b.node.id b.kind) ++ block_targets p xs) n
        ((a.node.id ∷ inside_expr a.kind) ++ ((b.node.id ∷ inside_expr b.kind) ++ nodes_of_row xs))
        (ends_stand (expr_sites p a.node.id a.kind) (expr_sites p b.node.id b.kind) (block_targets p xs) (a.node.id ∷ inside_expr a.kind) (b.node.id ∷ inside_expr b.kind) (nodes_of_row xs)
        (expr_stands a.node.id a.kind) (expr_stands b.node.id b.kind) (row_stands xs))
    stmt_stands n (While' c _ xs) =
        behind_loop (site_targets (cond_sites p c.kind) ++ block_targets p xs) n ((c.node.id ∷ inside_cond c.kind) ++ nodes_of_row xs)
        (targets_join (site_targets (cond_sites p c.kind)) (block_targets p xs) (c.node.id ∷ inside_cond c.kind) (nodes_of_row xs) (test_stands c.node.id c.kind) (row_stands xs))
    stmt_stands n (Hand x role) = inr (inr (inl (refl, inl (refl, tt))))
    stmt_stands n Skip = inr (inr (inl (refl, tt)))

    pub row_stands : {k : _} (row : Row_of-Stmt k) → Stand (block_targets p row) (nodes_of_row row)
    row_stands end_of-Stmt = tt
    row_stands (more_of-Stmt n st rest) = targets_join (stmt_targets p n.id st) (block_targets p rest) (n.id ∷ inside_stmt st) (nodes_of_row rest) (stmt_stands n.id st) (row_stands rest)

  pub list_stands : (block : List Stmt) → Stand (list_targets p block) (nodes_of_list block)
  list_stands [] = tt
  list_stands (st ∷ rest) = targets_join (stmt_targets p st.node.id st.kind) (list_targets p rest) (st.node.id ∷ inside_stmt st.kind) (nodes_of_list rest) (stmt_stands st.node.id st.kind) (list_stands rest)

-- the nodes of the body among those of the program
pub body_nodes : (p : Program) → IsSublist (nodes_of_list p.body) (nodes_of p)
body_nodes p = skip (nodes_of_list p.body) p.node.id (nodes_of_items p.items ++ nodes_of_list p.body) (late (nodes_of_list p.body) (nodes_of_items p.items) (nodes_of_list p.body) (same (nodes_of_list p.body)))

pub targets_stand : (p : Program) → Stand (list_targets p p.body) (nodes_of p)
targets_stand p = through (list_targets p p.body) (targets_at (nodes_of_list p.body)) (targets_at (nodes_of p)) (list_stands p p.body) (fewer_targets (nodes_of_list p.body) (nodes_of p) (body_nodes p))

-- the conditions of one target

pairs_join : (cs ds : List Condition) (xs ys : List Pair) → IsSublist (pairs_in cs) xs → IsSublist (pairs_in ds) ys → IsSublist (pairs_in (cs ++ ds)) (xs ++ ys)
pairs_join cs ds xs ys h k =
    subst (λ (l : List Pair). IsSublist l (xs ++ ys)) (sym (map_append (λ (c : Condition). c.pair) cs ds)) (joined (pairs_in cs) (pairs_in ds) xs ys h k)

module _ (p : Program) (q : PolicyName) (part : Part) (t : Target) where
  abbrev At : List NodeId → List Pair
  At ns = each (cuts_at ns) t

  abbrev One : Cut → List Pair
  One c = record { cut = c; target = t } ∷ []

  abbrev In : List Condition → List NodeId → Type 0
  In cs ns = IsSublist (pairs_in cs) (At ns)

  in_append : (ns ms : List NodeId) → At (ns ++ ms) ≡ At ns ++ At ms
  in_append [] ms = refl
  in_append (n ∷ ns) ms =
      ap (λ (l : List Pair). record { cut = Head n; target = t } ∷ record { cut = Exit n; target = t } ∷ record { cut = After n; target = t } ∷ l) (in_append ns ms)

  in_join : (cs ds : List Condition) (ns ms : List NodeId) → In cs ns → In ds ms → In (cs ++ ds) (ns ++ ms)
  in_join cs ds ns ms h k = subst (λ (l : List Pair). IsSublist (pairs_in (cs ++ ds)) l) (sym (in_append ns ms)) (pairs_join cs ds (At ns) (At ms) h k)

  in_late : (cs : List Condition) (ns ms : List NodeId) → In cs ms → In cs (ns ++ ms)
  in_late cs ns ms h = subst (λ (l : List Pair). IsSublist (pairs_in cs) l) (sym (in_append ns ms)) (late (pairs_in cs) (At ns) (At ms) h)

  one_in : (c : Cut) (hs : List Formula) (path : Option Formula) → IsSublist (pairs_in (condition p q part t c hs path)) (One c)
  one_in c hs None = tt
  one_in c hs (Some f) = inl (refl, tt)

  barrier_in : (n : NodeId) (hs facts : List Formula) (behind : Option Formula) → IsSublist (pairs_in (barrier_condition p q part t n hs facts behind)) (One (After n))
  barrier_in n hs [] behind = tt
  barrier_in n hs (f ∷ fs) behind = one_in (After n) _ behind

  -- the condition of a barrier alone, that of a barrier before those inside, and those of a loop
  alone : (bs : List Condition) (n : NodeId) (ns : List NodeId) → IsSublist (pairs_in bs) (One (After n)) → In bs (n ∷ ns)
  alone bs n ns h = late (pairs_in bs) (One (Head n) ++ One (Exit n)) (One (After n) ++ At ns) (early (pairs_in bs) (One (After n)) (At ns) h)

  before : (bs cs : List Condition) (n : NodeId) (ns : List NodeId) → IsSublist (pairs_in bs) (One (After n)) → In cs ns → In (bs ++ cs) (n ∷ ns)
  before bs cs n ns h k = late (pairs_in (bs ++ cs)) (One (Head n) ++ One (Exit n)) (One (After n) ++ At ns) (pairs_join bs cs (One (After n)) (At ns) h k)

  loop : (hs es bs cs : List Condition) (n : NodeId) (ns : List NodeId) → IsSublist (pairs_in hs) (One (Head n)) → IsSublist (pairs_in es) (One (Exit n)) → IsSublist (pairs_in bs) (One (After n)) → In cs ns →
      In (hs ++ (es ++ (bs ++ cs))) (n ∷ ns)
  loop hs es bs cs n ns f g h k =
      pairs_join hs (es ++ (bs ++ cs)) (One (Head n)) (One (Exit n) ++ (One (After n) ++ At ns)) f
      (pairs_join es (bs ++ cs) (One (Exit n)) (One (After n) ++ At ns) g (pairs_join bs cs (One (After n)) (At ns) h k))

  mutual
    stmt_in : (hs : List Formula) (n : NodeId) (k : StmtKind) (behind : Option Formula) (bs : List Condition) → IsSublist (pairs_in bs) (One (After n)) → In (conditions p q part t hs n k behind bs) (n ∷ inside_stmt k)
    stmt_in hs n (Set x e) behind bs h = alone bs n (inside_stmt (Set x e)) h
    stmt_in hs n (Put x at e) behind bs h = alone bs n (inside_stmt (Put x at e)) h
    stmt_in hs n (If' c _ y _ z) behind bs h =
        let Y = block_conditions p q part t hs y behind in
        let Z = block_conditions p q part t hs z behind in
        before bs (Y ++ Z) n ((c.node.id ∷ inside_cond c.kind) ++ (nodes_of_row y ++ nodes_of_row z)) h
        (in_late (Y ++ Z) (c.node.id ∷ inside_cond c.kind) (nodes_of_row y ++ nodes_of_row z) (in_join Y Z (nodes_of_row y) (nodes_of_row z) (block_in hs y behind) (block_in hs z behind)))
    stmt_in hs n (For' x a b _ body) behind bs h =
        let B = block_conditions p q part t (hs ++ in_body p part n x a b ∷ []) body (for_keep p part t n x) in
        loop (condition p q part t (Head n) _ (for_head p part t n x b body)) (condition p q part t (Exit n) _ behind) bs B n ((a.node.id ∷ inside_expr a.kind) ++ ((b.node.id ∷ inside_expr b.kind) ++ nodes_of_row body))
        (one_in (Head n) _ (for_head p part t n x b body)) (one_in (Exit n) _ behind) h
        (in_late B (a.node.id ∷ inside_expr a.kind) ((b.node.id ∷ inside_expr b.kind) ++ nodes_of_row body) (in_late B (b.node.id ∷ inside_expr b.kind) (nodes_of_row body) (block_in _ body (for_keep p part t n x))))
    stmt_in hs n (While' c _ body) behind bs h =
        let B = block_conditions p q part t hs body (while_keep p part t n) in
        loop (condition p q part t (Head n) _ (while_head p part t n c body)) (condition p q part t (Exit n) _ behind) bs B n ((c.node.id ∷ inside_cond c.kind) ++ nodes_of_row body)
        (one_in (Head n) _ (while_head p part t n c body)) (one_in (Exit n) _ behind) h
        (in_late B (c.node.id ∷ inside_cond c.kind) (nodes_of_row body) (block_in hs body (while_keep p part t n)))
    stmt_in hs n (Hand x role) behind bs h = alone bs n [] h
    stmt_in hs n Skip behind bs h = alone bs n [] h

    block_in : {a : _} (hs : List Formula) (row : Row_of-Stmt a) (behind : Option Formula) → In (block_conditions p q part t hs row behind) (nodes_of_row row)
    block_in hs end_of-Stmt behind = tt
    block_in hs (more_of-Stmt n st rest) behind =
        in_join (conditions p q part t hs n.id st (past_barrier t n.id (part.behind n.id) (before_block p part t rest behind)) (barrier_condition p q part t n.id hs (part.behind n.id) (before_block p part t rest behind)))
        (block_conditions p q part t hs rest behind) (n.id ∷ inside_stmt st) (nodes_of_row rest)
        (stmt_in hs n.id st _ _ (barrier_in n.id hs (part.behind n.id) (before_block p part t rest behind))) (block_in hs rest behind)

  list_in : (hs : List Formula) (sts : List Stmt) (behind : Option Formula) → In (list_conditions p q part t hs sts behind) (nodes_of_list sts)
  list_in hs [] behind = tt
  list_in hs (st ∷ sts) behind =
      let n = st.node.id in
      in_join (conditions p q part t hs n st.kind (past_barrier t n (part.behind n) (before_list p part t sts behind)) (barrier_condition p q part t n hs (part.behind n) (before_list p part t sts behind)))
      (list_conditions p q part t hs sts behind) (n ∷ inside_stmt st.kind) (nodes_of_list sts)
      (stmt_in hs n st.kind _ _ (barrier_in n hs (part.behind n) (before_list p part t sts behind))) (list_in hs sts behind)

  pub target_in : IsSublist (pairs_in (conditions_at p q part t)) (each (Start ∷ cuts_at (nodes_of p)) t)
  target_in =
      pairs_join (condition p q part t Start (ranges p p.items) (before_list p part t p.body None)) (list_conditions p q part t (ranges p p.items) p.body None) (One Start) (At (nodes_of p)) (one_in Start _ _)
      (through (pairs_in (list_conditions p q part t (ranges p p.items) p.body None)) (At (nodes_of_list p.body)) (At (nodes_of p)) (list_in (ranges p p.items) p.body None)
      (mapped (λ (c : Cut). let x : Pair = record { cut = c; target = t } in x) (cuts_at (nodes_of_list p.body)) (cuts_at (nodes_of p)) (fewer_cuts (nodes_of_list p.body) (nodes_of p) (body_nodes p))))

each_in : (p : Program) (q : PolicyName) (part : Part) (ts : List Target) → IsSublist (pairs_in (at_each (conditions_at p q part) ts)) (all_pairs (Start ∷ cuts_at (nodes_of p)) ts)
each_in p q part [] = tt
each_in p q part (t ∷ ts) =
    pairs_join (conditions_at p q part t) (at_each (conditions_at p q part) ts) (each (Start ∷ cuts_at (nodes_of p)) t) (all_pairs (Start ∷ cuts_at (nodes_of p)) ts) (target_in p q part t) (each_in p q part ts)

pub conditions_in_order : (p : Program) (q : PolicyName) (part : Part) → IsSublist (pairs_in (part_conditions p q part)) (all_pairs (Start ∷ cuts_at (nodes_of p)) (targets_at (nodes_of p)))
conditions_in_order p q part =
    through (pairs_in (part_conditions p q part)) (all_pairs (Start ∷ cuts_at (nodes_of p)) (list_targets p p.body)) (all_pairs (Start ∷ cuts_at (nodes_of p)) (targets_at (nodes_of p)))
    (each_in p q part (list_targets p p.body)) (fewer_pairs (Start ∷ cuts_at (nodes_of p)) (list_targets p p.body) (targets_at (nodes_of p)) (targets_stand p))
