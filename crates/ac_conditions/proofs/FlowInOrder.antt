-- The pairs of control flow stand by target and then by cut, in the order of the nodes.
use Rattle.std.proofs.Common.{◌≡◌, ℕ, List, [], ◌∷◌, ◌++◌, Bool, true, false, refl, sym, ◌∙◌, ap, subst, append_assoc, inl, inr, if◌then◌else◌}
use Rattle.ac_tree.specs.declared.node.Node.{Node}
use Rattle.ac_tree.specs.declared.node.NodeId.{NodeId}
use Rattle.ac_tree.specs.declared.path.Cut.{Cut}
use Rattle.ac_tree.specs.declared.path.Cut.TheVariants.{Start, Head, Exit, After}
use Rattle.ac_tree.specs.declared.path.Pair.{Pair}
use Rattle.ac_tree.specs.declared.path.Target.{Target}
use Rattle.ac_tree.specs.declared.path.Target.TheVariants as target
use Rattle.ac_tree.specs.declared.program.CondKind.{CondKind}
use Rattle.ac_tree.specs.declared.program.CondKind.TheVariants.{True, False, Rel}
use Rattle.ac_tree.specs.declared.program.ExprKind.{ExprKind}
use Rattle.ac_tree.specs.declared.program.ExprKind.TheVariants.{Num, Get, Read}
use Rattle.ac_tree.specs.declared.program.Index.{Index}
use Rattle.ac_tree.specs.declared.program.Program.{Program}
use Rattle.ac_tree.specs.declared.program.Stmt.{Stmt}
use Rattle.ac_tree.specs.declared.program.StmtKind.{StmtKind, Row_of-Stmt, end_of-Stmt, more_of-Stmt, Set, Put, If', For', While', Hand, Skip}
use Rattle.ac_tree.specs.Patterns.{Negative, Plus, Minus, Times, OneIndex, TwoIndexes, Negation, Conjunction, Disjunction}
use Rattle.ac_tree.specs.Preorder.{inside_expr, inside_index, inside_cond, inside_stmt, nodes_of_row, nodes_of_list, nodes_of}
use Rattle.ac_flow.specs.Pairs.{each, site_pairs, expr_pairs, index_pairs, cond_pairs, barrier_pairs, loop_pairs, stmt_pairs, block_pairs, list_pairs}
use Rattle.ac_flow.specs.Through.{passes, block_passes, goes_on, exits, block_exits, leaving, onward, behind_block}
use Rattle.ac_flow.specs.Through.{behind as come_behind}
use Rattle.ac_conditions.proofs.ConditionsInOrder.{body_nodes}
use Rattle.ac_conditions.proofs.PairsInOrder.{targets_at, cuts_at, all_pairs, fewer_cuts, fewer_targets, fewer_pairs, cuts_append, cuts_join, pairs_join}
use Rattle.ac_conditions.proofs.Sublists.{IsSublist, skip, late, early, joined, same, through, when, mapped}
use Rattle.ac_conditions.specs.Opened.{hidden, expr_shape, expr_child, cond_shape, cond_child}

-- the cut behind a statement, or those inside
leaves : (n : NodeId) (ns : List NodeId) (b : Bool) (inside : List Cut) → IsSublist inside (cuts_at (n ∷ ns)) → IsSublist (if b then After n ∷ [] else inside) (cuts_at (n ∷ ns))
leaves n ns true inside h = inr (inr (inl (refl, tt)))
leaves n ns false inside h = h

-- the cuts from which control leaves a statement or a block
module _ (barrier : ℕ → Bool) where
  mutual
    exits_in : (n : NodeId) (k : StmtKind) → IsSublist (exits barrier n k) (cuts_at (n ∷ inside_stmt k))
    exits_in n (Set x e) = tt
    exits_in n (Put x at e) = tt
    exits_in n (If' c _ y _ z) =
        late (block_exits barrier y ++ block_exits barrier z) (Head n ∷ Exit n ∷ After n ∷ []) (cuts_at ((c.node.id ∷ inside_cond c.kind) ++ (nodes_of_row y ++ nodes_of_row z)))
        (through (block_exits barrier y ++ block_exits barrier z) (cuts_at (nodes_of_row y ++ nodes_of_row z)) (cuts_at ((c.node.id ∷ inside_cond c.kind) ++ (nodes_of_row y ++ nodes_of_row z)))
        (cuts_join (block_exits barrier y) (block_exits barrier z) (nodes_of_row y) (nodes_of_row z) (block_exits_in y) (block_exits_in z))
        (fewer_cuts (nodes_of_row y ++ nodes_of_row z) ((c.node.id ∷ inside_cond c.kind) ++ (nodes_of_row y ++ nodes_of_row z))
        (late (nodes_of_row y ++ nodes_of_row z) (c.node.id ∷ inside_cond c.kind) (nodes_of_row y ++ nodes_of_row z) (same (nodes_of_row y ++ nodes_of_row z)))))
    exits_in n (For' x a b _ body) = inr (inl (refl, tt))
    exits_in n (While' c _ body) = inr (inl (refl, tt))
    exits_in n (Hand x role) = tt
    exits_in n Skip = tt

    block_exits_in : {k : _} (row : Row_of-Stmt k) → IsSublist (block_exits barrier row) (cuts_at (nodes_of_row row))
    block_exits_in end_of-Stmt = tt
    block_exits_in (more_of-Stmt n st rest) =
        cuts_join (if block_passes barrier rest then leaving barrier n.id st else []) (block_exits barrier rest) (n.id ∷ inside_stmt st) (nodes_of_row rest)
        (when (block_passes barrier rest) (leaving barrier n.id st) (cuts_at (n.id ∷ inside_stmt st)) (leaves n.id (inside_stmt st) (barrier n.id.0) (exits barrier n.id st) (exits_in n.id st))) (block_exits_in rest)

module _ (barrier subject : ℕ → Bool) (cuts : List Cut) where
  -- among all pairs of these cuts and the targets at some nodes
  abbrev Stand : List Pair → List NodeId → Type 0
  Stand xs ns = IsSublist xs (all_pairs cuts (targets_at ns))

  each_in : (from : List Cut) (t : Target) → IsSublist from cuts → IsSublist (each from t) (each cuts t)
  each_in from t h = mapped (λ (c : Cut). let x : Pair = record { cut = c; target = t } in x) from cuts h

  pick : (b : Bool) (from : List Cut) (t : Target) → IsSublist from cuts → IsSublist (if b then each from t else []) (each cuts t)
  pick b from t h = when b (each from t) (each cuts t) (each_in from t h)

  -- the pairs of a site with those below it, and those below alone
  at_site : (from : List Cut) (n : NodeId) (xs : List Pair) (ns : List NodeId) → IsSublist from cuts → Stand xs ns → IsSublist (site_pairs subject from n ++ xs) (each cuts (target.Site n) ++ all_pairs cuts (targets_at ns))
  at_site from n xs ns f h = joined (site_pairs subject from n) xs (each cuts (target.Site n)) (all_pairs cuts (targets_at ns)) (pick (subject n.0) from (target.Site n) f) h

  past_loop : (xs : List Pair) (n : NodeId) (rest : List Pair) → IsSublist xs rest → IsSublist xs (each cuts (target.Entry n) ++ (each cuts (target.Keep n) ++ rest))
  past_loop xs n rest h = late xs (each cuts (target.Entry n)) (each cuts (target.Keep n) ++ rest) (late xs (each cuts (target.Keep n)) rest h)

  access : (from : List Cut) (n : NodeId) (xs : List Pair) (ns : List NodeId) → IsSublist from cuts → Stand xs ns → Stand (site_pairs subject from n ++ xs) (n ∷ ns)
  access from n xs ns f h =
      let all = each cuts (target.Site n) ++ all_pairs cuts (targets_at ns) in
      past_loop (site_pairs subject from n ++ xs) n (each cuts (target.Barrier n) ++ all) (late (site_pairs subject from n ++ xs) (each cuts (target.Barrier n)) all (at_site from n xs ns f h))

  one_access : (from : List Cut) (n : NodeId) (ns : List NodeId) → IsSublist from cuts → Stand (site_pairs subject from n) (n ∷ ns)
  one_access from n ns f =
      let all = each cuts (target.Site n) ++ all_pairs cuts (targets_at ns) in
      past_loop (site_pairs subject from n) n (each cuts (target.Barrier n) ++ all)
      (late (site_pairs subject from n) (each cuts (target.Barrier n)) all (early (site_pairs subject from n) (each cuts (target.Site n)) (all_pairs cuts (targets_at ns)) (pick (subject n.0) from (target.Site n) f)))

  below_one : (xs : List Pair) (n : NodeId) (ns : List NodeId) → Stand xs ns → Stand xs (n ∷ ns)
  below_one xs n ns h =
      let all = each cuts (target.Site n) ++ all_pairs cuts (targets_at ns) in
      past_loop xs n (each cuts (target.Barrier n) ++ all) (late xs (each cuts (target.Barrier n)) all (late xs (each cuts (target.Site n)) (all_pairs cuts (targets_at ns)) h))

  -- those of a barrier with those of the site and below
  barred : (from : List Cut) (n : NodeId) (xs : List Pair) (ns : List NodeId) → IsSublist from cuts → IsSublist xs (each cuts (target.Site n) ++ all_pairs cuts (targets_at ns)) → Stand (barrier_pairs barrier from n ++ xs) (n ∷ ns)
  barred from n xs ns f h =
      let all = each cuts (target.Site n) ++ all_pairs cuts (targets_at ns) in
      past_loop (barrier_pairs barrier from n ++ xs) n (each cuts (target.Barrier n) ++ all)
      (joined (barrier_pairs barrier from n) xs (each cuts (target.Barrier n)) all (pick (barrier n.0) from (target.Barrier n) f) h)

  looped : (from kept : List Cut) (n : NodeId) (xs : List Pair) (ns : List NodeId) → IsSublist from cuts → IsSublist kept cuts → IsSublist (Exit n ∷ []) cuts → Stand xs ns → Stand (loop_pairs barrier from n kept ++ xs) (n ∷ ns)
  looped from kept n xs ns f g e h =
      let A = each from (target.Entry n) in
      let B = each kept (target.Keep n) in
      let C = barrier_pairs barrier (Exit n ∷ []) n in
      let all = each cuts (target.Site n) ++ all_pairs cuts (targets_at ns) in
      subst (λ (l : List Pair). Stand l (n ∷ ns)) (sym (append_assoc A (B ++ C) xs ∙ ap (λ (l : List Pair). A ++ l) (append_assoc B C xs)))
      (joined A (B ++ (C ++ xs)) (each cuts (target.Entry n)) (each cuts (target.Keep n) ++ (each cuts (target.Barrier n) ++ all)) (each_in from (target.Entry n) f)
      (joined B (C ++ xs) (each cuts (target.Keep n)) (each cuts (target.Barrier n) ++ all) (each_in kept (target.Keep n) g)
      (joined C xs (each cuts (target.Barrier n)) all (pick (barrier n.0) (Exit n ∷ []) (target.Barrier n) e) (late xs (each cuts (target.Site n)) (all_pairs cuts (targets_at ns)) h))))

  mutual
    unfolding hidden expr_shape expr_child

    expr_in : (from : List Cut) (n : Node) (e : ExprKind) → IsSublist from cuts → Stand (expr_pairs subject from n e) (n.id ∷ inside_expr e)
    expr_in from n (Num k) f = tt
    expr_in from n (Get x) f = one_access from n.id [] f
    expr_in from n (Read x at) f = access from n.id (index_pairs subject from at) (inside_index at) f (index_in from at f)
    expr_in from n (Negative k a) f = below_one (expr_pairs subject from k a) n.id (k.id ∷ inside_expr a) (expr_in from k a f)
    expr_in from n (Plus k a m b) f = below_one (expr_pairs subject from k a ++ expr_pairs subject from m b) n.id ((k.id ∷ inside_expr a) ++ (m.id ∷ inside_expr b))
        (pairs_join cuts (expr_pairs subject from k a) (expr_pairs subject from m b) (k.id ∷ inside_expr a) (m.id ∷ inside_expr b) (expr_in from k a f) (expr_in from m b f))
    expr_in from n (Minus k a m b) f = below_one (expr_pairs subject from k a ++ expr_pairs subject from m b) n.id ((k.id ∷ inside_expr a) ++ (m.id ∷ inside_expr b))
        (pairs_join cuts (expr_pairs subject from k a) (expr_pairs subject from m b) (k.id ∷ inside_expr a) (m.id ∷ inside_expr b) (expr_in from k a f) (expr_in from m b f))
    expr_in from n (Times k a m b) f = below_one (expr_pairs subject from k a ++ expr_pairs subject from m b) n.id ((k.id ∷ inside_expr a) ++ (m.id ∷ inside_expr b))
        (pairs_join cuts (expr_pairs subject from k a) (expr_pairs subject from m b) (k.id ∷ inside_expr a) (m.id ∷ inside_expr b) (expr_in from k a f) (expr_in from m b f))

    index_in : (from : List Cut) (at : Index) → IsSublist from cuts → Stand (index_pairs subject from at) (inside_index at)
    index_in from (OneIndex k a) f = expr_in from k a f
    index_in from (TwoIndexes k a m b) f = pairs_join cuts (expr_pairs subject from k a) (expr_pairs subject from m b) (k.id ∷ inside_expr a) (m.id ∷ inside_expr b) (expr_in from k a f) (expr_in from m b f)

  cond_in : (from : List Cut) (c : CondKind) → IsSublist from cuts → Stand (cond_pairs subject from c) (inside_cond c)
  unfolding hidden cond_shape cond_child
  cond_in from True f = tt
  cond_in from False f = tt
  cond_in from (Rel op a b) f =
      pairs_join cuts (expr_pairs subject from a.node a.kind) (expr_pairs subject from b.node b.kind) (a.node.id ∷ inside_expr a.kind) (b.node.id ∷ inside_expr b.kind) (expr_in from a.node a.kind f) (expr_in from b.node b.kind f)
  cond_in from (Negation n c) f = below_one (cond_pairs subject from c) n.id (inside_cond c) (cond_in from c f)
  cond_in from (Conjunction n c m d) f =
      pairs_join cuts (cond_pairs subject from c) (cond_pairs subject from d) (n.id ∷ inside_cond c) (m.id ∷ inside_cond d)
      (below_one (cond_pairs subject from c) n.id (inside_cond c) (cond_in from c f)) (below_one (cond_pairs subject from d) m.id (inside_cond d) (cond_in from d f))
  cond_in from (Disjunction n c m d) f =
      pairs_join cuts (cond_pairs subject from c) (cond_pairs subject from d) (n.id ∷ inside_cond c) (m.id ∷ inside_cond d)
      (below_one (cond_pairs subject from c) n.id (inside_cond c) (cond_in from c f)) (below_one (cond_pairs subject from d) m.id (inside_cond d) (cond_in from d f))

  test_in : (from : List Cut) (n : NodeId) (c : CondKind) → IsSublist from cuts → Stand (cond_pairs subject from c) (n ∷ inside_cond c)
  test_in from n c f = below_one (cond_pairs subject from c) n (inside_cond c) (cond_in from c f)

  -- the cuts from which control comes, before the cuts at the nodes ahead
  abbrev Fit : List Cut → List NodeId → Type 0
  Fit from ns = IsSublist (from ++ cuts_at ns) cuts

  fit_first : (from : List Cut) (ns : List NodeId) → Fit from ns → IsSublist from cuts
  fit_first from ns f = through from (from ++ cuts_at ns) cuts (early from from (cuts_at ns) (same from)) f

  fit_fewer : (from : List Cut) (ns ms : List NodeId) → IsSublist ms ns → Fit from ns → Fit from ms
  fit_fewer from ns ms h f = through (from ++ cuts_at ms) (from ++ cuts_at ns) cuts (joined from (cuts_at ms) from (cuts_at ns) (same from) (fewer_cuts ms ns h)) f

  -- in the body of a loop, from its head
  fit_head : (from : List Cut) (n : NodeId) (ns ms : List NodeId) → IsSublist ms ns → Fit from (n ∷ ns) → Fit (Head n ∷ []) ms
  fit_head from n ns ms h f =
      through (Head n ∷ cuts_at ms) (from ++ cuts_at (n ∷ ns)) cuts
      (late (Head n ∷ cuts_at ms) from (cuts_at (n ∷ ns)) (inl (refl, late (cuts_at ms) (Exit n ∷ After n ∷ []) (cuts_at ns) (fewer_cuts ms ns h)))) f

  fit_exit : (from : List Cut) (n : NodeId) (ns : List NodeId) → Fit from (n ∷ ns) → IsSublist (Exit n ∷ []) cuts
  fit_exit from n ns f = through (Exit n ∷ []) (from ++ cuts_at (n ∷ ns)) cuts (late (Exit n ∷ []) from (cuts_at (n ∷ ns)) (inr (inl (refl, tt)))) f

  -- those that come to the end of a block
  fit_end : {k : _} (from : List Cut) (row : Row_of-Stmt k) → Fit from (nodes_of_row row) → IsSublist (behind_block barrier from row) cuts
  fit_end from row f =
      through (behind_block barrier from row) (from ++ cuts_at (nodes_of_row row)) cuts
      (joined (if block_passes barrier row then from else []) (block_exits barrier row) from (cuts_at (nodes_of_row row)) (when (block_passes barrier row) from from (same from)) (block_exits_in barrier row)) f

  fit_behind : (from : List Cut) (n : NodeId) (k : StmtKind) → Fit from (n ∷ inside_stmt k) → IsSublist (come_behind barrier from n k) cuts
  fit_behind from n k f =
      through (come_behind barrier from n k) (from ++ cuts_at (n ∷ inside_stmt k)) cuts
      (joined (if passes barrier k then from else []) (exits barrier n k) from (cuts_at (n ∷ inside_stmt k)) (when (passes barrier k) from from (same from)) (exits_in barrier n k)) f

  fit_onward : (from : List Cut) (n : NodeId) (k : StmtKind) (ns : List NodeId) → Fit from ((n ∷ inside_stmt k) ++ ns) → Fit (onward barrier from n k) ns
  fit_onward from n k ns f =
      let here = cuts_at (n ∷ inside_stmt k) in
      let all : (from ++ here) ++ cuts_at ns ≡ from ++ cuts_at ((n ∷ inside_stmt k) ++ ns) = append_assoc from here (cuts_at ns) ∙ ap (λ (l : List Cut). from ++ l) (sym (cuts_append (n ∷ inside_stmt k) ns)) in
      through (onward barrier from n k ++ cuts_at ns) ((from ++ here) ++ cuts_at ns) cuts
      (joined (onward barrier from n k) (cuts_at ns) (from ++ here) (cuts_at ns)
      (joined (if goes_on barrier n k then from else []) (leaving barrier n k) from here (when (goes_on barrier n k) from from (same from)) (leaves n (inside_stmt k) (barrier n.0) (exits barrier n k) (exits_in barrier n k))) (same (cuts_at ns)))
      (subst (λ (l : List Cut). IsSublist l cuts) (sym all) f)

  mutual
    stmt_in : (from : List Cut) (n : NodeId) (k : StmtKind) → Fit from (n ∷ inside_stmt k) → Stand (stmt_pairs barrier subject from n k) (n ∷ inside_stmt k)
    stmt_in from n (Set x e) f =
        let g = fit_first from (n ∷ inside_stmt (Set x e)) f in
        let xs = expr_pairs subject from e.node e.kind in
        barred from n (site_pairs subject from n ++ xs) (e.node.id ∷ inside_expr e.kind) g (at_site from n xs (e.node.id ∷ inside_expr e.kind) g (expr_in from e.node e.kind g))
    stmt_in from n (Put x at e) f =
        let g = fit_first from (n ∷ inside_stmt (Put x at e)) f in
        let xs = index_pairs subject from at ++ expr_pairs subject from e.node e.kind in
        let ns = inside_index at ++ (e.node.id ∷ inside_expr e.kind) in
        barred from n (site_pairs subject from n ++ xs) ns g
        (at_site from n xs ns g (pairs_join cuts (index_pairs subject from at) (expr_pairs subject from e.node e.kind) (inside_index at) (e.node.id ∷ inside_expr e.kind) (index_in from at g) (expr_in from e.node e.kind g)))
    stmt_in from n (If' c i y j z) f =
        let g = fit_first from (n ∷ inside_stmt (If' c i y j z)) f in
        let C = c.node.id ∷ inside_cond c.kind in
        let Y = nodes_of_row y in
        let Z = nodes_of_row z in
        let cs = cond_pairs subject from c.kind in
        let ys = block_pairs barrier subject from y in
        let zs = block_pairs barrier subject from z in
        let in_yes : IsSublist Y (n ∷ (C ++ (Y ++ Z))) = skip Y n (C ++ (Y ++ Z)) (late Y C (Y ++ Z) (early Y Y Z (same Y))) in
        let in_no : IsSublist Z (n ∷ (C ++ (Y ++ Z))) = skip Z n (C ++ (Y ++ Z)) (late Z C (Y ++ Z) (late Z Y Z (same Z))) in
        barred (come_behind barrier from n (If' c i y j z)) n (cs ++ (ys ++ zs)) (C ++ (Y ++ Z)) (fit_behind from n (If' c i y j z) f)
        (late (cs ++ (ys ++ zs)) (each cuts (target.Site n)) (all_pairs cuts (targets_at (C ++ (Y ++ Z))))
        (pairs_join cuts cs (ys ++ zs) C (Y ++ Z) (test_in from c.node.id c.kind g)
        (pairs_join cuts ys zs Y Z (block_in from y (fit_fewer from (n ∷ (C ++ (Y ++ Z))) Y in_yes f)) (block_in from z (fit_fewer from (n ∷ (C ++ (Y ++ Z))) Z in_no f)))))
    stmt_in from n (For' x a b i body) f =
        let g = fit_first from (n ∷ inside_stmt (For' x a b i body)) f in
        let A = a.node.id ∷ inside_expr a.kind in
        let B = b.node.id ∷ inside_expr b.kind in
        let R = nodes_of_row body in
        let xs = expr_pairs subject from a.node a.kind in
        let ys = expr_pairs subject from b.node b.kind in
        let zs = block_pairs barrier subject (Head n ∷ []) body in
        let h = fit_head from n (A ++ (B ++ R)) R (late R A (B ++ R) (late R B R (same R))) f in
        looped from (behind_block barrier (Head n ∷ []) body) n (xs ++ (ys ++ zs)) (A ++ (B ++ R)) g (fit_end (Head n ∷ []) body h) (fit_exit from n (A ++ (B ++ R)) f)
        (pairs_join cuts xs (ys ++ zs) A (B ++ R) (expr_in from a.node a.kind g) (pairs_join cuts ys zs B R (expr_in from b.node b.kind g) (block_in (Head n ∷ []) body h)))
    stmt_in from n (While' c i body) f =
        let g = fit_first from (n ∷ inside_stmt (While' c i body)) f in
        let C = c.node.id ∷ inside_cond c.kind in
        let R = nodes_of_row body in
        let cs = cond_pairs subject (Head n ∷ []) c.kind in
        let zs = block_pairs barrier subject (Head n ∷ []) body in
        let h = fit_head from n (C ++ R) R (late R C R (same R)) f in
        looped from (behind_block barrier (Head n ∷ []) body) n (cs ++ zs) (C ++ R) g (fit_end (Head n ∷ []) body h) (fit_exit from n (C ++ R) f)
        (pairs_join cuts cs zs C R (test_in (Head n ∷ []) c.node.id c.kind (fit_first (Head n ∷ []) R h)) (block_in (Head n ∷ []) body h))
    stmt_in from n (Hand x role) f =
        let g = fit_first from (n ∷ []) f in
        barred from n (site_pairs subject from n) [] g (early (site_pairs subject from n) (each cuts (target.Site n)) [] (pick (subject n.0) from (target.Site n) g))
    stmt_in from n Skip f =
        past_loop (barrier_pairs barrier from n) n (each cuts (target.Barrier n) ++ (each cuts (target.Site n) ++ []))
        (early (barrier_pairs barrier from n) (each cuts (target.Barrier n)) (each cuts (target.Site n) ++ []) (pick (barrier n.0) from (target.Barrier n) (fit_first from (n ∷ []) f)))

    block_in : {k : _} (from : List Cut) (row : Row_of-Stmt k) → Fit from (nodes_of_row row) → Stand (block_pairs barrier subject from row) (nodes_of_row row)
    block_in from end_of-Stmt f = tt
    block_in from (more_of-Stmt n st rest) f =
        let N = n.id ∷ inside_stmt st in
        pairs_join cuts (stmt_pairs barrier subject from n.id st) (block_pairs barrier subject (onward barrier from n.id st) rest) N (nodes_of_row rest)
        (stmt_in from n.id st (fit_fewer from (N ++ nodes_of_row rest) N (early N N (nodes_of_row rest) (same N)) f)) (block_in (onward barrier from n.id st) rest (fit_onward from n.id st (nodes_of_row rest) f))

  list_in : (from : List Cut) (sts : List Stmt) → Fit from (nodes_of_list sts) → Stand (list_pairs barrier subject from sts) (nodes_of_list sts)
  list_in from [] f = tt
  list_in from (st ∷ sts) f =
      let N = st.node.id ∷ inside_stmt st.kind in
      pairs_join cuts (stmt_pairs barrier subject from st.node.id st.kind) (list_pairs barrier subject (onward barrier from st.node.id st.kind) sts) N (nodes_of_list sts)
      (stmt_in from st.node.id st.kind (fit_fewer from (N ++ nodes_of_list sts) N (early N N (nodes_of_list sts) (same N)) f))
      (list_in (onward barrier from st.node.id st.kind) sts (fit_onward from st.node.id st.kind (nodes_of_list sts) f))

pub flow_in_order : (p : Program) (barrier subject : ℕ → Bool) → IsSublist (list_pairs barrier subject (Start ∷ []) p.body) (all_pairs (Start ∷ cuts_at (nodes_of p)) (targets_at (nodes_of p)))
flow_in_order p barrier subject =
    let cuts = Start ∷ cuts_at (nodes_of p) in
    let b = body_nodes p in
    through (list_pairs barrier subject (Start ∷ []) p.body) (all_pairs cuts (targets_at (nodes_of_list p.body))) (all_pairs cuts (targets_at (nodes_of p)))
    (list_in barrier subject cuts (Start ∷ []) p.body (inl (refl, fewer_cuts (nodes_of_list p.body) (nodes_of p) b)))
    (fewer_pairs cuts (targets_at (nodes_of_list p.body)) (targets_at (nodes_of p)) (fewer_targets (nodes_of_list p.body) (nodes_of p) b))
