-- The pairs of what is left to do at a point, by the cuts from which control comes there.
use Rattle.std.proofs.Common.{◌≡◌, ℕ, Bool, true, false, ◌&&◌, if◌then◌else◌, List, [], ◌∷◌, ◌++◌, map, Option, Some, None, refl, sym, ◌∙◌, ap, append_assoc}
use Rattle.ac_tree.specs.declared.node.Node.{Node}
use Rattle.ac_tree.specs.declared.node.NodeId.{NodeId}
use Rattle.ac_tree.specs.declared.path.Cut.{Cut}
use Rattle.ac_tree.specs.declared.path.Cut.TheVariants as cut
use Rattle.ac_tree.specs.declared.path.Pair.{Pair}
use Rattle.ac_tree.specs.declared.path.Target.TheVariants.{Entry, Keep}
use Rattle.ac_tree.specs.declared.program.Cond.{Cond}
use Rattle.ac_tree.specs.declared.program.ExprKind.{ExprKind}
use Rattle.ac_tree.specs.declared.program.ExprKind.TheVariants.{Num, Get, Read}
use Rattle.ac_tree.specs.declared.program.Index.{Index}
use Rattle.ac_tree.specs.declared.program.Stmt.{Stmt}
use Rattle.ac_tree.specs.declared.program.StmtKind.{Row_of-Stmt, end_of-Stmt, more_of-Stmt}
use Rattle.ac_tree.specs.Patterns.{Negative, Plus, Minus, Times, OneIndex, TwoIndexes}
use Rattle.ac_flow.specs.Opened.{hidden, expr_shape, expr_child}
use Rattle.ac_flow.specs.Points.{Begin, Do, Behind, Enter, Test, Turn, Exit, Judge, Decide, See, Point, reads_of, index_reads, block}
use Rattle.ac_flow.specs.Through.{block_passes, goes_on, block_exits, leaving, list_passes, onward, behind_block}
use Rattle.ac_flow.specs.ThroughLists.{list_exits, behind_list}
use Rattle.ac_flow.proofs.Within.{Sub, in-left, both, same, none, equal, late, early, pairwise, from-each}
use Rattle.ac_flow.specs.Pairs.{each, site_pairs, expr_pairs, index_pairs, cond_pairs, barrier_pairs, stmt_pairs, block_pairs, list_pairs}
use Rattle.ac_flow.proofs.MorePairs.{more-site, more-barrier, more-cond, more-onward, more-stmt}

module _ (barrier subject : ℕ → Bool) where
  abbrev pub on : NodeId → List Cut → List Cut
  on n F = if barrier n.0 then cut.After n ∷ [] else F

  abbrev pub in_test : NodeId → Option Cond → List Pair
  in_test n None = []
  in_test n (Some c) = cond_pairs subject (cut.Head n ∷ []) c.kind

  -- behind a loop, by the pairs of the rest
  abbrev pub exit_pairs : NodeId → List Pair → List Pair
  exit_pairs n more = barrier_pairs barrier (cut.Exit n ∷ []) n ++ more

  abbrev pub turn_pairs : NodeId → Option Cond → List Stmt → List Pair → List Pair
  turn_pairs n test body more = in_test n test ++ (list_pairs barrier subject (cut.Head n ∷ []) body ++ (each (behind_list barrier (cut.Head n ∷ []) body) (Keep n) ++ exit_pairs n more))

  abbrev pub point_pairs : List Cut → Point → List Pair
  point_pairs F [] = []
  point_pairs F (Begin ∷ rest) = point_pairs (cut.Start ∷ []) rest
  point_pairs F (Do st ∷ rest) = stmt_pairs barrier subject F st.node.id st.kind ++ point_pairs (onward barrier F st.node.id st.kind) rest
  point_pairs F (Behind n ∷ rest) = barrier_pairs barrier F n ++ point_pairs (on n F) rest
  point_pairs F (Enter n test body ∷ rest) = each F (Entry n) ++ turn_pairs n test body (point_pairs (on n (cut.Exit n ∷ [])) rest)
  point_pairs F (Test n test body ∷ rest) = turn_pairs n test body (point_pairs (on n (cut.Exit n ∷ [])) rest)
  point_pairs F (Turn n test body ∷ rest) = each F (Keep n) ++ turn_pairs n test body (point_pairs (on n (cut.Exit n ∷ [])) rest)
  point_pairs F (Exit n ∷ rest) = exit_pairs n (point_pairs (on n (cut.Exit n ∷ [])) rest)
  point_pairs F (Judge c ∷ rest) = cond_pairs subject F c.kind ++ point_pairs F rest
  point_pairs F (Decide c ∷ rest) = cond_pairs subject F c ++ point_pairs F rest
  point_pairs F (See n ∷ rest) = site_pairs subject F n ++ point_pairs F rest

  more-on : (n : NodeId) (F G : List Cut) → Sub F G → Sub (on n F) (on n G)
  more-on n F G f = go (barrier n.0)
    where
      go : (b : Bool) → Sub (if b then cut.After n ∷ [] else F) (if b then cut.After n ∷ [] else G)
      go true = same (cut.After n ∷ [])
      go false = f

  pub more-point : (p : Point) (F G : List Cut) → Sub F G → Sub (point_pairs F p) (point_pairs G p)
  more-point [] F G f = same []
  more-point (Begin ∷ rest) F G f = same (point_pairs (cut.Start ∷ []) rest)
  more-point (Do st ∷ rest) F G f =
      pairwise (stmt_pairs barrier subject F st.node.id st.kind) (point_pairs (onward barrier F st.node.id st.kind) rest) (stmt_pairs barrier subject G st.node.id st.kind) (point_pairs (onward barrier G st.node.id st.kind) rest)
      (more-stmt barrier subject st.node.id st.kind F G f) (more-point rest (onward barrier F st.node.id st.kind) (onward barrier G st.node.id st.kind) (more-onward barrier subject st.node.id st.kind F G f))
  more-point (Behind n ∷ rest) F G f = pairwise (barrier_pairs barrier F n) (point_pairs (on n F) rest) (barrier_pairs barrier G n) (point_pairs (on n G) rest) (more-barrier barrier subject n F G f) (more-point rest (on n F) (on n G) (more-on n F G f))
  more-point (Enter n test body ∷ rest) F G f =
      let inside = turn_pairs n test body (point_pairs (on n (cut.Exit n ∷ [])) rest) in pairwise (each F (Entry n)) inside (each G (Entry n)) inside (from-each (Entry n) F G f) (same inside)
  more-point (Test n test body ∷ rest) F G f = same (turn_pairs n test body (point_pairs (on n (cut.Exit n ∷ [])) rest))
  more-point (Turn n test body ∷ rest) F G f =
      let inside = turn_pairs n test body (point_pairs (on n (cut.Exit n ∷ [])) rest) in pairwise (each F (Keep n)) inside (each G (Keep n)) inside (from-each (Keep n) F G f) (same inside)
  more-point (Exit n ∷ rest) F G f = same (exit_pairs n (point_pairs (on n (cut.Exit n ∷ [])) rest))
  more-point (Judge c ∷ rest) F G f = pairwise (cond_pairs subject F c.kind) (point_pairs F rest) (cond_pairs subject G c.kind) (point_pairs G rest) (more-cond barrier subject c.kind F G f) (more-point rest F G f)
  more-point (Decide c ∷ rest) F G f = pairwise (cond_pairs subject F c) (point_pairs F rest) (cond_pairs subject G c) (point_pairs G rest) (more-cond barrier subject c F G f) (more-point rest F G f)
  more-point (See n ∷ rest) F G f = pairwise (site_pairs subject F n) (point_pairs F rest) (site_pairs subject G n) (point_pairs G rest) (more-site barrier subject n F G f) (more-point rest F G f)

  -- the pairs of some accesses
  abbrev pub sites : List Cut → List NodeId → List Pair
  sites F [] = []
  sites F (n ∷ ns) = site_pairs subject F n ++ sites F ns

  sites-append : (F : List Cut) (ms ns : List NodeId) → Sub (sites F (ms ++ ns)) (sites F ms ++ sites F ns)
  sites-append F [] ns x h = h
  sites-append F (m ∷ ms) ns x h =
      equal (site_pairs subject F m ++ (sites F ms ++ sites F ns)) ((site_pairs subject F m ++ sites F ms) ++ sites F ns) (sym (append_assoc (site_pairs subject F m) (sites F ms) (sites F ns))) x
      (pairwise (site_pairs subject F m) (sites F (ms ++ ns)) (site_pairs subject F m) (sites F ms ++ sites F ns) (same (site_pairs subject F m)) (sites-append F ms ns) x h)

  pub two-sites : (F : List Cut) (ms ns : List NodeId) (xs ys : List Pair) → Sub (sites F ms) xs → Sub (sites F ns) ys → Sub (sites F (ms ++ ns)) (xs ++ ys)
  two-sites F ms ns xs ys f g x h = pairwise (sites F ms) (sites F ns) xs ys f g x (sites-append F ms ns x h)

  turned-sites : (F : List Cut) (ms ns : List NodeId) (xs ys : List Pair) → Sub (sites F ms) xs → Sub (sites F ns) ys → Sub (sites F (ms ++ ns)) (ys ++ xs)
  turned-sites F ms ns xs ys f g x h = both (sites F ms) (sites F ns) (ys ++ xs) (late (sites F ms) ys xs f) (early (sites F ns) ys xs g) x (sites-append F ms ns x h)

  mutual
    unfolding hidden expr_shape expr_child

    pub reads-listed : (F : List Cut) (n : Node) (e : ExprKind) → Sub (sites F (reads_of n e)) (expr_pairs subject F n e)
    reads-listed F n (Num k) = same []
    reads-listed F n (Get x) = both (site_pairs subject F n.id) [] (site_pairs subject F n.id) (same (site_pairs subject F n.id)) (none (site_pairs subject F n.id))
    reads-listed F n (Read x i) =
        turned-sites F (index_reads i) (n.id ∷ []) (index_pairs subject F i) (site_pairs subject F n.id) (index-listed F i)
        (both (site_pairs subject F n.id) [] (site_pairs subject F n.id) (same (site_pairs subject F n.id)) (none (site_pairs subject F n.id)))
    reads-listed F n (Negative m a) = reads-listed F m a
    reads-listed F n (Plus k a m b) = two-sites F (reads_of k a) (reads_of m b) (expr_pairs subject F k a) (expr_pairs subject F m b) (reads-listed F k a) (reads-listed F m b)
    reads-listed F n (Minus k a m b) = two-sites F (reads_of k a) (reads_of m b) (expr_pairs subject F k a) (expr_pairs subject F m b) (reads-listed F k a) (reads-listed F m b)
    reads-listed F n (Times k a m b) = two-sites F (reads_of k a) (reads_of m b) (expr_pairs subject F k a) (expr_pairs subject F m b) (reads-listed F k a) (reads-listed F m b)

    pub index-listed : (F : List Cut) (i : Index) → Sub (sites F (index_reads i)) (index_pairs subject F i)
    index-listed F (OneIndex n a) = reads-listed F n a
    index-listed F (TwoIndexes k a m b) = two-sites F (reads_of k a) (reads_of m b) (expr_pairs subject F k a) (expr_pairs subject F m b) (reads-listed F k a) (reads-listed F m b)

  -- accesses, and then what is left to do
  pub seen : (F : List Cut) (ns : List NodeId) (after rest : Point) → Sub (point_pairs F ((map See ns ++ after) ++ rest)) (sites F ns ++ point_pairs F (after ++ rest))
  seen F [] after rest x h = h
  seen F (n ∷ ns) after rest x h =
      equal (site_pairs subject F n ++ (sites F ns ++ point_pairs F (after ++ rest))) ((site_pairs subject F n ++ sites F ns) ++ point_pairs F (after ++ rest))
      (sym (append_assoc (site_pairs subject F n) (sites F ns) (point_pairs F (after ++ rest)))) x
      (pairwise (site_pairs subject F n) (point_pairs F ((map See ns ++ after) ++ rest)) (site_pairs subject F n) (sites F ns ++ point_pairs F (after ++ rest)) (same (site_pairs subject F n)) (seen F ns after rest) x h)

  pub all-seen : (F : List Cut) (ns : List NodeId) (rest : Point) → Sub (point_pairs F (map See ns ++ rest)) (sites F ns ++ point_pairs F rest)
  all-seen F [] rest x h = h
  all-seen F (n ∷ ns) rest x h =
      equal (site_pairs subject F n ++ (sites F ns ++ point_pairs F rest)) ((site_pairs subject F n ++ sites F ns) ++ point_pairs F rest)
      (sym (append_assoc (site_pairs subject F n) (sites F ns) (point_pairs F rest))) x
      (pairwise (site_pairs subject F n) (point_pairs F (map See ns ++ rest)) (site_pairs subject F n) (sites F ns ++ point_pairs F rest) (same (site_pairs subject F n)) (all-seen F ns rest) x h)

  -- statements, and then what is left to do

  led-through : (F leave more : List Cut) (g p : Bool) → Sub ((if p then (if g then F else []) ++ leave else []) ++ more) ((if g && p then F else []) ++ ((if p then leave else []) ++ more))
  led-through F leave more true true = equal ((F ++ leave) ++ more) (F ++ (leave ++ more)) (append_assoc F leave more)
  led-through F leave more true false = same more
  led-through F leave more false true = same (leave ++ more)
  led-through F leave more false false = same more

  pub done : (F : List Cut) (sts : List Stmt) (after rest : Point) → Sub (point_pairs F ((map Do sts ++ after) ++ rest)) (list_pairs barrier subject F sts ++ point_pairs (behind_list barrier F sts) (after ++ rest))
  done F [] after rest x h = more-point (after ++ rest) F (F ++ []) (in-left F []) x h
  done F (st ∷ sts) after rest x h =
      let here = stmt_pairs barrier subject F st.node.id st.kind in
      let O = onward barrier F st.node.id st.kind in
      let there = list_pairs barrier subject O sts in
      let end = point_pairs (behind_list barrier F (st ∷ sts)) (after ++ rest) in
      let grows : Sub (point_pairs (behind_list barrier O sts) (after ++ rest)) end =
      more-point (after ++ rest) (behind_list barrier O sts) (behind_list barrier F (st ∷ sts))
      (led-through F (leaving barrier st.node.id st.kind) (list_exits barrier sts) (goes_on barrier st.node.id st.kind) (list_passes barrier sts)) in
      let inner : Sub (point_pairs O ((map Do sts ++ after) ++ rest)) (there ++ end) =
      λ y k. pairwise there (point_pairs (behind_list barrier O sts) (after ++ rest)) there end (same there) grows y (done O sts after rest y k) in
      equal (here ++ (there ++ end)) ((here ++ there) ++ end) (sym (append_assoc here there end)) x
      (pairwise here (point_pairs O ((map Do sts ++ after) ++ rest)) here (there ++ end) (same here) inner x h)

  pub all-done : (F : List Cut) (sts : List Stmt) → Sub (point_pairs F (map Do sts)) (list_pairs barrier subject F sts)
  all-done F [] = same []
  all-done F (st ∷ sts) =
      pairwise (stmt_pairs barrier subject F st.node.id st.kind) (point_pairs (onward barrier F st.node.id st.kind) (map Do sts)) (stmt_pairs barrier subject F st.node.id st.kind) (list_pairs barrier subject (onward barrier F st.node.id st.kind) sts)
      (same (stmt_pairs barrier subject F st.node.id st.kind)) (all-done (onward barrier F st.node.id st.kind) sts)

  row-passes : {k : _} (row : Row_of-Stmt k) → list_passes barrier (block row) ≡ block_passes barrier row
  row-passes end_of-Stmt = refl
  row-passes (more_of-Stmt n st rest) = ap (λ b. goes_on barrier n.id st && b) (row-passes rest)

  row-exits : {k : _} (row : Row_of-Stmt k) → list_exits barrier (block row) ≡ block_exits barrier row
  row-exits end_of-Stmt = refl
  row-exits (more_of-Stmt n st rest) =
      ap (λ b. (if b then leaving barrier n.id st else []) ++ list_exits barrier (block rest)) (row-passes rest)
      ∙ ap (λ cs. (if block_passes barrier rest then leaving barrier n.id st else []) ++ cs) (row-exits rest)

  pub row-pairs : {k : _} (row : Row_of-Stmt k) (F : List Cut) → list_pairs barrier subject F (block row) ≡ block_pairs barrier subject F row
  row-pairs end_of-Stmt F = refl
  row-pairs (more_of-Stmt n st rest) F = ap (λ ps. stmt_pairs barrier subject F n.id st ++ ps) (row-pairs rest (onward barrier F n.id st))

  pub row-behind : {k : _} (row : Row_of-Stmt k) (F : List Cut) → behind_list barrier F (block row) ≡ behind_block barrier F row
  row-behind row F = ap (λ b. (if b then F else []) ++ list_exits barrier (block row)) (row-passes row) ∙ ap (λ cs. (if block_passes barrier row then F else []) ++ cs) (row-exits row)
