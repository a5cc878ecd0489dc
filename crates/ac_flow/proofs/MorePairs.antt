-- More cuts give more pairs.
use Rattle.std.proofs.Common.{ℕ, Bool, if◌then◌else◌, List, [], ◌∷◌, ◌++◌}
use Rattle.ac_tree.specs.declared.node.Node.{Node}
use Rattle.ac_tree.specs.declared.node.NodeId.{NodeId}
use Rattle.ac_tree.specs.declared.path.Cut.{Cut}
use Rattle.ac_tree.specs.declared.path.Cut.TheVariants as cut
use Rattle.ac_tree.specs.declared.path.Target.TheVariants.{Entry, Keep, Barrier, Site}
use Rattle.ac_tree.specs.declared.program.CondKind.{CondKind}
use Rattle.ac_tree.specs.declared.program.CondKind.TheVariants.{True, False, Rel}
use Rattle.ac_tree.specs.declared.program.ExprKind.{ExprKind}
use Rattle.ac_tree.specs.declared.program.ExprKind.TheVariants.{Num, Get, Read}
use Rattle.ac_tree.specs.declared.program.Index.{Index}
use Rattle.ac_tree.specs.declared.program.Stmt.{Stmt}
use Rattle.ac_tree.specs.declared.program.StmtKind.{StmtKind, Row_of-Stmt, end_of-Stmt, more_of-Stmt, Set, Put, If', For', While', Hand, Skip}
use Rattle.ac_tree.specs.Patterns.{Negative, Plus, Minus, Times, OneIndex, TwoIndexes, Negation, Conjunction, Disjunction}
use Rattle.ac_flow.specs.Opened.{hidden, expr_shape, expr_child, cond_shape, cond_child}
use Rattle.ac_flow.specs.Through.{passes, goes_on, exits, leaving, list_passes, behind, onward, behind_block}
use Rattle.ac_flow.specs.ThroughLists.{list_exits, behind_list}
use Rattle.ac_flow.proofs.Within.{Sub, same, pairwise, where-true, from-each}
use Rattle.ac_flow.specs.Pairs.{each, site_pairs, expr_pairs, index_pairs, cond_pairs, barrier_pairs, loop_pairs, stmt_pairs, block_pairs}

module _ (barrier subject : ℕ → Bool) where
  pub more-site : (n : NodeId) (F G : List Cut) → Sub F G → Sub (site_pairs subject F n) (site_pairs subject G n)
  more-site n F G f = where-true (subject n.0) (each F (Site n)) (each G (Site n)) (from-each (Site n) F G f)

  pub more-barrier : (n : NodeId) (F G : List Cut) → Sub F G → Sub (barrier_pairs barrier F n) (barrier_pairs barrier G n)
  more-barrier n F G f = where-true (barrier n.0) (each F (Barrier n)) (each G (Barrier n)) (from-each (Barrier n) F G f)

  mutual
    unfolding hidden expr_shape expr_child

    more-expr : (n : Node) (e : ExprKind) (F G : List Cut) → Sub F G → Sub (expr_pairs subject F n e) (expr_pairs subject G n e)
    more-expr n (Num k) F G f = same []
    more-expr n (Get x) F G f = more-site n.id F G f
    more-expr n (Read x i) F G f = pairwise (site_pairs subject F n.id) (index_pairs subject F i) (site_pairs subject G n.id) (index_pairs subject G i) (more-site n.id F G f) (more-index i F G f)
    more-expr n (Negative m a) F G f = more-expr m a F G f
    more-expr n (Plus k a m b) F G f = pairwise (expr_pairs subject F k a) (expr_pairs subject F m b) (expr_pairs subject G k a) (expr_pairs subject G m b) (more-expr k a F G f) (more-expr m b F G f)
    more-expr n (Minus k a m b) F G f = pairwise (expr_pairs subject F k a) (expr_pairs subject F m b) (expr_pairs subject G k a) (expr_pairs subject G m b) (more-expr k a F G f) (more-expr m b F G f)
    more-expr n (Times k a m b) F G f = pairwise (expr_pairs subject F k a) (expr_pairs subject F m b) (expr_pairs subject G k a) (expr_pairs subject G m b) (more-expr k a F G f) (more-expr m b F G f)

    more-index : (i : Index) (F G : List Cut) → Sub F G → Sub (index_pairs subject F i) (index_pairs subject G i)
    more-index (OneIndex n a) F G f = more-expr n a F G f
    more-index (TwoIndexes k a m b) F G f = pairwise (expr_pairs subject F k a) (expr_pairs subject F m b) (expr_pairs subject G k a) (expr_pairs subject G m b) (more-expr k a F G f) (more-expr m b F G f)

  pub more-cond : (c : CondKind) (F G : List Cut) → Sub F G → Sub (cond_pairs subject F c) (cond_pairs subject G c)
  unfolding hidden cond_shape cond_child
  more-cond True F G f = same []
  more-cond False F G f = same []
  more-cond (Rel op a b) F G f = pairwise (expr_pairs subject F a.node a.kind) (expr_pairs subject F b.node b.kind) (expr_pairs subject G a.node a.kind) (expr_pairs subject G b.node b.kind) (more-expr a.node a.kind F G f) (more-expr b.node b.kind F G f)
  more-cond (Negation n c) F G f = more-cond c F G f
  more-cond (Conjunction n c m d) F G f = pairwise (cond_pairs subject F c) (cond_pairs subject F d) (cond_pairs subject G c) (cond_pairs subject G d) (more-cond c F G f) (more-cond d F G f)
  more-cond (Disjunction n c m d) F G f = pairwise (cond_pairs subject F c) (cond_pairs subject F d) (cond_pairs subject G c) (cond_pairs subject G d) (more-cond c F G f) (more-cond d F G f)

  more-behind : (n : NodeId) (st : StmtKind) (F G : List Cut) → Sub F G → Sub (behind barrier F n st) (behind barrier G n st)
  more-behind n st F G f = pairwise (if passes barrier st then F else []) (exits barrier n st) (if passes barrier st then G else []) (exits barrier n st) (where-true (passes barrier st) F G f) (same (exits barrier n st))

  pub more-onward : (n : NodeId) (st : StmtKind) (F G : List Cut) → Sub F G → Sub (onward barrier F n st) (onward barrier G n st)
  more-onward n st F G f = pairwise (if goes_on barrier n st then F else []) (leaving barrier n st) (if goes_on barrier n st then G else []) (leaving barrier n st) (where-true (goes_on barrier n st) F G f) (same (leaving barrier n st))

  more-behind_list : (sts : List Stmt) (F G : List Cut) → Sub F G → Sub (behind_list barrier F sts) (behind_list barrier G sts)
  more-behind_list sts F G f = pairwise (if list_passes barrier sts then F else []) (list_exits barrier sts) (if list_passes barrier sts then G else []) (list_exits barrier sts) (where-true (list_passes barrier sts) F G f) (same (list_exits barrier sts))

  more-loop : (n : NodeId) (kept : List Cut) (F G : List Cut) → Sub F G → Sub (loop_pairs barrier F n kept) (loop_pairs barrier G n kept)
  more-loop n kept F G f =
      pairwise (each F (Entry n)) (each kept (Keep n) ++ barrier_pairs barrier (cut.Exit n ∷ []) n) (each G (Entry n)) (each kept (Keep n) ++ barrier_pairs barrier (cut.Exit n ∷ []) n)
      (from-each (Entry n) F G f) (same (each kept (Keep n) ++ barrier_pairs barrier (cut.Exit n ∷ []) n))

  mutual
    pub more-stmt : (n : NodeId) (st : StmtKind) (F G : List Cut) → Sub F G → Sub (stmt_pairs barrier subject F n st) (stmt_pairs barrier subject G n st)
    more-stmt n (Set x e) F G f =
        pairwise (barrier_pairs barrier F n) (site_pairs subject F n ++ expr_pairs subject F e.node e.kind) (barrier_pairs barrier G n) (site_pairs subject G n ++ expr_pairs subject G e.node e.kind)
        (more-barrier n F G f) (pairwise (site_pairs subject F n) (expr_pairs subject F e.node e.kind) (site_pairs subject G n) (expr_pairs subject G e.node e.kind) (more-site n F G f) (more-expr e.node e.kind F G f))
    more-stmt n (Put x i e) F G f =
        pairwise (barrier_pairs barrier F n) (site_pairs subject F n ++ (index_pairs subject F i ++ expr_pairs subject F e.node e.kind)) (barrier_pairs barrier G n) (site_pairs subject G n ++ (index_pairs subject G i ++ expr_pairs subject G e.node e.kind))
        (more-barrier n F G f)
        (pairwise (site_pairs subject F n) (index_pairs subject F i ++ expr_pairs subject F e.node e.kind) (site_pairs subject G n) (index_pairs subject G i ++ expr_pairs subject G e.node e.kind)
        (more-site n F G f) (pairwise (index_pairs subject F i) (expr_pairs subject F e.node e.kind) (index_pairs subject G i) (expr_pairs subject G e.node e.kind) (more-index i F G f) (more-expr e.node e.kind F G f)))
    more-stmt n (If' test k yes_ m no_) F G f =
        pairwise (barrier_pairs barrier (behind barrier F n (If' test k yes_ m no_)) n) (cond_pairs subject F test.kind ++ (block_pairs barrier subject F yes_ ++ block_pairs barrier subject F no_))
        (barrier_pairs barrier (behind barrier G n (If' test k yes_ m no_)) n) (cond_pairs subject G test.kind ++ (block_pairs barrier subject G yes_ ++ block_pairs barrier subject G no_))
        (more-barrier n (behind barrier F n (If' test k yes_ m no_)) (behind barrier G n (If' test k yes_ m no_)) (more-behind n (If' test k yes_ m no_) F G f))
        (pairwise (cond_pairs subject F test.kind) (block_pairs barrier subject F yes_ ++ block_pairs barrier subject F no_) (cond_pairs subject G test.kind) (block_pairs barrier subject G yes_ ++ block_pairs barrier subject G no_)
        (more-cond test.kind F G f)
        (pairwise (block_pairs barrier subject F yes_) (block_pairs barrier subject F no_) (block_pairs barrier subject G yes_) (block_pairs barrier subject G no_) (more-block yes_ F G f) (more-block no_ F G f)))
    more-stmt n (For' x lo hi k body) F G f =
        let kept = behind_block barrier (cut.Head n ∷ []) body in
        let inside = block_pairs barrier subject (cut.Head n ∷ []) body in
        pairwise (loop_pairs barrier F n kept) (expr_pairs subject F lo.node lo.kind ++ (expr_pairs subject F hi.node hi.kind ++ inside)) (loop_pairs barrier G n kept) (expr_pairs subject G lo.node lo.kind ++ (expr_pairs subject G hi.node hi.kind ++ inside))
        (more-loop n kept F G f)
        (pairwise (expr_pairs subject F lo.node lo.kind) (expr_pairs subject F hi.node hi.kind ++ inside) (expr_pairs subject G lo.node lo.kind) (expr_pairs subject G hi.node hi.kind ++ inside) (more-expr lo.node lo.kind F G f)
        (pairwise (expr_pairs subject F hi.node hi.kind) inside (expr_pairs subject G hi.node hi.kind) inside (more-expr hi.node hi.kind F G f) (same inside)))
    more-stmt n (While' test k body) F G f =
        let kept = behind_block barrier (cut.Head n ∷ []) body in
        let inside = cond_pairs subject (cut.Head n ∷ []) test.kind ++ block_pairs barrier subject (cut.Head n ∷ []) body in
        pairwise (loop_pairs barrier F n kept) inside (loop_pairs barrier G n kept) inside (more-loop n kept F G f) (same inside)
    more-stmt n (Hand x role) F G f = pairwise (barrier_pairs barrier F n) (site_pairs subject F n) (barrier_pairs barrier G n) (site_pairs subject G n) (more-barrier n F G f) (more-site n F G f)
    more-stmt n Skip F G f = more-barrier n F G f

    more-block : {k : _} (row : Row_of-Stmt k) (F G : List Cut) → Sub F G → Sub (block_pairs barrier subject F row) (block_pairs barrier subject G row)
    more-block end_of-Stmt F G f = same []
    more-block (more_of-Stmt n st rest) F G f =
        pairwise (stmt_pairs barrier subject F n.id st) (block_pairs barrier subject (onward barrier F n.id st) rest) (stmt_pairs barrier subject G n.id st) (block_pairs barrier subject (onward barrier G n.id st) rest)
        (more-stmt n.id st F G f) (more-block rest (onward barrier F n.id st) (onward barrier G n.id st) (more-onward n.id st F G f))
