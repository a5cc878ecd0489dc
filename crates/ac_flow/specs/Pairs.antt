-- The pairs of a program in their order: by target, and the targets by node, with Entry, Keep, Barrier, Site at one node; and
-- at one target by cut. A list of cuts are those from which control comes to a point without passing another.
use Rattle.std.specs.Prelude.{ℕ, nat_eq, Bool, if◌then◌else◌, List, [], ◌∷◌, ◌++◌, map}
use Rattle.std.specs.List.{list_any}
use Rattle.ac_tree.specs.declared.node.Node.{Node}
use Rattle.ac_tree.specs.declared.node.NodeId.{NodeId}
use Rattle.ac_tree.specs.declared.path.Cut.{Cut}
use Rattle.ac_tree.specs.declared.path.Cut.TheVariants.{Start, Head, Exit}
use Rattle.ac_tree.specs.declared.path.Pair.{Pair}
use Rattle.ac_tree.specs.declared.path.Target.{Target}
use Rattle.ac_tree.specs.declared.path.Target.TheVariants.{Entry, Keep, Barrier, Site}
use Rattle.ac_tree.specs.declared.program.CondKind.{CondKind}
use Rattle.ac_tree.specs.declared.program.CondKind.TheVariants.{True, False, Rel}
use Rattle.ac_tree.specs.declared.program.ExprKind.{ExprKind}
use Rattle.ac_tree.specs.declared.program.ExprKind.TheVariants.{Num, Get, Read}
use Rattle.ac_tree.specs.declared.program.Index.{Index}
use Rattle.ac_tree.specs.declared.program.Program.{Program}
use Rattle.ac_tree.specs.declared.program.Stmt.{Stmt}
use Rattle.ac_tree.specs.declared.program.StmtKind.{StmtKind, Row_of-Stmt, end_of-Stmt, more_of-Stmt, Set, Put, If', For', While', Hand, Skip}
use Rattle.ac_tree.specs.Patterns.{Negative, Plus, Minus, Times, OneIndex, TwoIndexes, Negation, Conjunction, Disjunction}
use Rattle.ac_flow.specs.Opened.{hidden, expr_shape, expr_child, cond_shape, cond_child}
use Rattle.ac_flow.specs.Cuts.{has_barrier}
use Rattle.ac_flow.specs.Through.{onward, behind, behind_block}

abbrev pub is_node : ℕ → NodeId → Bool
is_node n m = nat_eq m.0 n

abbrev pub is_subject : List NodeId → ℕ → Bool
is_subject nodes n = list_any (is_node n) nodes

-- some cuts with a target
abbrev pub each : List Cut → Target → List Pair
each cuts t = map (λ c. record { cut = c; target = t }) cuts

module _ (subject : ℕ → Bool) where
  abbrev pub site_pairs : List Cut → NodeId → List Pair
  site_pairs cuts n = if subject n.0 then each cuts (Site n) else []

  abbrev mutual
    unfolding hidden expr_shape expr_child

    pub expr_pairs : List Cut → Node → ExprKind → List Pair
    expr_pairs cuts n (Num k) = []
    expr_pairs cuts n (Get x) = site_pairs cuts n.id
    expr_pairs cuts n (Read x i) = site_pairs cuts n.id ++ index_pairs cuts i
    expr_pairs cuts n (Negative m a) = expr_pairs cuts m a
    expr_pairs cuts n (Plus k a m b) = expr_pairs cuts k a ++ expr_pairs cuts m b
    expr_pairs cuts n (Minus k a m b) = expr_pairs cuts k a ++ expr_pairs cuts m b
    expr_pairs cuts n (Times k a m b) = expr_pairs cuts k a ++ expr_pairs cuts m b

    pub index_pairs : List Cut → Index → List Pair
    index_pairs cuts (OneIndex n a) = expr_pairs cuts n a
    index_pairs cuts (TwoIndexes n a m b) = expr_pairs cuts n a ++ expr_pairs cuts m b

  abbrev pub cond_pairs : List Cut → CondKind → List Pair
  unfolding hidden cond_shape cond_child
  cond_pairs cuts True = []
  cond_pairs cuts False = []
  cond_pairs cuts (Rel op a b) = expr_pairs cuts a.node a.kind ++ expr_pairs cuts b.node b.kind
  cond_pairs cuts (Negation n c) = cond_pairs cuts c
  cond_pairs cuts (Conjunction n c m d) = cond_pairs cuts c ++ cond_pairs cuts d
  cond_pairs cuts (Disjunction n c m d) = cond_pairs cuts c ++ cond_pairs cuts d

module _ (barrier : ℕ → Bool) where
  abbrev pub barrier_pairs : List Cut → NodeId → List Pair
  barrier_pairs cuts n = if barrier n.0 then each cuts (Barrier n) else []

  -- a loop is entered from the first cuts and kept from the second
  abbrev pub loop_pairs : List Cut → NodeId → List Cut → List Pair
  loop_pairs cuts n kept = each cuts (Entry n) ++ (each kept (Keep n) ++ barrier_pairs (Exit n ∷ []) n)

module _ (barrier subject : ℕ → Bool) where
  abbrev mutual
    pub stmt_pairs : List Cut → NodeId → StmtKind → List Pair
    stmt_pairs cuts n (Set x e) = barrier_pairs barrier cuts n ++ (site_pairs subject cuts n ++ expr_pairs subject cuts e.node e.kind)
    stmt_pairs cuts n (Put x i e) = barrier_pairs barrier cuts n ++ (site_pairs subject cuts n ++ (index_pairs subject cuts i ++ expr_pairs subject cuts e.node e.kind))
    stmt_pairs cuts n (If' test k yes_ m no_) =
        barrier_pairs barrier (behind barrier cuts n (If' test k yes_ m no_)) n ++ (cond_pairs subject cuts test.kind ++ (block_pairs cuts yes_ ++ block_pairs cuts no_))
    stmt_pairs cuts n (For' x lo hi _ body) =
        loop_pairs barrier cuts n (behind_block barrier (Head n ∷ []) body) ++
        (expr_pairs subject cuts lo.node lo.kind ++ (expr_pairs subject cuts hi.node hi.kind ++ block_pairs (Head n ∷ []) body))
    stmt_pairs cuts n (While' test _ body) =
        loop_pairs barrier cuts n (behind_block barrier (Head n ∷ []) body) ++ (cond_pairs subject (Head n ∷ []) test.kind ++ block_pairs (Head n ∷ []) body)
    stmt_pairs cuts n (Hand x role) = barrier_pairs barrier cuts n ++ site_pairs subject cuts n
    stmt_pairs cuts n Skip = barrier_pairs barrier cuts n

    pub block_pairs : {k : _} → List Cut → Row_of-Stmt k → List Pair
    block_pairs cuts end_of-Stmt = []
    block_pairs cuts (more_of-Stmt n st rest) = stmt_pairs cuts n.id st ++ block_pairs (onward barrier cuts n.id st) rest

  -- the same of a list of statements
  abbrev pub list_pairs : List Cut → List Stmt → List Pair
  list_pairs cuts [] = []
  list_pairs cuts (st ∷ rest) = stmt_pairs cuts st.node.id st.kind ++ list_pairs (onward barrier cuts st.node.id st.kind) rest

-- the subject nodes are those whose sites are targets
abbrev pub pairs_of : Program → List Cut → List NodeId → List Pair
pairs_of p cuts nodes = list_pairs (has_barrier cuts) (is_subject nodes) (Start ∷ []) p.body
