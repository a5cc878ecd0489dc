-- The sites of a program stand in the order of its nodes, and each node has one at most.
use Rattle.std.proofs.Common.{◌≡◌, ◌⊎◌, ℕ, zero, suc, ◌+◌, ◌<◌, ◌≤◌, List, [], ◌∷◌, ◌++◌, Option, Some, None, ℤ, refl, sym, ap, subst, arith, inl, inr, Contains}
use Rattle.std.specs.List.{AllByRecursion}
use Rattle.ac_tree.specs.declared.node.NodeId.{NodeId}
use Rattle.ac_tree.specs.declared.program.CondKind.{CondKind}
use Rattle.ac_tree.specs.declared.program.CondKind.TheVariants.{True, False, Rel}
use Rattle.ac_tree.specs.declared.program.ExprKind.{ExprKind}
use Rattle.ac_tree.specs.declared.program.ExprKind.TheVariants.{Num, Get, Read}
use Rattle.ac_tree.specs.declared.program.Index.{Index}
use Rattle.ac_tree.specs.declared.program.Program.{Program}
use Rattle.ac_tree.specs.declared.program.Stmt.{Stmt}
use Rattle.ac_tree.specs.declared.program.StmtKind.{StmtKind, Row_of-Stmt, end_of-Stmt, more_of-Stmt, Set, Put, If', For', While', Hand, Skip}
use Rattle.ac_tree.specs.Patterns.{Negative, Plus, Minus, Times, OneIndex, TwoIndexes, Negation, Conjunction, Disjunction}
use Rattle.ac_tree.specs.Numbering.{program_nodes}
use Rattle.ac_tree.specs.Preorder.{inside_expr, inside_index, inside_cond, inside_stmt, nodes_of_row, nodes_of_list, nodes_of_items, nodes_of, numbers_from, IsNumbered}
use Rattle.ac_tree.proofs.NodeLaws.{numbered_in_preorder}
use Rattle.ac_run.specs.Declarations.{NameBytes, constant_of}
use Rattle.ac_logic.specs.declared.formula.Term.{Term}
use Rattle.ac_policy.specs.declared.site.Site.{Site}
use Rattle.ac_policy.specs.declared.site.SiteKind.TheVariants as kind
use Rattle.ac_policy.specs.Sites.{site_at, unless_constant, read_sites, expr_sites, index_sites, cond_sites, stmt_sites, block_sites, list_sites, sites_of, AreRising}
use Rattle.ac_policy.specs.Terms.{zero_term, first_index, second_index}
use Rattle.ac_policy.specs.Opened.{hidden, expr_shape, expr_child, cond_shape, cond_child}
use Rattle.ac_policy.proofs.SiteFacts.{in_all}

-- the nodes of the sites stand among these nodes, in their order
abbrev StandAmong : List Site → List NodeId → Type 0
StandAmong [] ns = Unit {0}
StandAmong (s ∷ ss) [] = ⊥
StandAmong (s ∷ ss) (n ∷ ns) = ((s.node ≡ n) × StandAmong ss ns) ⊎ StandAmong (s ∷ ss) ns

behind_one : (ss : List Site) (n : NodeId) (ns : List NodeId) → StandAmong ss ns → StandAmong ss (n ∷ ns)
behind_one [] n ns h = tt
behind_one (s ∷ ss) n ns h = inr h

behind_all : (ss : List Site) (ns ms : List NodeId) → StandAmong ss ms → StandAmong ss (ns ++ ms)
behind_all ss [] ms h = h
behind_all ss (n ∷ ns) ms h = behind_one ss n (ns ++ ms) (behind_all ss ns ms h)

joined : (ss ts : List Site) (ns ms : List NodeId) → StandAmong ss ns → StandAmong ts ms → StandAmong (ss ++ ts) (ns ++ ms)
joined [] ts ns ms h k = behind_all ts ns ms k
joined (s ∷ ss) ts [] ms h k = absurd h
joined (s ∷ ss) ts (n ∷ ns) ms (inl h) k = inl (h.0, joined ss ts ns ms h.1 k)
joined (s ∷ ss) ts (n ∷ ns) ms (inr h) k = inr (joined (s ∷ ss) ts ns ms h k)

module _ (p : Program) where
  read_stands : (n : NodeId) (o : Option ℤ) (x : NameBytes) (i j : Term) → StandAmong (unless_constant o (site_at n kind.Read x i j)) (n ∷ [])
  read_stands n (Some v) x i j = tt
  read_stands n None x i j = inl (refl, tt)

  mutual
    unfolding hidden expr_shape expr_child

    expr_stands : (n : NodeId) (e : ExprKind) → StandAmong (expr_sites p n e) (n ∷ inside_expr e)
    expr_stands n (Num k) = tt
    expr_stands n (Get x) = read_stands n (constant_of p x) x zero_term zero_term
    expr_stands n (Read x at) =
        joined (read_sites p n x (first_index p at) (second_index p at)) (index_sites p at) (n ∷ []) (inside_index at)
        (read_stands n (constant_of p x) x (first_index p at) (second_index p at)) (index_stands at)
    expr_stands n (Negative k a) = behind_one (expr_sites p k.id a) n (k.id ∷ inside_expr a) (expr_stands k.id a)
    expr_stands n (Plus k a m b) =
        behind_one (expr_sites p k.id a ++ expr_sites p m.id b) n ((k.id ∷ inside_expr a) ++ (m.id ∷ inside_expr b))
        (joined (expr_sites p k.id a) (expr_sites p m.id b) (k.id ∷ inside_expr a) (m.id ∷ inside_expr b) (expr_stands k.id a) (expr_stands m.id b))
    expr_stands n (Minus k a m b) =
        behind_one (expr_sites p k.id a ++ expr_sites p m.id b) n ((k.id ∷ inside_expr a) ++ (m.id ∷ inside_expr b))
        (joined (expr_sites p k.id a) (expr_sites p m.id b) (k.id ∷ inside_expr a) (m.id ∷ inside_expr b) (expr_stands k.id a) (expr_stands m.id b))
    expr_stands n (Times k a m b) =
        behind_one (expr_sites p k.id a ++ expr_sites p m.id b) n ((k.id ∷ inside_expr a) ++ (m.id ∷ inside_expr b))
        (joined (expr_sites p k.id a) (expr_sites p m.id b) (k.id ∷ inside_expr a) (m.id ∷ inside_expr b) (expr_stands k.id a) (expr_stands m.id b))

    index_stands : (at : Index) → StandAmong (index_sites p at) (inside_index at)
    index_stands (OneIndex k a) = expr_stands k.id a
    index_stands (TwoIndexes k a m b) =
        joined (expr_sites p k.id a) (expr_sites p m.id b) (k.id ∷ inside_expr a) (m.id ∷ inside_expr b) (expr_stands k.id a) (expr_stands m.id b)

  cond_stands : (c : CondKind) → StandAmong (cond_sites p c) (inside_cond c)
  unfolding hidden cond_shape cond_child
  cond_stands True = tt
  cond_stands False = tt
  cond_stands (Rel op a b) =
      joined (expr_sites p a.node.id a.kind) (expr_sites p b.node.id b.kind) (a.node.id ∷ inside_expr a.kind) (b.node.id ∷ inside_expr b.kind)
      (expr_stands a.node.id a.kind) (expr_stands b.node.id b.kind)
  cond_stands (Negation n c) = behind_one (cond_sites p c) n.id (inside_cond c) (cond_stands c)
  cond_stands (Conjunction n c m d) =
      joined (cond_sites p c) (cond_sites p d) (n.id ∷ inside_cond c) (m.id ∷ inside_cond d)
      (behind_one (cond_sites p c) n.id (inside_cond c) (cond_stands c)) (behind_one (cond_sites p d) m.id (inside_cond d) (cond_stands d))
  cond_stands (Disjunction n c m d) =
      joined (cond_sites p c) (cond_sites p d) (n.id ∷ inside_cond c) (m.id ∷ inside_cond d)
      (behind_one (cond_sites p c) n.id (inside_cond c) (cond_stands c)) (behind_one (cond_sites p d) m.id (inside_cond d) (cond_stands d))

  test_stands : (n : NodeId) (c : CondKind) → StandAmong (cond_sites p c) (n ∷ inside_cond c)
  test_stands n c = behind_one (cond_sites p c) n (inside_cond c) (cond_stands c)

  mutual
    stmt_stands : (n : NodeId) (s : StmtKind) → StandAmong (stmt_sites p n s) (n ∷ inside_stmt s)
    stmt_stands n (Set x e) = inl (refl, expr_stands e.node.id e.kind)
    stmt_stands n (Put x at e) =
        inl (refl, joined (index_sites p at) (expr_sites p e.node.id e.kind) (inside_index at) (e.node.id ∷ inside_expr e.kind) (index_stands at) (expr_stands e.node.id e.kind))
    stmt_stands n (If' c _ xs _ ys) =
        behind_one (cond_sites p c.kind ++ (block_sites p xs ++ block_sites p ys)) n ((c.node.id ∷ inside_cond c.kind) ++ (nodes_of_row xs ++ nodes_of_row ys))
        (joined (cond_sites p c.kind) (block_sites p xs ++ block_sites p ys) (c.node.id ∷ inside_cond c.kind) (nodes_of_row xs ++ nodes_of_row ys)
        (test_stands c.node.id c.kind) (joined (block_sites p xs) (block_sites p ys) (nodes_of_row xs) (nodes_of_row ys) (row_stands xs) (row_stands ys)))
    stmt_stands n (For' x a b _ xs) =
        behind_one (expr_sites p a.node.id a.kind ++ (expr_sites p b.node.id b.kind ++ block_sites p xs)) n
        ((a.node.id ∷ inside_expr a.kind) ++ ((b.node.id ∷ inside_expr b.kind) ++ nodes_of_row xs))
        (joined (expr_sites p a.node.id a.kind) (expr_sites p b.node.id b.kind ++ block_sites p xs) (a.node.id ∷ inside_expr a.kind) ((b.node.id ∷ inside_expr b.kind) ++ nodes_of_row xs)
        (expr_stands a.node.id a.kind)
        (joined (expr_sites p b.node.id b.kind) (block_sites p xs) (b.node.id ∷ inside_expr b.kind) (nodes_of_row xs) (expr_stands b.node.id b.kind) (row_stands xs)))
    stmt_stands n (While' c _ xs) =
        behind_one (cond_sites p c.kind ++ block_sites p xs) n ((c.node.id ∷ inside_cond c.kind) ++ nodes_of_row xs)
        (joined (cond_sites p c.kind) (block_sites p xs) (c.node.id ∷ inside_cond c.kind) (nodes_of_row xs) (test_stands c.node.id c.kind) (row_stands xs))
    stmt_stands n (Hand x role) = inl (refl, tt)
    stmt_stands n Skip = tt

    row_stands : {k : _} (row : Row_of-Stmt k) → StandAmong (block_sites p row) (nodes_of_row row)
    row_stands end_of-Stmt = tt
    row_stands (more_of-Stmt n st rest) = joined (stmt_sites p n.id st) (block_sites p rest) (n.id ∷ inside_stmt st) (nodes_of_row rest) (stmt_stands n.id st) (row_stands rest)

  list_stands : (block : List Stmt) → StandAmong (list_sites p block) (nodes_of_list block)
  list_stands [] = tt
  list_stands (st ∷ rest) =
      joined (stmt_sites p st.node.id st.kind) (list_sites p rest) (st.node.id ∷ inside_stmt st.kind) (nodes_of_list rest) (stmt_stands st.node.id st.kind) (list_stands rest)

  sites_stand : StandAmong (sites_of p) (nodes_of p)
  sites_stand = behind_one (sites_of p) p.node.id (nodes_of_items p.items ++ nodes_of_list p.body) (behind_all (sites_of p) (nodes_of_items p.items) (nodes_of_list p.body) (list_stands p.body))

every : {A : Type 0} (P Q : A → Type 0) → ((x : A) → P x → Q x) → (xs : List A) → AllByRecursion P xs → AllByRecursion Q xs
every P Q f [] h = tt
every P Q f (x ∷ xs) h = (f x h.0, every P Q f xs h.1)

-- Each site has one of the nodes.

abbrev HasNode : List NodeId → Site → Type 0
HasNode ns s = Contains ns s.node

one_more : (n : NodeId) (ns : List NodeId) (s : Site) → HasNode ns s → HasNode (n ∷ ns) s
one_more n ns s (k, lt, e) = (suc k, omega (arith, lt), e)

have_nodes : (ss : List Site) (ns : List NodeId) → StandAmong ss ns → AllByRecursion (HasNode ns) ss
have_nodes [] ns h = tt
have_nodes (s ∷ ss) [] h = absurd h
have_nodes (s ∷ ss) (n ∷ ns) (inl h) = ((0, omega arith, sym h.0), every (HasNode ns) (HasNode (n ∷ ns)) (one_more n ns) ss (have_nodes ss ns h.1))
have_nodes (s ∷ ss) (n ∷ ns) (inr h) = every (HasNode ns) (HasNode (n ∷ ns)) (one_more n ns) (s ∷ ss) (have_nodes (s ∷ ss) ns h)

pub sites_have_nodes : (p : Program) (s : Site) → Contains (sites_of p) s → Contains (nodes_of p) s.node
sites_have_nodes p s h = in_all (HasNode (nodes_of p)) (sites_of p) s (have_nodes (sites_of p) (nodes_of p) (sites_stand p)) h

-- Where the nodes have the numbers 0, 1, 2 and so on, those of the sites rise.

abbrev IsFrom : ℕ → Site → Type 0
IsFrom i s = i ≤ s.node.0

later : (i : ℕ) (s : Site) → IsFrom (i + 1) s → IsFrom i s
later i s h = omega (arith, h)

above : (i : ℕ) (s t : Site) → s.node.0 ≡ i → IsFrom (i + 1) t → s.node.0 < t.node.0
above i s t e h = omega (arith, e, h)

rise : (count i : ℕ) (ss : List Site) → StandAmong ss (numbers_from i count) → AllByRecursion (IsFrom i) ss × AreRising ss
rise count i [] h = (tt, tt)
rise zero i (s ∷ ss) h = absurd h
rise (suc count) i (s ∷ ss) (inl h) =
    let r = rise count (i + 1) ss h.1 in
    let at : s.node.0 ≡ i = ap (λ (n : NodeId). n.0) h.0 in
    ((omega (arith, at), every (IsFrom (i + 1)) (IsFrom i) (later i) ss r.0), (every (IsFrom (i + 1)) (λ t. s.node.0 < t.node.0) (λ t. above i s t at) ss r.0, r.1))
rise (suc count) i (s ∷ ss) (inr h) = let r = rise count (i + 1) (s ∷ ss) h in (every (IsFrom (i + 1)) (IsFrom i) (later i) (s ∷ ss) r.0, r.1)

pub sites_rise : (p : Program) → IsNumbered p → AreRising (sites_of p)
sites_rise p numbered = (rise (program_nodes p) 0 (sites_of p) (subst (λ (ns : List NodeId). StandAmong (sites_of p) ns) (numbered_in_preorder p numbered) (sites_stand p))).1
