-- What control enters on a path from a point on to the target is named by the recursion, where nodes have numbers of their own.
use Rattle.std.proofs.Common.{◌≡◌, ℕ, nat_eq, Bool, true, false, ◌&&◌, ◌||◌, not, if◌then◌else◌, List, [], ◌∷◌, ◌++◌, map, Option, Some, None, refl, sym, ◌∙◌, ap, subst, arith, ◌+◌, ◌<◌, eqb-true}
use mathlib.Core.Logic.{◌⊎◌, inl, inr}
use Rattle.ac_tree.specs.declared.node.Node.{Node}
use Rattle.ac_tree.specs.declared.node.NodeId.{NodeId}
use Rattle.ac_tree.specs.declared.path.Cut.TheVariants as cut
use Rattle.ac_tree.specs.declared.path.Target.{Target}
use Rattle.ac_tree.specs.declared.path.Target.TheVariants.{Entry, Keep, Barrier, Site}
use Rattle.ac_tree.specs.declared.program.Cond.{Cond}
use Rattle.ac_tree.specs.declared.program.CondKind.{CondKind}
use Rattle.ac_tree.specs.declared.program.CondKind.TheVariants.{True, False, Rel}
use Rattle.ac_tree.specs.declared.program.ExprKind.{ExprKind}
use Rattle.ac_tree.specs.declared.program.ExprKind.TheVariants.{Num, Get, Read}
use Rattle.ac_tree.specs.declared.program.Index.{Index}
use Rattle.ac_tree.specs.declared.program.Stmt.{Stmt}
use Rattle.ac_tree.specs.declared.program.StmtKind.{StmtKind, Row_of-Stmt, end_of-Stmt, more_of-Stmt, Set, Put, If', For', While', Hand, Skip}
use Rattle.ac_tree.specs.Patterns.{Negative, Plus, Minus, Times, OneIndex, TwoIndexes, Negation, Conjunction, Disjunction}
use Rattle.ac_tree.specs.Preorder.{inside_expr, inside_index, inside_cond, inside_stmt, nodes_of_row, nodes_of_list}
use Rattle.ac_flow.specs.Leads.{is_site, is_entry, is_keep, is_barrier, cond_reads, is_among, past, point_leads, leads_on}
use Rattle.ac_flow.specs.Listed.{IsListed}
use Rattle.ac_flow.specs.Paths.{LeadsTo, step, steps}
use Rattle.ac_flow.specs.Points.{Do, Behind, Enter, Test, Turn, Exit, Judge, Decide, See, Begin, Point, Next, reads_of, index_reads, block, cut_at}
use Rattle.ac_flow.specs.Through.{passes, block_passes, list_passes}
use Rattle.ac_flow.proofs.LeadsHold.{path_leads, leads_path}
use Rattle.ac_flow.proofs.Within.{some-none, false-true}
use Rattle.ac_visits.specs.Opened.{hidden, expr_shape, expr_child, cond_shape, cond_child}
use Rattle.ac_visits.specs.Visits.{EntersAt}
use Rattle.ac_walk.specs.Walks.{target_node, is_in_expr, is_in_index, is_in_cond, lefts, parts, met_by, past_by, meets, block_meets, entered, block_entered, list_meets, list_entered}
use Rattle.ac_visits.proofs.OnPaths.{in_either, either_passes, cond_site, leads_as, block_leads_as, done}
use Rattle.ac_visits.proofs.FromCut.{both_true}
use Rattle.ac_visits.proofs.Order.{Rises, listed_left, listed_right, above, rises_left, rises_right, apart}

abbrev pub Disjoint : List NodeId → List NodeId → Type 0
Disjoint xs ys = (n : NodeId) → IsListed xs n → IsListed ys n → ⊥

-- the nodes that are left at a point, up to the next loop
abbrev pub point_nodes : Point → List NodeId
point_nodes [] = []
point_nodes (Begin ∷ rest) = []
point_nodes (Do st ∷ rest) = (st.node.id ∷ inside_stmt st.kind) ++ point_nodes rest
point_nodes (Behind n ∷ rest) = n ∷ point_nodes rest
point_nodes (Enter n test body ∷ rest) = n ∷ []
point_nodes (Test n test body ∷ rest) = []
point_nodes (Turn n test body ∷ rest) = n ∷ []
point_nodes (Exit n ∷ rest) = []
point_nodes (Judge c ∷ rest) = inside_cond c.kind ++ point_nodes rest
point_nodes (Decide c ∷ rest) = inside_cond c ++ point_nodes rest
point_nodes (See n ∷ rest) = n ∷ point_nodes rest

pub block_nodes : {k : _} (row : Row_of-Stmt k) (after rest : Point) (x : NodeId) → IsListed (point_nodes ((map Do (block row) ++ after) ++ rest)) x → IsListed (nodes_of_row row) x ⊎ IsListed (point_nodes (after ++ rest)) x
block_nodes end_of-Stmt after rest x h = inr h
block_nodes (more_of-Stmt n st more) after rest x h =
    elim (in_either (n.id ∷ inside_stmt st) (point_nodes ((map Do (block more) ++ after) ++ rest)) x h) [
      | inl i ↦ inl (listed_left (n.id ∷ inside_stmt st) (nodes_of_row more) x i)
      | inr i ↦ elim (block_nodes more after rest x i) [ inl j ↦ inl (listed_right (n.id ∷ inside_stmt st) (nodes_of_row more) x j) | inr j ↦ inr j ]
    ]

pub list_nodes : (sts : List Stmt) (after : Point) (x : NodeId) → IsListed (point_nodes (map Do sts ++ after)) x → IsListed (nodes_of_list sts) x ⊎ IsListed (point_nodes after) x
list_nodes [] after x h = inr h
list_nodes (st ∷ rest) after x h =
    elim (in_either (st.node.id ∷ inside_stmt st.kind) (point_nodes (map Do rest ++ after)) x h) [
      | inl i ↦ inl (listed_left (st.node.id ∷ inside_stmt st.kind) (nodes_of_list rest) x i)
      | inr i ↦ elim (list_nodes rest after x i) [ inl j ↦ inl (listed_right (st.node.id ∷ inside_stmt st.kind) (nodes_of_list rest) x j) | inr j ↦ inr j ]
    ]

-- numbers

not_below : (x : NodeId) → x.0 < x.0 → ⊥
not_below x h = omega arith

pub not_own : (n x : NodeId) (xs : List NodeId) → Rises (n.0 + 1) xs → IsListed xs x → x ≡ n → ⊥
not_own n x xs r h e =
    let k = above (n.0 + 1) xs x r h in
    not_below n (subst (λ (y : NodeId). n.0 < y.0) e (omega arith))

pub never_both : (xs ys : List NodeId) (x : NodeId) → Rises 0 (xs ++ ys) → IsListed xs x → IsListed ys x → ⊥
never_both xs ys x r h k = not_below x (apart 0 xs ys x x r h k)

same_number : (m n : NodeId) → nat_eq m.0 n.0 ≡ true → m ≡ n
same_number m n h = ap (λ (k : ℕ). let x : NodeId = record { 0 = k } in x) (eqb-true m.0 n.0 h)

-- truth values

false_by : (b : Bool) → (b ≡ true → ⊥) → b ≡ false
false_by true f = absurd (f refl)
false_by false f = refl

past_true : (m b p : Bool) → m ≡ false → b ≡ false → p ≡ true → (not m && (not b && p)) ≡ true
past_true true b p h e k = cc
past_true false true p h e k = cc
past_true false false p h e k = k

pass_true : (b p s : Bool) → b ≡ false → p ≡ true → s ≡ true → ((not b && p) && s) ≡ true
pass_true true p s h e k = cc
pass_true false true s h e k = k
pass_true false false s h e k = cc

clear_true : (m p b k r s : Bool) → m ≡ false → b ≡ false → p ≡ true → (not r && s) ≡ true → (not ((m || (p && (b && k))) || ((not m && (not b && p)) && r)) && ((not b && p) && s)) ≡ true
clear_true true p b k r s h e g i = cc
clear_true false true true k r s h e g i = cc
clear_true false true false k r s h e g i = i
clear_true false false b k r s h e g i = cc

pub unless_in : (b : Bool) (xs : List NodeId) (x : NodeId) → (b ≡ true → ⊥) → IsListed xs x → IsListed (if b then [] else xs) x
unless_in true xs x f h = absurd (f refl)
unless_in false xs x f h = h

pub where_in : (b : Bool) (xs : List NodeId) (x : NodeId) → b ≡ true → IsListed xs x → IsListed (if b then xs else []) x
where_in true xs x e h = h
where_in false xs x e h = cc

in_yes_part : (my mn py pn : Bool) (ys ns : List NodeId) (x : NodeId) → (my ≡ true) ⊎ ((py ≡ true) × (mn ≡ false)) → IsListed ys x → IsListed (parts my mn py pn ys ns) x
in_yes_part true mn py pn ys ns x h k = k
in_yes_part false mn py pn ys ns x (inl h) k = cc
in_yes_part false true py pn ys ns x (inr h) k = absurd (false-true (sym h.1))
in_yes_part false false true pn ys ns x (inr h) k = listed_left ys (if pn then ns else []) x k
in_yes_part false false false pn ys ns x (inr h) k = absurd (false-true h.0)

in_no_part : (my mn py pn : Bool) (ys ns : List NodeId) (x : NodeId) → my ≡ false → (mn ≡ true) ⊎ (pn ≡ true) → IsListed ns x → IsListed (parts my mn py pn ys ns) x
in_no_part true mn py pn ys ns x e h k = cc
in_no_part false true py pn ys ns x e h k = k
in_no_part false false py pn ys ns x e (inl h) k = cc
in_no_part false false py true ys ns x e (inr h) k = listed_right (if py then ys else []) ns x k
in_no_part false false py false ys ns x e (inr h) k = cc

module _ (barrier : ℕ → Bool) (t : Target) where
  -- the target's node is among those of the part where it is met

  site_node : (u : Target) (n : NodeId) → is_site u n ≡ true → target_node u ≡ n
  site_node (Site m) n h = same_number m n h
  site_node (Entry m) n h = cc
  site_node (Keep m) n h = cc
  site_node (Barrier m) n h = cc

  entry_node : (u : Target) (n : NodeId) → is_entry u n ≡ true → target_node u ≡ n
  entry_node (Entry m) n h = same_number m n h
  entry_node (Site m) n h = cc
  entry_node (Keep m) n h = cc
  entry_node (Barrier m) n h = cc

  keep_node : (u : Target) (n : NodeId) → is_keep u n ≡ true → target_node u ≡ n
  keep_node (Keep m) n h = same_number m n h
  keep_node (Site m) n h = cc
  keep_node (Entry m) n h = cc
  keep_node (Barrier m) n h = cc

  barrier_node : (u : Target) (n : NodeId) → is_barrier u n ≡ true → target_node u ≡ n
  barrier_node (Barrier m) n h = same_number m n h
  barrier_node (Site m) n h = cc
  barrier_node (Keep m) n h = cc
  barrier_node (Entry m) n h = cc

  abbrev In : List NodeId → Type 0
  In ns = IsListed ns (target_node t)

  two_in : (xs ys : List NodeId) (a b : Bool) → (a ≡ true → In xs) → (b ≡ true → In ys) → (a || b) ≡ true → In (xs ++ ys)
  two_in xs ys a b f g h = elim (either_passes a b h) [ inl e ↦ listed_left xs ys (target_node t) (f e) | inr e ↦ listed_right xs ys (target_node t) (g e) ]

  mutual
    unfolding hidden expr_shape expr_child

    expr_node : (n : Node) (e : ExprKind) → is_in_expr t n e ≡ true → In (n.id ∷ inside_expr e)
    expr_node n (Num k) h = cc
    expr_node n (Get x) h = inl (site_node t n.id h)
    expr_node n (Read x i) h = elim (either_passes (is_in_index t i) (is_site t n.id) h) [ inl e ↦ inr (index_node i e) | inr e ↦ inl (site_node t n.id e) ]
    expr_node n (Negative m a) h = inr (expr_node m a h)
    expr_node n (Plus k a m b) h = inr (two_in (k.id ∷ inside_expr a) (m.id ∷ inside_expr b) (is_in_expr t k a) (is_in_expr t m b) (expr_node k a) (expr_node m b) h)
    expr_node n (Minus k a m b) h = inr (two_in (k.id ∷ inside_expr a) (m.id ∷ inside_expr b) (is_in_expr t k a) (is_in_expr t m b) (expr_node k a) (expr_node m b) h)
    expr_node n (Times k a m b) h = inr (two_in (k.id ∷ inside_expr a) (m.id ∷ inside_expr b) (is_in_expr t k a) (is_in_expr t m b) (expr_node k a) (expr_node m b) h)

    index_node : (i : Index) → is_in_index t i ≡ true → In (inside_index i)
    index_node (OneIndex n a) h = expr_node n a h
    index_node (TwoIndexes k a m b) h = two_in (k.id ∷ inside_expr a) (m.id ∷ inside_expr b) (is_in_expr t k a) (is_in_expr t m b) (expr_node k a) (expr_node m b) h

  pub cond_node : (c : CondKind) → is_in_cond t c ≡ true → In (inside_cond c)
  unfolding hidden cond_shape cond_child
  cond_node True h = cc
  cond_node False h = cc
  cond_node (Rel op a b) h = two_in (a.node.id ∷ inside_expr a.kind) (b.node.id ∷ inside_expr b.kind) (is_in_expr t a.node a.kind) (is_in_expr t b.node b.kind) (expr_node a.node a.kind) (expr_node b.node b.kind) h
  cond_node (Negation n c) h = inr (cond_node c h)
  cond_node (Conjunction n c m d) h = two_in (n.id ∷ inside_cond c) (m.id ∷ inside_cond d) (is_in_cond t c) (is_in_cond t d) (λ e. inr (cond_node c e)) (λ e. inr (cond_node d e)) h
  cond_node (Disjunction n c m d) h = two_in (n.id ∷ inside_cond c) (m.id ∷ inside_cond d) (is_in_cond t c) (is_in_cond t d) (λ e. inr (cond_node c e)) (λ e. inr (cond_node d e)) h

  mutual
    meets_node : (n : NodeId) (st : StmtKind) → meets barrier t n st ≡ true → In (n ∷ inside_stmt st)
    meets_node n (Set x e) h = elim (either_passes (is_in_expr t e.node e.kind) (is_site t n) h) [ inl k ↦ inr (expr_node e.node e.kind k) | inr k ↦ inl (site_node t n k) ]
    meets_node n (Put x i e) h = elim (either_passes (is_in_index t i || is_in_expr t e.node e.kind) (is_site t n) h) [
      | inl k ↦ inr (two_in (inside_index i) (e.node.id ∷ inside_expr e.kind) (is_in_index t i) (is_in_expr t e.node e.kind) (index_node i) (expr_node e.node e.kind) k)
      | inr k ↦ inl (site_node t n k)
    ]
    meets_node n (If' test _ yes_ _ no_) h =
        inr (two_in (test.node.id ∷ inside_cond test.kind) (nodes_of_row yes_ ++ nodes_of_row no_) (is_in_cond t test.kind) (block_meets barrier t yes_ || block_meets barrier t no_) (λ k. inr (cond_node test.kind k))
        (λ k. two_in (nodes_of_row yes_) (nodes_of_row no_) (block_meets barrier t yes_) (block_meets barrier t no_) (block_meets_node yes_) (block_meets_node no_) k) h)
    meets_node n (For' x lo hi _ body) h = elim (either_passes (is_in_expr t lo.node lo.kind || is_in_expr t hi.node hi.kind) (is_entry t n) h) [
      | inl k ↦ inr (elim (either_passes (is_in_expr t lo.node lo.kind) (is_in_expr t hi.node hi.kind) k) [
        | inl g ↦ listed_left (lo.node.id ∷ inside_expr lo.kind) _ (target_node t) (expr_node lo.node lo.kind g)
        | inr g ↦ listed_right (lo.node.id ∷ inside_expr lo.kind) _ (target_node t) (listed_left (hi.node.id ∷ inside_expr hi.kind) (nodes_of_row body) (target_node t) (expr_node hi.node hi.kind g))
      ])
      | inr k ↦ inl (entry_node t n k)
    ]
    meets_node n (While' test _ body) h = inl (entry_node t n h)
    meets_node n (Hand x role) h = inl (site_node t n h)
    meets_node n Skip h = cc

    pub block_meets_node : {k : _} (row : Row_of-Stmt k) → block_meets barrier t row ≡ true → In (nodes_of_row row)
    block_meets_node end_of-Stmt h = cc
    block_meets_node (more_of-Stmt n st rest) h =
        elim (either_passes (met_by barrier t n.id st (meets barrier t n.id st)) (past_by barrier t n.id st (meets barrier t n.id st) && block_meets barrier t rest) h) [
          | inl k ↦ listed_left (n.id ∷ inside_stmt st) (nodes_of_row rest) (target_node t) (elim (either_passes (meets barrier t n.id st) (passes barrier st && (barrier n.id.0 && is_barrier t n.id)) k) [
            | inl g ↦ meets_node n.id st g
            | inr g ↦ inl (barrier_node t n.id (both_true (barrier n.id.0) (is_barrier t n.id) (both_true (passes barrier st) (barrier n.id.0 && is_barrier t n.id) g).1).1)
          ])
          | inr k ↦ listed_right (n.id ∷ inside_stmt st) (nodes_of_row rest) (target_node t) (block_meets_node rest (both_true (past_by barrier t n.id st (meets barrier t n.id st)) (block_meets barrier t rest) k).1)
        ]

  past_node : (n : NodeId) (b more : Bool) (ns : List NodeId) → ((b && is_barrier t n) || (not b && more)) ≡ true → (more ≡ true → In ns) → In (n ∷ ns)
  past_node n true more ns h f = elim (either_passes (is_barrier t n) false h) [ inl e ↦ inl (barrier_node t n e) | inr e ↦ absurd (false-true e) ]
  past_node n false more ns h f = inr (f h)

  leads_node : (q : Point) → point_leads barrier t q ≡ true → In (point_nodes q)
  leads_node [] h = cc
  leads_node (Begin ∷ rest) h = cc
  leads_node (Do st ∷ rest) h =
      elim (either_passes (meets barrier t st.node.id st.kind) (passes barrier st.kind && past barrier t st.node.id (point_leads barrier t rest)) (sym (leads_as barrier t st.node.id st.kind (past barrier t st.node.id (point_leads barrier t rest))) ∙ h)) [
        | inl k ↦ listed_left (st.node.id ∷ inside_stmt st.kind) (point_nodes rest) (target_node t) (meets_node st.node.id st.kind k)
        | inr k ↦ elim (past_node st.node.id (barrier st.node.id.0) (point_leads barrier t rest) (point_nodes rest) (both_true (passes barrier st.kind) (past barrier t st.node.id (point_leads barrier t rest)) k).1 (leads_node rest)) [
          | inl e ↦ inl e
          | inr i ↦ listed_right (st.node.id ∷ inside_stmt st.kind) (point_nodes rest) (target_node t) i
        ]
      ]
  leads_node (Behind n ∷ rest) h = past_node n (barrier n.0) (point_leads barrier t rest) (point_nodes rest) h (leads_node rest)
  leads_node (Enter n test body ∷ rest) h = inl (entry_node t n h)
  leads_node (Test n test body ∷ rest) h = cc
  leads_node (Turn n test body ∷ rest) h = inl (keep_node t n h)
  leads_node (Exit n ∷ rest) h = cc
  leads_node (Judge c ∷ rest) h = two_in (inside_cond c.kind) (point_nodes rest) (is_among barrier t (cond_reads c.kind)) (point_leads barrier t rest) (λ e. cond_node c.kind (sym (cond_site barrier t c.kind) ∙ e)) (leads_node rest) h
  leads_node (Decide c ∷ rest) h = two_in (inside_cond c) (point_nodes rest) (is_among barrier t (cond_reads c)) (point_leads barrier t rest) (λ e. cond_node c (sym (cond_site barrier t c) ∙ e)) (leads_node rest) h
  leads_node (See n ∷ rest) h = elim (either_passes (is_site t n) (point_leads barrier t rest) h) [ inl e ↦ inl (site_node t n e) | inr e ↦ inr (leads_node rest e) ]

  -- paths

  enters_leads : (q : Point) (m : NodeId) → EntersAt q m → leads_on barrier t q ≡ true → point_leads barrier t q ≡ true
  enters_leads [] m e h = absurd e
  enters_leads (Do st ∷ rest) m e h = h
  enters_leads (Judge c ∷ rest) m e h = h
  enters_leads (Begin ∷ rest) m e h = absurd e
  enters_leads (Behind n ∷ rest) m e h = absurd e
  enters_leads (Enter n test body ∷ rest) m e h = absurd e
  enters_leads (Test n test body ∷ rest) m e h = absurd e
  enters_leads (Turn n test body ∷ rest) m e h = absurd e
  enters_leads (Exit n ∷ rest) m e h = absurd e
  enters_leads (Decide c ∷ rest) m e h = absurd e
  enters_leads (See n ∷ rest) m e h = absurd e

  enters_free : (q : Point) (m : NodeId) → EntersAt q m → cut_at barrier q ≡ None
  enters_free [] m e = absurd e
  enters_free (Do st ∷ rest) m e = refl
  enters_free (Judge c ∷ rest) m e = refl
  enters_free (Begin ∷ rest) m e = absurd e
  enters_free (Behind n ∷ rest) m e = absurd e
  enters_free (Enter n test body ∷ rest) m e = absurd e
  enters_free (Test n test body ∷ rest) m e = absurd e
  enters_free (Turn n test body ∷ rest) m e = absurd e
  enters_free (Exit n ∷ rest) m e = absurd e
  enters_free (Decide c ∷ rest) m e = absurd e
  enters_free (See n ∷ rest) m e = absurd e

  free_behind : (n : NodeId) (b : Bool) → (if b then Some (cut.After n) else None) ≡ None → b ≡ false
  free_behind n true h = absurd (some-none h)
  free_behind n false h = refl

  leads_behind : (b k more : Bool) → b ≡ false → more ≡ true → ((b && k) || (not b && more)) ≡ true
  leads_behind true k more h e = cc
  leads_behind false k more h e = e

  or_later : (a b : Bool) → b ≡ true → (a || b) ≡ true
  or_later true b h = refl
  or_later false b h = h

  goes_past : (q : Point) → cut_at barrier q ≡ None → leads_on barrier t q ≡ true → point_leads barrier t q ≡ true
  goes_past [] h k = k
  goes_past (Begin ∷ rest) h k = cc
  goes_past (Do st ∷ rest) h k = k
  goes_past (Behind n ∷ rest) h k = leads_behind (barrier n.0) (is_barrier t n) (point_leads barrier t rest) (free_behind n (barrier n.0) h) k
  goes_past (Enter n test body ∷ rest) h k = cc
  goes_past (Test n test body ∷ rest) h k = cc
  goes_past (Turn n test body ∷ rest) h k = cc
  goes_past (Exit n ∷ rest) h k = cc
  goes_past (Judge c ∷ rest) h k = k
  goes_past (Decide c ∷ rest) h k = k
  goes_past (See n ∷ rest) h k = or_later (is_site t n) (point_leads barrier t rest) k

  joined : {q v w : Point} → LeadsTo barrier q v → cut_at barrier v ≡ None → LeadsTo barrier v w → LeadsTo barrier q w
  joined (step h) n k = steps h n k
  joined (steps h c path) n k = steps h c (joined path n k)

  -- a point where control enters a node and from which it leads to the target
  module _ (via : Point) (m : NodeId) (enters : EntersAt via m) (leading : leads_on barrier t via ≡ true) where
    -- control comes to it from another
    abbrev pub Comes : Point → Type 0
    Comes q = (via ≡ q) ⊎ ((cut_at barrier q ≡ None) × LeadsTo barrier q via)

    pub after_step : {q v : Point} → LeadsTo barrier q v → (r : Point) × Next q r × ((v ≡ r) ⊎ ((cut_at barrier r ≡ None) × LeadsTo barrier r v))
    after_step (step {from = q} {to = v} h) = (v, h, inl refl)
    after_step (steps {from = q} {via = r} {to = v} h c path) = (r, h, inr (c, path))

    only : {r q : Point} → (r ≡ q) ⊎ ⊥ → r ≡ q
    only (inl e) = e
    only (inr e) = absurd e

    pub beyond : (q r : Point) → LeadsTo barrier q via → ((u : Point) → Next q u → u ≡ r) → Comes r
    beyond q r path f = let s = after_step path in subst (λ (u : Point). (via ≡ u) ⊎ ((cut_at barrier u ≡ None) × LeadsTo barrier u via)) (f s.0 s.1) s.2

    pub nowhere : (q : Point) → (EntersAt q m → ⊥) → via ≡ q → ⊥
    nowhere q never e = never (subst (λ (u : Point). EntersAt u m) e enters)

    skip : (q r : Point) → (EntersAt q m → ⊥) → ((u : Point) → Next q u → u ≡ r) → Comes q → Comes r
    skip q r never f (inl e) = absurd (nowhere q never e)
    skip q r never f (inr k) = beyond q r k.1 f

    seen_skip : (ns : List NodeId) (after rest : Point) → Comes ((map See ns ++ after) ++ rest) → Comes (after ++ rest)
    seen_skip [] after rest k = k
    seen_skip (n ∷ ns) after rest k = seen_skip ns after rest (skip (See n ∷ ((map See ns ++ after) ++ rest)) ((map See ns ++ after) ++ rest) (λ x. x) (λ u h. only h) k)

    all_seen_skip : (ns : List NodeId) (rest : Point) → Comes (map See ns ++ rest) → Comes rest
    all_seen_skip [] rest k = k
    all_seen_skip (n ∷ ns) rest k = all_seen_skip ns rest (skip (See n ∷ (map See ns ++ rest)) (map See ns ++ rest) (λ x. x) (λ u h. only h) k)

    pub comes_leads : (q : Point) → Comes q → point_leads barrier t q ≡ true
    comes_leads q (inl e) = sym (ap (point_leads barrier t) e) ∙ enters_leads via m enters leading
    comes_leads q (inr k) =
        let f = leads_path barrier t via leading in
        goes_past q k.0 (path_leads barrier t (joined k.1 (enters_free via m enters) f.1) f.2)

    -- the target isn't met before a point from which control leads to it
    pub met_before : (xs : List NodeId) (q : Point) → Disjoint xs (point_nodes q) → In xs → Comes q → ⊥
    met_before xs q d i k = d (target_node t) i (leads_node q (comes_leads q k))

    judged_in : (c : Cond) (rest : Point) → Comes (Judge c ∷ rest) → (m ≡ c.node.id) ⊎ Comes (Decide c.kind ∷ rest)
    judged_in c rest (inl e) = inl (subst (λ (u : Point). EntersAt u m) e enters)
    judged_in c rest (inr k) = inr (beyond (Judge c ∷ rest) (Decide c.kind ∷ rest) k.1 (λ u h. only h))

    -- one of two ways
    two_ways : (q r s : Point) → (EntersAt q m → ⊥) → ((u : Point) → Next q u → (u ≡ r) ⊎ ((u ≡ s) ⊎ ⊥)) → Comes q → Comes r ⊎ Comes s
    two_ways q r s never f (inl e) = absurd (nowhere q never e)
    two_ways q r s never f (inr k) = let l = after_step k.1 in elim (f l.0 l.1) [
      | inl e ↦ inl (subst (λ (u : Point). (via ≡ u) ⊎ ((cut_at barrier u ≡ None) × LeadsTo barrier u via)) e l.2)
      | inr (inl e) ↦ inr (subst (λ (u : Point). (via ≡ u) ⊎ ((cut_at barrier u ≡ None) × LeadsTo barrier u via)) e l.2)
      | inr (inr e) ↦ absurd e
    ]

    cond_in : (c : CondKind) (rest : Point) → Rises 0 (inside_cond c) → Disjoint (inside_cond c) (point_nodes rest) → Comes (Decide c ∷ rest) → IsListed (lefts t c) m ⊎ Comes rest
    unfolding hidden cond_shape cond_child expr_shape expr_child
    cond_in True rest r d k = inr (skip (Decide True ∷ rest) rest (λ x. x) (λ u h. only h) k)
    cond_in False rest r d k = inr (skip (Decide False ∷ rest) rest (λ x. x) (λ u h. only h) k)
    cond_in (Rel op a b) rest r d k =
        inr (all_seen_skip (reads_of a.node a.kind ++ reads_of b.node b.kind) rest (skip (Decide (Rel op a b) ∷ rest) (map See (reads_of a.node a.kind ++ reads_of b.node b.kind) ++ rest) (λ x. x) (λ u h. only h) k))
    cond_in (Negation n c) rest r d k = cond_in c rest (rises_right 0 (n.id ∷ []) (inside_cond c) r) (λ x i j. d x (inr i) j) (skip (Decide (Negation n c) ∷ rest) (Decide c ∷ rest) (λ x. x) (λ u h. only h) k)
    cond_in (Conjunction n c l e) rest r d k =
        let rc : Rises 0 (inside_cond c) = rises_right 0 (n.id ∷ []) (inside_cond c) (rises_left 0 (n.id ∷ inside_cond c) (l.id ∷ inside_cond e) r) in
        let re : Rises 0 (inside_cond e) = rises_right 0 (l.id ∷ []) (inside_cond e) (rises_right 0 (n.id ∷ inside_cond c) (l.id ∷ inside_cond e) r) in
        let dc : Disjoint (inside_cond c) (point_nodes rest) = λ x i j. d x (listed_left (n.id ∷ inside_cond c) (l.id ∷ inside_cond e) x (inr i)) j in
        let de : Disjoint (inside_cond e) (point_nodes rest) = λ x i j. d x (listed_right (n.id ∷ inside_cond c) (l.id ∷ inside_cond e) x (inr i)) j in
        let ds : Disjoint (inside_cond c) (inside_cond e ++ point_nodes rest) = λ x i j. elim (in_either (inside_cond e) (point_nodes rest) x j) [
          | inl g ↦ never_both (n.id ∷ inside_cond c) (l.id ∷ inside_cond e) x r (inr i) (inr g)
          | inr g ↦ dc x i g
        ] in
        let more : List NodeId = if is_in_cond t c then [] else lefts t e in
        elim (two_ways (Decide (Conjunction n c l e) ∷ rest) (Judge (record { node = n; kind = c }) ∷ rest) (Judge (record { node = n; kind = c }) ∷ Decide e ∷ rest) (λ x. x) (λ u h. h) k) [
          | inl w ↦ elim (judged_in (record { node = n; kind = c }) rest w) [
            | inl g ↦ inl (inl g)
            | inr g ↦ elim (cond_in c rest rc dc g) [ inl i ↦ inl (inr (listed_left (lefts t c) more m i)) | inr i ↦ inr i ]
          ]
          | inr w ↦ elim (judged_in (record { node = n; kind = c }) (Decide e ∷ rest) w) [
            | inl g ↦ inl (inl g)
            | inr g ↦ elim (cond_in c (Decide e ∷ rest) rc ds g) [
              | inl i ↦ inl (inr (listed_left (lefts t c) more m i))
              | inr i ↦ elim (cond_in e rest re de i) [
                | inl j ↦ inl (inr (listed_right (lefts t c) more m (unless_in (is_in_cond t c) (lefts t e) m (λ f. met_before (inside_cond c) (Decide e ∷ rest) ds (cond_node c f) i) j)))
                | inr j ↦ inr j
              ]
            ]
          ]
        ]
    cond_in (Disjunction n c l e) rest r d k =
        let rc : Rises 0 (inside_cond c) = rises_right 0 (n.id ∷ []) (inside_cond c) (rises_left 0 (n.id ∷ inside_cond c) (l.id ∷ inside_cond e) r) in
        let re : Rises 0 (inside_cond e) = rises_right 0 (l.id ∷ []) (inside_cond e) (rises_right 0 (n.id ∷ inside_cond c) (l.id ∷ inside_cond e) r) in
        let dc : Disjoint (inside_cond c) (point_nodes rest) = λ x i j. d x (listed_left (n.id ∷ inside_cond c) (l.id ∷ inside_cond e) x (inr i)) j in
        let de : Disjoint (inside_cond e) (point_nodes rest) = λ x i j. d x (listed_right (n.id ∷ inside_cond c) (l.id ∷ inside_cond e) x (inr i)) j in
        let ds : Disjoint (inside_cond c) (inside_cond e ++ point_nodes rest) = λ x i j. elim (in_either (inside_cond e) (point_nodes rest) x j) [
          | inl g ↦ never_both (n.id ∷ inside_cond c) (l.id ∷ inside_cond e) x r (inr i) (inr g)
          | inr g ↦ dc x i g
        ] in
        let more : List NodeId = if is_in_cond t c then [] else lefts t e in
        elim (two_ways (Decide (Disjunction n c l e) ∷ rest) (Judge (record { node = n; kind = c }) ∷ rest) (Judge (record { node = n; kind = c }) ∷ Decide e ∷ rest) (λ x. x) (λ u h. h) k) [
          | inl w ↦ elim (judged_in (record { node = n; kind = c }) rest w) [
            | inl g ↦ inl (inl g)
            | inr g ↦ elim (cond_in c rest rc dc g) [ inl i ↦ inl (inr (listed_left (lefts t c) more m i)) | inr i ↦ inr i ]
          ]
          | inr w ↦ elim (judged_in (record { node = n; kind = c }) (Decide e ∷ rest) w) [
            | inl g ↦ inl (inl g)
            | inr g ↦ elim (cond_in c (Decide e ∷ rest) rc ds g) [
              | inl i ↦ inl (inr (listed_left (lefts t c) more m i))
              | inr i ↦ elim (cond_in e rest re de i) [
                | inl j ↦ inl (inr (listed_right (lefts t c) more m (unless_in (is_in_cond t c) (lefts t e) m (λ f. met_before (inside_cond c) (Decide e ∷ rest) ds (cond_node c f) i) j)))
                | inr j ↦ inr j
              ]
            ]
          ]
        ]

    -- a test: control enters it, a left operand of it, or comes behind it without having met the target
    pub test_in : (c : Cond) (rest : Point) → Rises 0 (inside_cond c.kind) → Disjoint (inside_cond c.kind) (point_nodes rest) → Comes (Judge c ∷ rest) →
        IsListed (c.node.id ∷ lefts t c.kind) m ⊎ ((is_in_cond t c.kind ≡ true → ⊥) × Comes rest)
    test_in c rest r d k = elim (judged_in c rest k) [
      | inl e ↦ inl (inl e)
      | inr g ↦ elim (cond_in c.kind rest r d g) [ inl i ↦ inl (inr i) | inr i ↦ inr (λ f. met_before (inside_cond c.kind) rest d (cond_node c.kind f) i, i) ]
    ]

    pub behind_in : (n : NodeId) (rest : Point) → Comes (Behind n ∷ rest) → (barrier n.0 ≡ false) × Comes rest
    behind_in n rest (inl e) = absurd (nowhere (Behind n ∷ rest) (λ x. x) e)
    behind_in n rest (inr k) = (free_behind n (barrier n.0) k.0, beyond (Behind n ∷ rest) rest k.1 (λ u h. only h))

    enter_in : (n : NodeId) (test : Option Cond) (body : List Stmt) (rest : Point) → Comes (Enter n test body ∷ rest) → ⊥
    enter_in n test body rest k = elim (skip (Enter n test body ∷ rest) (Test n test body ∷ rest) (λ x. x) (λ u h. only h) k) [
      | inl e ↦ nowhere (Test n test body ∷ rest) (λ x. x) e
      | inr g ↦ some-none g.0
    ]

    pub turn_in : (n : NodeId) (test : Option Cond) (body : List Stmt) (rest : Point) → Comes (Turn n test body ∷ rest) → ⊥
    turn_in n test body rest k = elim (skip (Turn n test body ∷ rest) (Test n test body ∷ rest) (λ x. x) (λ u h. only h) k) [
      | inl e ↦ nowhere (Test n test body ∷ rest) (λ x. x) e
      | inr g ↦ some-none g.0
    ]

    -- before a statement: there, or along one of its ways
    started : (st : Stmt) (rest : Point) → Comes (Do st ∷ rest) → (m ≡ st.node.id) ⊎ ((r : Point) × Next (Do st ∷ rest) r × Comes r)
    started st rest (inl e) = inl (subst (λ (u : Point). EntersAt u m) e enters)
    started st rest (inr k) = inr (after_step k.1)

    one_way : (r q : Point) → (r ≡ q) ⊎ ⊥ → Comes r → Comes q
    one_way r q e k = subst (λ (u : Point). (via ≡ u) ⊎ ((cut_at barrier u ≡ None) × LeadsTo barrier u via)) (only e) k

    -- a block on the way: control enters a node of it, or comes to its end
    abbrev Ends : {k : _} → Row_of-Stmt k → Point → Point → Type 0
    Ends row after rest = Rises 0 (nodes_of_row row) → Disjoint (nodes_of_row row) (point_nodes (after ++ rest)) → Comes ((map Do (block row) ++ after) ++ rest) →
        IsListed (block_entered barrier t row) m ⊎ ((block_passes barrier row ≡ true) × Comes (after ++ rest))

    if_in : {j k : _} (at : Node) (test : Cond) (yes_ : Row_of-Stmt j) (no_ : Row_of-Stmt k) (rest : Point) → Ends yes_ (Behind at.id ∷ []) rest → Ends no_ (Behind at.id ∷ []) rest → Rises 0 (at.id ∷ ((test.node.id ∷ inside_cond test.kind) ++ (nodes_of_row yes_ ++ nodes_of_row no_))) →
        Disjoint (at.id ∷ ((test.node.id ∷ inside_cond test.kind) ++ (nodes_of_row yes_ ++ nodes_of_row no_))) (point_nodes rest) →
        (m ≡ at.id) ⊎ ((u : Point) × ((u ≡ Judge test ∷ ((map Do (block yes_) ++ Behind at.id ∷ []) ++ rest)) ⊎ ((u ≡ Judge test ∷ ((map Do (block no_) ++ Behind at.id ∷ []) ++ rest)) ⊎ ⊥)) × Comes u) →
        IsListed (at.id ∷ (test.node.id ∷ (lefts t test.kind ++ (if is_in_cond t test.kind then [] else
        parts (block_meets barrier t yes_) (block_meets barrier t no_) (block_passes barrier yes_) (block_passes barrier no_) (block_entered barrier t yes_) (block_entered barrier t no_))))) m
        ⊎ (((block_passes barrier yes_ || block_passes barrier no_) ≡ true) × Comes (Behind at.id ∷ rest))
    if_in at test yes_ no_ rest by_yes by_no r d (inl g) = inl (inl g)
    if_in at test yes_ no_ rest by_yes by_no r d (inr (u, inr (inr e), k)) = absurd e
    if_in at test yes_ no_ rest by_yes by_no r d (inr (u, inl e, k)) =
        let T : List NodeId = test.node.id ∷ inside_cond test.kind in
        let Y : List NodeId = nodes_of_row yes_ in
        let N : List NodeId = nodes_of_row no_ in
        let q : Point = (map Do (block yes_) ++ Behind at.id ∷ []) ++ rest in
        let ps : List NodeId = parts (block_meets barrier t yes_) (block_meets barrier t no_) (block_passes barrier yes_) (block_passes barrier no_) (block_entered barrier t yes_) (block_entered barrier t no_) in
        let all : Rises 0 (T ++ (Y ++ N)) = rises_right 0 (at.id ∷ []) (T ++ (Y ++ N)) r in
        let ry : Rises 0 (Y ++ N) = rises_right 0 T (Y ++ N) all in
        let behind : (x : NodeId) → IsListed (T ++ (Y ++ N)) x → IsListed (at.id ∷ point_nodes rest) x → ⊥ = λ x i j. elim j [ inl g ↦ not_own at.id x (T ++ (Y ++ N)) r.1 i g | inr g ↦ d x (inr i) g ] in
        let dt : Disjoint (inside_cond test.kind) (point_nodes q) = λ x i j. elim (block_nodes yes_ (Behind at.id ∷ []) rest x j) [
          | inl g ↦ never_both T (Y ++ N) x all (inr i) (listed_left Y N x g)
          | inr g ↦ behind x (listed_left T (Y ++ N) x (inr i)) g
        ] in
        let dy : Disjoint Y (at.id ∷ point_nodes rest) = λ x i j. behind x (listed_right T (Y ++ N) x (listed_left Y N x i)) j in
        let dn : Disjoint N (at.id ∷ point_nodes rest) = λ x i j. behind x (listed_right T (Y ++ N) x (listed_right Y N x i)) j in
        elim (test_in test q (rises_right 0 (test.node.id ∷ []) (inside_cond test.kind) (rises_left 0 T (Y ++ N) all)) dt (subst (λ (v : Point). (via ≡ v) ⊎ ((cut_at barrier v ≡ None) × LeadsTo barrier v via)) e k)) [
          | inl (inl g) ↦ inl (inr (inl g))
          | inl (inr g) ↦ inl (inr (inr (listed_left (lefts t test.kind) (if is_in_cond t test.kind then [] else ps) m g)))
          | inr (f, g) ↦ elim (by_yes (rises_left 0 Y N ry) dy g) [
            | inl i ↦ inl (inr (inr (listed_right (lefts t test.kind) (if is_in_cond t test.kind then [] else ps) m (unless_in (is_in_cond t test.kind) ps m f
                (in_yes_part (block_meets barrier t yes_) (block_meets barrier t no_) (block_passes barrier yes_) (block_passes barrier no_) (block_entered barrier t yes_) (block_entered barrier t no_) m
                (elim (either_passes (block_meets barrier t yes_) (block_passes barrier yes_ && past barrier t at.id (point_leads barrier t rest))
                (sym (done barrier t yes_ (Behind at.id ∷ []) rest ∙ block_leads_as barrier t yes_ (past barrier t at.id (point_leads barrier t rest))) ∙ comes_leads q g)) [
                  | inl w ↦ inl w
                  | inr w ↦ (let both = both_true (block_passes barrier yes_) (past barrier t at.id (point_leads barrier t rest)) w in
                      inr (both.0, false_by (block_meets barrier t no_) (λ h. dn (target_node t) (block_meets_node no_ h) (leads_node (Behind at.id ∷ rest) both.1))))
                ]) i)))))
            | inr (h, i) ↦ inr (ap (λ w. w || block_passes barrier no_) h, i)
          ]
        ]
    if_in at test yes_ no_ rest by_yes by_no r d (inr (u, inr (inl e), k)) =
        let T : List NodeId = test.node.id ∷ inside_cond test.kind in
        let Y : List NodeId = nodes_of_row yes_ in
        let N : List NodeId = nodes_of_row no_ in
        let q : Point = (map Do (block no_) ++ Behind at.id ∷ []) ++ rest in
        let ps : List NodeId = parts (block_meets barrier t yes_) (block_meets barrier t no_) (block_passes barrier yes_) (block_passes barrier no_) (block_entered barrier t yes_) (block_entered barrier t no_) in
        let all : Rises 0 (T ++ (Y ++ N)) = rises_right 0 (at.id ∷ []) (T ++ (Y ++ N)) r in
        let ry : Rises 0 (Y ++ N) = rises_right 0 T (Y ++ N) all in
        let behind : (x : NodeId) → IsListed (T ++ (Y ++ N)) x → IsListed (at.id ∷ point_nodes rest) x → ⊥ = λ x i j. elim j [ inl g ↦ not_own at.id x (T ++ (Y ++ N)) r.1 i g | inr g ↦ d x (inr i) g ] in
        let dt : Disjoint (inside_cond test.kind) (point_nodes q) = λ x i j. elim (block_nodes no_ (Behind at.id ∷ []) rest x j) [
          | inl g ↦ never_both T (Y ++ N) x all (inr i) (listed_right Y N x g)
          | inr g ↦ behind x (listed_left T (Y ++ N) x (inr i)) g
        ] in
        let dn : Disjoint N (at.id ∷ point_nodes rest) = λ x i j. behind x (listed_right T (Y ++ N) x (listed_right Y N x i)) j in
        let dy : Disjoint Y (point_nodes q) = λ x i j. elim (block_nodes no_ (Behind at.id ∷ []) rest x j) [
          | inl g ↦ never_both Y N x ry i g
          | inr g ↦ behind x (listed_right T (Y ++ N) x (listed_left Y N x i)) g
        ] in
        elim (test_in test q (rises_right 0 (test.node.id ∷ []) (inside_cond test.kind) (rises_left 0 T (Y ++ N) all)) dt (subst (λ (v : Point). (via ≡ v) ⊎ ((cut_at barrier v ≡ None) × LeadsTo barrier v via)) e k)) [
          | inl (inl g) ↦ inl (inr (inl g))
          | inl (inr g) ↦ inl (inr (inr (listed_left (lefts t test.kind) (if is_in_cond t test.kind then [] else ps) m g)))
          | inr (f, g) ↦ elim (by_no (rises_right 0 Y N ry) dn g) [
            | inl i ↦ inl (inr (inr (listed_right (lefts t test.kind) (if is_in_cond t test.kind then [] else ps) m (unless_in (is_in_cond t test.kind) ps m f
                (in_no_part (block_meets barrier t yes_) (block_meets barrier t no_) (block_passes barrier yes_) (block_passes barrier no_) (block_entered barrier t yes_) (block_entered barrier t no_) m
                (false_by (block_meets barrier t yes_) (λ h. met_before Y q dy (block_meets_node yes_ h) g))
                (elim (either_passes (block_meets barrier t no_) (block_passes barrier no_ && past barrier t at.id (point_leads barrier t rest))
                (sym (done barrier t no_ (Behind at.id ∷ []) rest ∙ block_leads_as barrier t no_ (past barrier t at.id (point_leads barrier t rest))) ∙ comes_leads q g)) [
                  | inl w ↦ inl w
                  | inr w ↦ inr (both_true (block_passes barrier no_) (past barrier t at.id (point_leads barrier t rest)) w).0
                ]) i)))))
            | inr (h, i) ↦ inr (or_later (block_passes barrier yes_) (block_passes barrier no_) h, i)
          ]
        ]

    mutual
      pub stmt_in : (at : Node) (st : StmtKind) (rest : Point) → Rises 0 (at.id ∷ inside_stmt st) → Disjoint (at.id ∷ inside_stmt st) (point_nodes rest) → Comes (Do (record { node = at; kind = st }) ∷ rest) →
          IsListed (at.id ∷ entered barrier t st) m ⊎ ((passes barrier st ≡ true) × Comes (Behind at.id ∷ rest))
      stmt_in at (Set x e) rest r d k = elim (started (record { node = at; kind = Set x e }) rest k) [
        | inl g ↦ inl (inl g)
        | inr g ↦ inr (
          refl,
          skip (See at.id ∷ Behind at.id ∷ rest) (Behind at.id ∷ rest) (λ y. y) (λ u h. only h)
              (seen_skip (reads_of e.node e.kind) (See at.id ∷ Behind at.id ∷ []) rest (one_way g.0 _ g.1 g.2)),
        )
      ]
      stmt_in at (Put x i e) rest r d k = elim (started (record { node = at; kind = Put x i e }) rest k) [
        | inl g ↦ inl (inl g)
        | inr g ↦ inr (
          refl,
          skip (See at.id ∷ Behind at.id ∷ rest) (Behind at.id ∷ rest) (λ y. y) (λ u h. only h)
              (seen_skip (index_reads i ++ reads_of e.node e.kind) (See at.id ∷ Behind at.id ∷ []) rest (one_way g.0 _ g.1 g.2)),
        )
      ]
      stmt_in at (If' test a yes_ b no_) rest r d k = if_in at test yes_ no_ rest (block_in yes_ (Behind at.id ∷ []) rest) (block_in no_ (Behind at.id ∷ []) rest) r d (started (record { node = at; kind = If' test a yes_ b no_ }) rest k)
      stmt_in at (For' x lo hi a body) rest r d k = elim (started (record { node = at; kind = For' x lo hi a body }) rest k) [
        | inl g ↦ inl (inl g)
        | inr g ↦ absurd (enter_in at.id None (block body) rest (seen_skip (reads_of lo.node lo.kind ++ reads_of hi.node hi.kind) (Enter at.id None (block body) ∷ []) rest (one_way g.0 _ g.1 g.2)))
      ]
      stmt_in at (While' test a body) rest r d k = elim (started (record { node = at; kind = While' test a body }) rest k) [
        | inl g ↦ inl (inl g)
        | inr g ↦ absurd (enter_in at.id (Some test) (block body) rest (one_way g.0 _ g.1 g.2))
      ]
      stmt_in at (Hand x role) rest r d k = elim (started (record { node = at; kind = Hand x role }) rest k) [
        | inl g ↦ inl (inl g)
        | inr g ↦ inr (refl, skip (See at.id ∷ Behind at.id ∷ rest) (Behind at.id ∷ rest) (λ y. y) (λ u h. only h) (one_way g.0 _ g.1 g.2))
      ]
      stmt_in at Skip rest r d k = elim (started (record { node = at; kind = Skip }) rest k) [ inl g ↦ inl (inl g) | inr g ↦ inr (refl, one_way g.0 _ g.1 g.2) ]

      pub block_in : {k : _} (row : Row_of-Stmt k) (after rest : Point) → Rises 0 (nodes_of_row row) → Disjoint (nodes_of_row row) (point_nodes (after ++ rest)) → Comes ((map Do (block row) ++ after) ++ rest) →
          IsListed (block_entered barrier t row) m ⊎ ((block_passes barrier row ≡ true) × Comes (after ++ rest))
      block_in end_of-Stmt after rest r d k = inr (refl, k)
      block_in (more_of-Stmt at st more) after rest r d k =
          let X : List NodeId = at.id ∷ inside_stmt st in
          let q : Point = (map Do (block more) ++ after) ++ rest in
          let dx : Disjoint X (point_nodes q) = λ x i j. elim (block_nodes more after rest x j) [ inl g ↦ never_both X (nodes_of_row more) x r i g | inr g ↦ d x (listed_left X (nodes_of_row more) x i) g ] in
          let later : List NodeId = if past_by barrier t at.id st (meets barrier t at.id st) then block_entered barrier t more else [] in
          elim (stmt_in at st q (rises_left 0 X (nodes_of_row more) r) dx k) [
            | inl (inl e) ↦ inl (inl e)
            | inl (inr i) ↦ inl (inr (listed_left (entered barrier t st) later m i))
            | inr (ps, g) ↦ (let b = behind_in at.id q g in
                elim (block_in more after rest (rises_right 0 X (nodes_of_row more) r) (λ x i j. d x (listed_right X (nodes_of_row more) x i) j) b.1) [
                  | inl i ↦ inl (inr (listed_right (entered barrier t st) later m (where_in (past_by barrier t at.id st (meets barrier t at.id st)) (block_entered barrier t more) m
                      (past_true (meets barrier t at.id st) (barrier at.id.0) (passes barrier st) (false_by (meets barrier t at.id st) (λ h. met_before X q dx (meets_node at.id st h) b.1)) b.0 ps) i)))
                  | inr (h, i) ↦ inr (pass_true (barrier at.id.0) (passes barrier st) (block_passes barrier more) b.0 ps h, i)
                ])
          ]

    -- the same of a list of statements
    pub list_in : (sts : List Stmt) (after : Point) → Rises 0 (nodes_of_list sts) → Disjoint (nodes_of_list sts) (point_nodes after) → Comes (map Do sts ++ after) →
        IsListed (list_entered barrier t sts) m ⊎ (((not (list_meets barrier t sts) && list_passes barrier sts) ≡ true) × Comes after)
    list_in [] after r d k = inr (refl, k)
    list_in (st ∷ more) after r d k =
        let X : List NodeId = st.node.id ∷ inside_stmt st.kind in
        let q : Point = map Do more ++ after in
        let dx : Disjoint X (point_nodes q) = λ x i j. elim (list_nodes more after x j) [ inl g ↦ never_both X (nodes_of_list more) x r i g | inr g ↦ d x (listed_left X (nodes_of_list more) x i) g ] in
        let later : List NodeId = if past_by barrier t st.node.id st.kind (meets barrier t st.node.id st.kind) then list_entered barrier t more else [] in
        elim (stmt_in st.node st.kind q (rises_left 0 X (nodes_of_list more) r) dx k) [
          | inl (inl e) ↦ inl (inl e)
          | inl (inr i) ↦ inl (inr (listed_left (entered barrier t st.kind) later m i))
          | inr (ps, g) ↦ (let b = behind_in st.node.id q g in
              let unmet : meets barrier t st.node.id st.kind ≡ false = false_by (meets barrier t st.node.id st.kind) (λ h. met_before X q dx (meets_node st.node.id st.kind h) b.1) in
              elim (list_in more after (rises_right 0 X (nodes_of_list more) r) (λ x i j. d x (listed_right X (nodes_of_list more) x i) j) b.1) [
                | inl i ↦ inl (inr (listed_right (entered barrier t st.kind) later m (where_in (past_by barrier t st.node.id st.kind (meets barrier t st.node.id st.kind)) (list_entered barrier t more) m
                    (past_true (meets barrier t st.node.id st.kind) (barrier st.node.id.0) (passes barrier st.kind) unmet b.0 ps) i)))
                | inr (h, i) ↦ inr (clear_true (meets barrier t st.node.id st.kind) (passes barrier st.kind) (barrier st.node.id.0) (is_barrier t st.node.id) (list_meets barrier t more) (list_passes barrier more) unmet b.0 ps h, i)
              ])
        ]
