-- A pair has a condition exactly where it is one of the pairs of control flow: both follow one recursion over the tree.
use Rattle.std.proofs.Common.{◌≡◌, ◌⊎◌, ℕ, List, [], ◌∷◌, ◌++◌, Bool, true, false, ◌&&◌, ◌||◌, not, Option, Some, None, refl, sym, ◌∙◌, ap, subst, inl, inr, if◌then◌else◌}
use Rattle.std.proofs.lemmas.Bool.{false≢true, eq-eqb}
use Rattle.ac_tree.specs.declared.node.Node.{Node}
use Rattle.ac_tree.specs.declared.node.NodeId.{NodeId}
use Rattle.ac_tree.specs.declared.path.Cut.{Cut}
use Rattle.ac_tree.specs.declared.path.Cut.TheVariants.{Start, Head, Exit, After}
use Rattle.ac_tree.specs.declared.path.Pair.{Pair}
use Rattle.ac_tree.specs.declared.path.Target.{Target}
use Rattle.ac_tree.specs.declared.path.Target.TheVariants as target
use Rattle.ac_tree.specs.declared.policy.PolicyName.{PolicyName}
use Rattle.ac_tree.specs.declared.program.CondKind.{CondKind}
use Rattle.ac_tree.specs.declared.program.CondKind.TheVariants.{True, False, Rel}
use Rattle.ac_tree.specs.declared.program.ExprKind.{ExprKind}
use Rattle.ac_tree.specs.declared.program.ExprKind.TheVariants.{Num, Get, Read}
use Rattle.ac_tree.specs.declared.program.Index.{Index}
use Rattle.ac_tree.specs.declared.program.Program.{Program}
use Rattle.ac_tree.specs.declared.program.Stmt.{Stmt}
use Rattle.ac_tree.specs.declared.program.StmtKind.{StmtKind, Row_of-Stmt, end_of-Stmt, more_of-Stmt, Set, Put, If', For', While', Hand, Skip}
use Rattle.ac_tree.specs.Patterns.{Negative, Plus, Minus, Times, OneIndex, TwoIndexes, Negation, Conjunction, Disjunction}
use Rattle.ac_run.specs.Declarations.{constant_of}
use Rattle.ac_flow.specs.Leads.{is_entry, is_keep, is_barrier}
use Rattle.ac_flow.specs.Listed.{IsListed}
use Rattle.ac_flow.specs.Pairs.{each, site_pairs, expr_pairs, index_pairs, cond_pairs, barrier_pairs, loop_pairs, stmt_pairs, block_pairs, list_pairs}
use Rattle.ac_flow.specs.Through.{passes, block_passes, exits, block_exits, onward, behind_block}
use Rattle.ac_flow.specs.Through.{behind as come_behind}
use Rattle.ac_flow.proofs.Within.{in-left, in-right}
use Rattle.ac_logic.specs.declared.condition.Condition.{Condition}
use Rattle.ac_logic.specs.declared.formula.Formula.{Formula}
use Rattle.ac_logic.specs.declared.label.LabelKind.TheVariants as label
use Rattle.ac_logic.specs.Patterns.{Negation as Not}
use Rattle.ac_policy.specs.declared.site.Site.{Site}
use Rattle.ac_policy.specs.declared.site.SiteKind.TheVariants as kind
use Rattle.ac_policy.specs.Sites.{site_at, read_sites, expr_sites, index_sites, scalar_write}
use Rattle.ac_policy.specs.Terms.{zero_term, term_of, first_index, second_index}
use Rattle.ac_conditions.proofs.Parts.{IsThere, from_both, to_first, to_second, from_premise, to_premise, from_change, to_change, from_goal, to_goal, split, from_each, to_each, pairs_in, pairs_split, pairs_left, pairs_right, from_barrier, to_barrier, sites_split, sites_left, sites_right, site_forward, site_back, read_forward, read_back}
use Rattle.ac_conditions.proofs.TargetsCover.{same_target}
use Rattle.ac_conditions.specs.Conditions.{condition, barrier_condition, conditions, block_conditions, list_conditions, conditions_at}
use Rattle.ac_conditions.specs.Goals.{conjoined, goal_if, under, site_goal, sites_goal, cond_goal}
use Rattle.ac_conditions.specs.Hypotheses.{in_body, at_for_test, at_for_exit, at_while_exit, invariants}
use Rattle.ac_conditions.specs.Marked.{ExprMarked, IndexMarked, CondMarked, StmtMarked, BlockMarked, ListMarked, AreMarked}
use Rattle.ac_conditions.specs.Opened.{hidden, expr_shape, expr_child, cond_shape, cond_child, formula_shape, formula_child}
use Rattle.ac_conditions.specs.Part.{Part, is_any}
use Rattle.ac_conditions.specs.Preconditions.{past_barrier, before_changes, element_write, role_use, scalar_changes, element_changes, for_entry, for_keep, while_keep, set_goal, put_goal, ends_goal, before, before_block, before_list, for_head, while_head}
use Rattle.ac_conditions.specs.Ranges.{ranges}
use Rattle.ac_conditions.specs.Tests.{formula_of}

-- the cuts that come to the end of one part or the other
one_part : (c : Cut) (F Y N : List Cut) (a b : Bool) → IsListed ((if a || b then F else []) ++ (Y ++ N)) c → IsListed ((if a then F else []) ++ Y) c ⊎ IsListed ((if b then F else []) ++ N) c
one_part c F Y N true b h = elim (split F (Y ++ N) c h) [
  | inl k ↦ inl (in-left F Y c k)
  | inr k ↦ elim (split Y N c k) [ inl j ↦ inl (in-right F Y c j) | inr j ↦ inr (in-right (if b then F else []) N c j) ]
]
one_part c F Y N false true h = elim (split F (Y ++ N) c h) [
  | inl k ↦ inr (in-left F N c k)
  | inr k ↦ elim (split Y N c k) [ inl j ↦ inl j | inr j ↦ inr (in-right F N c j) ]
]
one_part c F Y N false false h = elim (split Y N c h) [ inl j ↦ inl j | inr j ↦ inr j ]

first_part : (c : Cut) (F Y N : List Cut) (a b : Bool) → IsListed ((if a then F else []) ++ Y) c → IsListed ((if a || b then F else []) ++ (Y ++ N)) c
first_part c F Y N true b h = elim (split F Y c h) [ inl k ↦ in-left F (Y ++ N) c k | inr k ↦ in-right F (Y ++ N) c (in-left Y N c k) ]
first_part c F Y N false b h = in-right (if b then F else []) (Y ++ N) c (in-left Y N c h)

second_part : (c : Cut) (F Y N : List Cut) (a b : Bool) → IsListed ((if b then F else []) ++ N) c → IsListed ((if a || b then F else []) ++ (Y ++ N)) c
second_part c F Y N true true h = elim (split F N c h) [ inl k ↦ in-left F (Y ++ N) c k | inr k ↦ in-right F (Y ++ N) c (in-right Y N c k) ]
second_part c F Y N true false h = in-right F (Y ++ N) c (in-right Y N c h)
second_part c F Y N false true h = elim (split F N c h) [ inl k ↦ in-left F (Y ++ N) c k | inr k ↦ in-right F (Y ++ N) c (in-right Y N c k) ]
second_part c F Y N false false h = in-right Y N c h

-- the cuts that come to the end of a block, by its first statement and the rest
through : (c : Cut) (F leave more : List Cut) (g q : Bool) → IsListed ((if q then (if g then F else []) ++ leave else []) ++ more) c → IsListed ((if g && q then F else []) ++ ((if q then leave else []) ++ more)) c
through c F leave more true true h = elim (split (F ++ leave) more c h) [
  | inl k ↦ elim (split F leave c k) [ inl j ↦ in-left F (leave ++ more) c j | inr j ↦ in-right F (leave ++ more) c (in-left leave more c j) ]
  | inr k ↦ in-right F (leave ++ more) c (in-right leave more c k)
]
through c F leave more false true h = h
through c F leave more true false h = h
through c F leave more false false h = h

back_through : (c : Cut) (F leave more : List Cut) (g q : Bool) → IsListed ((if g && q then F else []) ++ ((if q then leave else []) ++ more)) c → IsListed ((if q then (if g then F else []) ++ leave else []) ++ more) c
back_through c F leave more true true h = elim (split F (leave ++ more) c h) [
  | inl k ↦ in-left (F ++ leave) more c (in-left F leave c k)
  | inr k ↦ elim (split leave more c k) [ inl j ↦ in-left (F ++ leave) more c (in-right F leave c j) | inr j ↦ in-right (F ++ leave) more c j ]
]
back_through c F leave more false true h = h
back_through c F leave more true false h = h
back_through c F leave more false false h = h

module _ (p : Program) (q : PolicyName) (part : Part) (barrier subject : ℕ → Bool) (barriers : (n : NodeId) → barrier n.0 ≡ is_any (part.behind n)) (c : Cut) (t : Target) where
  abbrev Has : List Cut → Type 0
  Has cuts = IsListed cuts c

  abbrev Paired : List Pair → Type 0
  Paired xs = IsListed xs (record { cut = c; target = t })

  abbrev Listed : List Condition → Type 0
  Listed cs = IsListed (pairs_in cs) (record { cut = c; target = t })

  both_paired : (xs ys : List Pair) → Paired (xs ++ ys) → Paired xs ⊎ Paired ys
  both_paired xs ys h = split xs ys (record { cut = c; target = t }) h

  paired_left : (xs ys : List Pair) → Paired xs → Paired (xs ++ ys)
  paired_left xs ys h = in-left xs ys (record { cut = c; target = t }) h

  paired_right : (xs ys : List Pair) → Paired ys → Paired (xs ++ ys)
  paired_right xs ys h = in-right xs ys (record { cut = c; target = t }) h

  both_listed : (cs ds : List Condition) → Listed (cs ++ ds) → Listed cs ⊎ Listed ds
  both_listed cs ds h = pairs_split cs ds (record { cut = c; target = t }) h

  listed_left : (cs ds : List Condition) → Listed cs → Listed (cs ++ ds)
  listed_left cs ds h = pairs_left cs ds (record { cut = c; target = t }) h

  listed_right : (cs ds : List Condition) → Listed ds → Listed (cs ++ ds)
  listed_right cs ds h = pairs_right cs ds (record { cut = c; target = t }) h

  -- the condition of one cut
  from_condition : (d : Cut) (hs : List Formula) (path : Option Formula) → Listed (condition p q part t d hs path) → (c ≡ d) × IsThere path
  from_condition d hs None h = absurd h
  from_condition d hs (Some f) (inl e) = (ap (λ (x : Pair). x.cut) e, tt)
  from_condition d hs (Some f) (inr h) = absurd h

  to_condition : (d : Cut) (hs : List Formula) (path : Option Formula) → c ≡ d → IsThere path → Listed (condition p q part t d hs path)
  to_condition d hs None e h = absurd h
  to_condition d hs (Some f) e h = inl (ap (λ (x : Cut). let y : Pair = record { cut = x; target = t } in y) e)

  -- two lists of sites, and the pairs of each
  two_forward : (xs ys : List Site) (P Q : List Pair) → (IsThere (sites_goal part.need t xs) → Paired P) → (IsThere (sites_goal part.need t ys) → Paired Q) → IsThere (sites_goal part.need t (xs ++ ys)) → Paired (P ++ Q)
  two_forward xs ys P Q f g h = elim (sites_split part.need subject c t xs ys h) [ inl i ↦ paired_left P Q (f i) | inr i ↦ paired_right P Q (g i) ]

  two_back : (cuts : List Cut) (xs ys : List Site) (P Q : List Pair) → (Paired P → Has cuts × IsThere (sites_goal part.need t xs)) → (Paired Q → Has cuts × IsThere (sites_goal part.need t ys)) → Paired (P ++ Q) → Has cuts × IsThere (sites_goal part.need t (xs ++ ys))
  two_back cuts xs ys P Q f g h = elim (both_paired P Q h) [
    | inl i ↦ (let k = f i in (k.0, sites_left part.need subject c t xs ys k.1))
    | inr i ↦ (let k = g i in (k.0, sites_right part.need subject c t xs ys k.1))
  ]

  -- expressions
  mutual
    unfolding hidden expr_shape expr_child

    expr_forward : (n : Node) (e : ExprKind) (cuts : List Cut) → ExprMarked p part.need subject n.id e → Has cuts → IsThere (sites_goal part.need t (expr_sites p n.id e)) → Paired (expr_pairs subject cuts n e)
    expr_forward n (Num k) cuts m h k2 = absurd k2
    expr_forward n (Get x) cuts m h k = read_forward part.need subject c t (constant_of p x) (site_at n.id kind.Read x zero_term zero_term) cuts m h k
    expr_forward n (Read x at) cuts m h k =
        let s = site_at n.id kind.Read x (first_index p at) (second_index p at) in
        elim (sites_split part.need subject c t (read_sites p n.id x (first_index p at) (second_index p at)) (index_sites p at) k) [
          | inl j ↦ paired_left (site_pairs subject cuts n.id) (index_pairs subject cuts at) (read_forward part.need subject c t (constant_of p x) s cuts m.0 h j)
          | inr j ↦ paired_right (site_pairs subject cuts n.id) (index_pairs subject cuts at) (index_forward at cuts m.1 h j)
        ]
    expr_forward n (Negative k a) cuts m h j = expr_forward k a cuts m h j
    expr_forward n (Plus k a l b) cuts m h j = two_forward (expr_sites p k.id a) (expr_sites p l.id b) (expr_pairs subject cuts k a) (expr_pairs subject cuts l b) (λ i. expr_forward k a cuts m.0 h i) (λ i. expr_forward l b cuts m.1 h i) j
    expr_forward n (Minus k a l b) cuts m h j = two_forward (expr_sites p k.id a) (expr_sites p l.id b) (expr_pairs subject cuts k a) (expr_pairs subject cuts l b) (λ i. expr_forward k a cuts m.0 h i) (λ i. expr_forward l b cuts m.1 h i) j
    expr_forward n (Times k a l b) cuts m h j = two_forward (expr_sites p k.id a) (expr_sites p l.id b) (expr_pairs subject cuts k a) (expr_pairs subject cuts l b) (λ i. expr_forward k a cuts m.0 h i) (λ i. expr_forward l b cuts m.1 h i) j

    index_forward : (at : Index) (cuts : List Cut) → IndexMarked p part.need subject at → Has cuts → IsThere (sites_goal part.need t (index_sites p at)) → Paired (index_pairs subject cuts at)
    index_forward (OneIndex k a) cuts m h j = expr_forward k a cuts m h j
    index_forward (TwoIndexes k a l b) cuts m h j = two_forward (expr_sites p k.id a) (expr_sites p l.id b) (expr_pairs subject cuts k a) (expr_pairs subject cuts l b) (λ i. expr_forward k a cuts m.0 h i) (λ i. expr_forward l b cuts m.1 h i) j

  mutual
    unfolding hidden expr_shape expr_child

    expr_back : (n : Node) (e : ExprKind) (cuts : List Cut) → ExprMarked p part.need subject n.id e → Paired (expr_pairs subject cuts n e) → Has cuts × IsThere (sites_goal part.need t (expr_sites p n.id e))
    expr_back n (Num k) cuts m h = absurd h
    expr_back n (Get x) cuts m h = read_back part.need subject c t (constant_of p x) (site_at n.id kind.Read x zero_term zero_term) cuts m h
    expr_back n (Read x at) cuts m h =
        let s = site_at n.id kind.Read x (first_index p at) (second_index p at) in
        let xs = read_sites p n.id x (first_index p at) (second_index p at) in
        elim (both_paired (site_pairs subject cuts n.id) (index_pairs subject cuts at) h) [
          | inl j ↦ (let g = read_back part.need subject c t (constant_of p x) s cuts m.0 j in (g.0, sites_left part.need subject c t xs (index_sites p at) g.1))
          | inr j ↦ (let g = index_back at cuts m.1 j in (g.0, sites_right part.need subject c t xs (index_sites p at) g.1))
        ]
    expr_back n (Negative k a) cuts m h = expr_back k a cuts m h
    expr_back n (Plus k a l b) cuts m h = two_back cuts (expr_sites p k.id a) (expr_sites p l.id b) (expr_pairs subject cuts k a) (expr_pairs subject cuts l b) (λ i. expr_back k a cuts m.0 i) (λ i. expr_back l b cuts m.1 i) h
    expr_back n (Minus k a l b) cuts m h = two_back cuts (expr_sites p k.id a) (expr_sites p l.id b) (expr_pairs subject cuts k a) (expr_pairs subject cuts l b) (λ i. expr_back k a cuts m.0 i) (λ i. expr_back l b cuts m.1 i) h
    expr_back n (Times k a l b) cuts m h = two_back cuts (expr_sites p k.id a) (expr_sites p l.id b) (expr_pairs subject cuts k a) (expr_pairs subject cuts l b) (λ i. expr_back k a cuts m.0 i) (λ i. expr_back l b cuts m.1 i) h

    index_back : (at : Index) (cuts : List Cut) → IndexMarked p part.need subject at → Paired (index_pairs subject cuts at) → Has cuts × IsThere (sites_goal part.need t (index_sites p at))
    index_back (OneIndex k a) cuts m h = expr_back k a cuts m h
    index_back (TwoIndexes k a l b) cuts m h = two_back cuts (expr_sites p k.id a) (expr_sites p l.id b) (expr_pairs subject cuts k a) (expr_pairs subject cuts l b) (λ i. expr_back k a cuts m.0 i) (λ i. expr_back l b cuts m.1 i) h

  -- tests
  cond_forward : (d : CondKind) (cuts : List Cut) → CondMarked p part.need subject d → Has cuts → IsThere (cond_goal part.need t p d) → Paired (cond_pairs subject cuts d)
  unfolding hidden cond_shape cond_child formula_shape formula_child
  cond_forward True cuts m h k = absurd k
  cond_forward False cuts m h k = absurd k
  cond_forward (Rel op a b) cuts m h k = two_forward (expr_sites p a.node.id a.kind) (expr_sites p b.node.id b.kind) (expr_pairs subject cuts a.node a.kind) (expr_pairs subject cuts b.node b.kind) (λ i. expr_forward a.node a.kind cuts m.0 h i) (λ i. expr_forward b.node b.kind cuts m.1 h i) k
  cond_forward (Negation n d) cuts m h k = cond_forward d cuts m h k
  cond_forward (Conjunction n d l e) cuts m h k = elim (from_both (cond_goal part.need t p d) (under label.Guard n.id (formula_of p d) (cond_goal part.need t p e)) k) [
    | inl j ↦ paired_left (cond_pairs subject cuts d) (cond_pairs subject cuts e) (cond_forward d cuts m.0 h j)
    | inr j ↦ paired_right (cond_pairs subject cuts d) (cond_pairs subject cuts e) (cond_forward e cuts m.1 h (from_premise label.Guard n.id (formula_of p d) (cond_goal part.need t p e) j))
  ]
  cond_forward (Disjunction n d l e) cuts m h k = elim (from_both (cond_goal part.need t p d) (under label.Guard n.id (Not (formula_of p d)) (cond_goal part.need t p e)) k) [
    | inl j ↦ paired_left (cond_pairs subject cuts d) (cond_pairs subject cuts e) (cond_forward d cuts m.0 h j)
    | inr j ↦ paired_right (cond_pairs subject cuts d) (cond_pairs subject cuts e) (cond_forward e cuts m.1 h (from_premise label.Guard n.id (Not (formula_of p d)) (cond_goal part.need t p e) j))
  ]

  cond_back : (d : CondKind) (cuts : List Cut) → CondMarked p part.need subject d → Paired (cond_pairs subject cuts d) → Has cuts × IsThere (cond_goal part.need t p d)
  unfolding hidden cond_shape cond_child formula_shape formula_child
  cond_back True cuts m h = absurd h
  cond_back False cuts m h = absurd h
  cond_back (Rel op a b) cuts m h = two_back cuts (expr_sites p a.node.id a.kind) (expr_sites p b.node.id b.kind) (expr_pairs subject cuts a.node a.kind) (expr_pairs subject cuts b.node b.kind) (λ i. expr_back a.node a.kind cuts m.0 i) (λ i. expr_back b.node b.kind cuts m.1 i) h
  cond_back (Negation n d) cuts m h = cond_back d cuts m h
  cond_back (Conjunction n d l e) cuts m h = elim (both_paired (cond_pairs subject cuts d) (cond_pairs subject cuts e) h) [
    | inl j ↦ (let g = cond_back d cuts m.0 j in (g.0, to_first (cond_goal part.need t p d) (under label.Guard n.id (formula_of p d) (cond_goal part.need t p e)) g.1))
    | inr j ↦ (let g = cond_back e cuts m.1 j in (g.0, to_second (cond_goal part.need t p d) (under label.Guard n.id (formula_of p d) (cond_goal part.need t p e)) (to_premise label.Guard n.id (formula_of p d) (cond_goal part.need t p e) g.1)))
  ]
  cond_back (Disjunction n d l e) cuts m h = elim (both_paired (cond_pairs subject cuts d) (cond_pairs subject cuts e) h) [
    | inl j ↦ (let g = cond_back d cuts m.0 j in (g.0, to_first (cond_goal part.need t p d) (under label.Guard n.id (Not (formula_of p d)) (cond_goal part.need t p e)) g.1))
    | inr j ↦ (let g = cond_back e cuts m.1 j in (g.0, to_second (cond_goal part.need t p d) (under label.Guard n.id (Not (formula_of p d)) (cond_goal part.need t p e)) (to_premise label.Guard n.id (Not (formula_of p d)) (cond_goal part.need t p e) g.1)))
  ]

  -- By conditions: the cuts that come lead to the target, or some cut inside has a condition. By pairs: the pair is listed, or
  -- the cuts that go on lead to it.
  abbrev Aims : List Cut → Option Formula → List Condition → Type 0
  Aims cuts path cs = (Has cuts × IsThere path) ⊎ Listed cs

  abbrev Goes : List Pair → List Cut → Option Formula → Type 0
  Goes xs cuts path = Paired xs ⊎ (Has cuts × IsThere path)

  -- the pairs of a loop: it is entered, and kept
  kept_paired : (n : NodeId) (cuts kept : List Cut) (M : List Pair) → Has kept → t ≡ target.Keep n → Paired (loop_pairs barrier cuts n kept ++ M)
  kept_paired n cuts kept M h e =
      paired_left (loop_pairs barrier cuts n kept) M (paired_right (each cuts (target.Entry n)) (each kept (target.Keep n) ++ barrier_pairs barrier (Exit n ∷ []) n) (paired_left (each kept (target.Keep n)) (barrier_pairs barrier (Exit n ∷ []) n) (to_each (target.Keep n) kept c t h e)))

  entered : (n : NodeId) (cuts kept : List Cut) (M : List Pair) → Has cuts → is_entry t n ≡ true → Paired (loop_pairs barrier cuts n kept ++ M)
  entered n cuts kept M h e = paired_left (loop_pairs barrier cuts n kept) M (paired_left (each cuts (target.Entry n)) (each kept (target.Keep n) ++ barrier_pairs barrier (Exit n ∷ []) n) (to_each (target.Entry n) cuts c t h (same_target t (target.Entry n) e)))

  -- what the pairs of a loop are
  abbrev LoopPaired : NodeId → List Cut → List Cut → List Pair → Type 0
  LoopPaired n cuts kept M = (Has cuts × (t ≡ target.Entry n)) ⊎ (Has kept × (t ≡ target.Keep n)) ⊎ Paired (barrier_pairs barrier (Exit n ∷ []) n) ⊎ Paired M

  loop_parts : (n : NodeId) (cuts kept : List Cut) (M : List Pair) → Paired (loop_pairs barrier cuts n kept ++ M) → LoopPaired n cuts kept M
  loop_parts n cuts kept M h = elim (both_paired (loop_pairs barrier cuts n kept) M h) [
    | inr j ↦ inr (inr (inr j))
    | inl j ↦ elim (both_paired (each cuts (target.Entry n)) (each kept (target.Keep n) ++ barrier_pairs barrier (Exit n ∷ []) n) j) [
      | inl i ↦ inl (from_each (target.Entry n) cuts c t i)
      | inr i ↦ elim (both_paired (each kept (target.Keep n)) (barrier_pairs barrier (Exit n ∷ []) n) i) [
        | inl g ↦ inr (inl (from_each (target.Keep n) kept c t g))
        | inr g ↦ inr (inr (inl g))
      ]
    ]
  ]

  entry_is : (n : NodeId) → t ≡ target.Entry n → is_entry t n ≡ true
  entry_is n e = subst (λ (v : Target). is_entry v n ≡ true) (sym e) (eq-eqb n.0 n.0 refl)

  keep_is : (n : NodeId) → t ≡ target.Keep n → is_keep t n ≡ true
  keep_is n e = subst (λ (v : Target). is_keep v n ≡ true) (sym e) (eq-eqb n.0 n.0 refl)

  barrier_is : (n : NodeId) → t ≡ target.Barrier n → is_barrier t n ≡ true
  barrier_is n e = subst (λ (v : Target). is_barrier v n ≡ true) (sym e) (eq-eqb n.0 n.0 refl)

  no_more : (cuts : List Cut) → Has (cuts ++ []) → Has cuts
  no_more cuts h = elim (split cuts [] c h) [ inl j ↦ j | inr j ↦ absurd j ]

  -- behind a statement, with its barrier or without
  onward_open : (n : NodeId) (k : StmtKind) (cuts : List Cut) → barrier n.0 ≡ false → onward barrier cuts n k ≡ come_behind barrier cuts n k
  onward_open n k cuts e = λ i. (if not (e i) && passes barrier k then cuts else []) ++ (if e i then After n ∷ [] else exits barrier n k)

  onward_shut : (n : NodeId) (k : StmtKind) (cuts : List Cut) → barrier n.0 ≡ true → onward barrier cuts n k ≡ After n ∷ []
  onward_shut n k cuts e = λ i. (if not (e i) && passes barrier k then cuts else []) ++ (if e i then After n ∷ [] else exits barrier n k)

  -- the pairs at the barrier of a statement are among its pairs
  barrier_among : (n : NodeId) (k : StmtKind) (cuts : List Cut) → barrier n.0 ≡ true → t ≡ target.Barrier n → Has (come_behind barrier cuts n k) → Paired (stmt_pairs barrier subject cuts n k)
  barrier_among n (Set x e) cuts b s h = paired_left (barrier_pairs barrier cuts n) _ (to_barrier barrier c t n cuts b s (no_more cuts h))
  barrier_among n (Put x at e) cuts b s h = paired_left (barrier_pairs barrier cuts n) _ (to_barrier barrier c t n cuts b s (no_more cuts h))
  barrier_among n (If' test i y j z) cuts b s h = paired_left (barrier_pairs barrier (come_behind barrier cuts n (If' test i y j z)) n) _ (to_barrier barrier c t n _ b s h)
  barrier_among n (For' x lo hi _ body) cuts b s h =
      paired_left (loop_pairs barrier cuts n (behind_block barrier (Head n ∷ []) body)) _ (paired_right (each cuts (target.Entry n)) _ (paired_right (each (behind_block barrier (Head n ∷ []) body) (target.Keep n)) _ (to_barrier barrier c t n (Exit n ∷ []) b s h)))
  barrier_among n (While' test _ body) cuts b s h =
      paired_left (loop_pairs barrier cuts n (behind_block barrier (Head n ∷ []) body)) _ (paired_right (each cuts (target.Entry n)) _ (paired_right (each (behind_block barrier (Head n ∷ []) body) (target.Keep n)) _ (to_barrier barrier c t n (Exit n ∷ []) b s h)))
  barrier_among n (Hand x role) cuts b s h = paired_left (barrier_pairs barrier cuts n) _ (to_barrier barrier c t n cuts b s (no_more cuts h))
  barrier_among n Skip cuts b s h = to_barrier barrier c t n cuts b s (no_more cuts h)

  -- a statement, from what stands behind it, with the condition of its barrier
  abbrev Passed : NodeId → StmtKind → List Cut → Option Formula → List Condition → Type 0
  Passed n k cuts path bs = Goes (stmt_pairs barrier subject cuts n k) (come_behind barrier cuts n k) path ⊎ Listed bs

  past_forward : (n : NodeId) (k : StmtKind) (cuts : List Cut) (hs facts : List Formula) (path : Option Formula) → barrier n.0 ≡ is_any facts →
      Passed n k cuts (past_barrier t n facts path) (barrier_condition p q part t n hs facts path) → Goes (stmt_pairs barrier subject cuts n k) (onward barrier cuts n k) path
  past_forward n k cuts hs facts path e (inl (inl h)) = inl h
  past_forward n k cuts hs [] path e (inl (inr h)) = inr (subst (λ (xs : List Cut). Has xs) (sym (onward_open n k cuts e)) h.0, h.1)
  past_forward n k cuts hs (f ∷ fs) path e (inl (inr h)) = inl (barrier_among n k cuts e (same_target t (target.Barrier n) (from_goal (is_barrier t n) _ h.1)) h.0)
  past_forward n k cuts hs [] path e (inr h) = absurd h
  past_forward n k cuts hs (f ∷ fs) path e (inr h) = let g = from_condition (After n) _ path h in inr (subst (λ (xs : List Cut). Has xs) (sym (onward_shut n k cuts e)) (inl g.0), g.1)

  -- and back: to a statement with its barrier
  abbrev Barred : NodeId → StmtKind → List Cut → Type 0
  Barred n k cuts = (barrier n.0 ≡ true) × (t ≡ target.Barrier n) × Has (come_behind barrier cuts n k)

  past_back : (n : NodeId) (k : StmtKind) (cuts : List Cut) (hs facts : List Formula) (path : Option Formula) → barrier n.0 ≡ is_any facts → Has (onward barrier cuts n k) → IsThere path →
      (Has (come_behind barrier cuts n k) × IsThere (past_barrier t n facts path)) ⊎ Listed (barrier_condition p q part t n hs facts path)
  past_back n k cuts hs [] path e h j = inl (subst (λ (xs : List Cut). Has xs) (onward_open n k cuts e) h, j)
  past_back n k cuts hs (f ∷ fs) path e h j = elim (subst (λ (xs : List Cut). Has xs) (onward_shut n k cuts e) h) [ inl i ↦ inr (to_condition (After n) _ path i j) | inr i ↦ absurd i ]

  barred_there : (n : NodeId) (facts : List Formula) (path : Option Formula) → barrier n.0 ≡ is_any facts → barrier n.0 ≡ true → t ≡ target.Barrier n → IsThere (past_barrier t n facts path)
  barred_there n [] path e b s = absurd (false≢true (sym e ∙ b))
  barred_there n (f ∷ fs) path e b s = to_goal (is_barrier t n) _ (barrier_is n s)

  -- the parts of an `if`
  first_forward : (B C Y Z : List Pair) (F ys zs : List Cut) (a b : Bool) (path : Option Formula) (bs : List Condition) → Goes Y ((if a then F else []) ++ ys) path → Goes (B ++ (C ++ (Y ++ Z))) ((if a || b then F else []) ++ (ys ++ zs)) path ⊎ Listed bs
  first_forward B C Y Z F ys zs a b path bs (inl h) = inl (inl (paired_right B (C ++ (Y ++ Z)) (paired_right C (Y ++ Z) (paired_left Y Z h))))
  first_forward B C Y Z F ys zs a b path bs (inr h) = inl (inr (first_part c F ys zs a b h.0, h.1))

  second_forward : (B C Y Z : List Pair) (F ys zs : List Cut) (a b : Bool) (path : Option Formula) (bs : List Condition) → Goes Z ((if b then F else []) ++ zs) path → Goes (B ++ (C ++ (Y ++ Z))) ((if a || b then F else []) ++ (ys ++ zs)) path ⊎ Listed bs
  second_forward B C Y Z F ys zs a b path bs (inl h) = inl (inl (paired_right B (C ++ (Y ++ Z)) (paired_right C (Y ++ Z) (paired_right Y Z h))))
  second_forward B C Y Z F ys zs a b path bs (inr h) = inl (inr (second_part c F ys zs a b h.0, h.1))

  -- a turn of a loop, whose body begins at its head and ends at its goal of keeping
  came_back : (n : NodeId) (f : Formula) → IsThere (goal_if (is_keep t n) f) → t ≡ target.Keep n
  came_back n f h = same_target t (target.Keep n) (from_goal (is_keep t n) f h)

  turn_forward : (n : NodeId) (cuts kept : List Cut) (M Z : List Pair) (goal path : Option Formula) (bs : List Condition) → (IsThere goal → t ≡ target.Keep n) → (Paired Z → Paired M) → (on : List Cut) → Goes Z kept goal → Goes (loop_pairs barrier cuts n kept ++ M) on path ⊎ Listed bs
  turn_forward n cuts kept M Z goal path bs is wider on (inl h) = inl (inl (paired_right (loop_pairs barrier cuts n kept) M (wider h)))
  turn_forward n cuts kept M Z goal path bs is wider on (inr h) = inl (inl (kept_paired n cuts kept M h.0 (is h.1)))

  -- the rest of a block
  more_forward : {a : _} (n : Node) (st : StmtKind) (rest : Row_of-Stmt a) (cuts : List Cut) (path : Option Formula) →
      Goes (block_pairs barrier subject (onward barrier cuts n.id st) rest) (behind_block barrier (onward barrier cuts n.id st) rest) path →
      Goes (block_pairs barrier subject cuts (more_of-Stmt n st rest)) (behind_block barrier cuts (more_of-Stmt n st rest)) path
  more_forward n st rest cuts path (inl h) = inl (paired_right (stmt_pairs barrier subject cuts n.id st) (block_pairs barrier subject (onward barrier cuts n.id st) rest) h)
  more_forward n st rest cuts path (inr h) = inr (through c cuts (if barrier n.id.0 then After n.id ∷ [] else exits barrier n.id st) (block_exits barrier rest) (not (barrier n.id.0) && passes barrier st) (block_passes barrier rest) h.0, h.1)

  rest_forward : {a : _} (n : Node) (st : StmtKind) (rest : Row_of-Stmt a) (cuts : List Cut) (path : Option Formula) →
      (Has (onward barrier cuts n.id st) × IsThere (before_block p part t rest path) → Goes (block_pairs barrier subject (onward barrier cuts n.id st) rest) (behind_block barrier (onward barrier cuts n.id st) rest) path) →
      Goes (stmt_pairs barrier subject cuts n.id st) (onward barrier cuts n.id st) (before_block p part t rest path) → Goes (block_pairs barrier subject cuts (more_of-Stmt n st rest)) (behind_block barrier cuts (more_of-Stmt n st rest)) path
  rest_forward n st rest cuts path f (inl h) = inl (paired_left (stmt_pairs barrier subject cuts n.id st) (block_pairs barrier subject (onward barrier cuts n.id st) rest) h)
  rest_forward n st rest cuts path f (inr h) = more_forward n st rest cuts path (f h)

  -- conditions to pairs
  mutual
    stmt_forward : (n : NodeId) (k : StmtKind) (cuts : List Cut) (hs : List Formula) (path : Option Formula) (bs : List Condition) → StmtMarked p part.need subject n k →
        Aims cuts (before p part t n k path) (conditions p q part t hs n k path bs) → Passed n k cuts path bs
    stmt_forward n (Set x e) cuts hs path bs m (inl h) =
        let E = expr_pairs subject cuts e.node e.kind in
        let S = site_pairs subject cuts n in
        let B = barrier_pairs barrier cuts n in
        elim (from_both (set_goal p part t n x e) (before_changes n (scalar_changes p part n x (term_of p e.kind)) path) h.1) [
          | inr j ↦ inl (inr (in-left cuts [] c h.0, from_change n (scalar_changes p part n x (term_of p e.kind)) path j))
          | inl j ↦ elim (from_both (site_goal part.need t (scalar_write n x)) (sites_goal part.need t (expr_sites p e.node.id e.kind)) j) [
            | inl i ↦ inl (inl (paired_right B (S ++ E) (paired_left S E (site_forward part.need subject c t (scalar_write n x) cuts m.0 h.0 i))))
            | inr i ↦ inl (inl (paired_right B (S ++ E) (paired_right S E (expr_forward e.node e.kind cuts m.1 h.0 i))))
          ]
        ]
    stmt_forward n (Put x at e) cuts hs path bs m (inl h) =
        let E = expr_pairs subject cuts e.node e.kind in
        let I = index_pairs subject cuts at in
        let S = site_pairs subject cuts n in
        let B = barrier_pairs barrier cuts n in
        elim (from_both (put_goal p part t n x at e) (before_changes n (element_changes p part n x at (term_of p e.kind)) path) h.1) [
          | inr j ↦ inl (inr (in-left cuts [] c h.0, from_change n (element_changes p part n x at (term_of p e.kind)) path j))
          | inl j ↦ elim (from_both (site_goal part.need t (element_write p n x at)) (sites_goal part.need t (index_sites p at ++ expr_sites p e.node.id e.kind)) j) [
            | inl i ↦ inl (inl (paired_right B (S ++ (I ++ E)) (paired_left S (I ++ E) (site_forward part.need subject c t (element_write p n x at) cuts m.0 h.0 i))))
            | inr i ↦ elim (sites_split part.need subject c t (index_sites p at) (expr_sites p e.node.id e.kind) i) [
              | inl g ↦ inl (inl (paired_right B (S ++ (I ++ E)) (paired_right S (I ++ E) (paired_left I E (index_forward at cuts m.1 h.0 g)))))
              | inr g ↦ inl (inl (paired_right B (S ++ (I ++ E)) (paired_right S (I ++ E) (paired_right I E (expr_forward e.node e.kind cuts m.2 h.0 g)))))
            ]
          ]
        ]
    stmt_forward n (Hand x role) cuts hs path bs m (inl h) =
        elim (from_both (site_goal part.need t (role_use p n x role)) path h.1) [
          | inl j ↦ inl (inl (paired_right (barrier_pairs barrier cuts n) (site_pairs subject cuts n) (site_forward part.need subject c t (role_use p n x role) cuts m h.0 j)))
          | inr j ↦ inl (inr (in-left cuts [] c h.0, j))
        ]
    stmt_forward n Skip cuts hs path bs m (inl h) = inl (inr (in-left cuts [] c h.0, h.1))
    stmt_forward n (If' test i y j z) cuts hs path bs m (inl h) =
        let yes_ = under label.Test n (formula_of p test.kind) (before_block p part t y path) in
        let no_ = under label.Denied n (Not (formula_of p test.kind)) (before_block p part t z path) in
        let B = barrier_pairs barrier (come_behind barrier cuts n (If' test i y j z)) n in
        let C = cond_pairs subject cuts test.kind in
        elim (from_both (cond_goal part.need t p test.kind) (conjoined yes_ no_) h.1) [
          | inl g ↦ inl (inl (paired_right B _ (paired_left C _ (cond_forward test.kind cuts m.0 h.0 g))))
          | inr g ↦ elim (from_both yes_ no_ g) [
            | inl f ↦ first_forward B C (block_pairs barrier subject cuts y) (block_pairs barrier subject cuts z) cuts (block_exits barrier y) (block_exits barrier z) (block_passes barrier y) (block_passes barrier z) path bs (block_forward y cuts hs path m.1 (inl (h.0, from_premise label.Test n (formula_of p test.kind) (before_block p part t y path) f)))
            | inr f ↦ second_forward B C (block_pairs barrier subject cuts y) (block_pairs barrier subject cuts z) cuts (block_exits barrier y) (block_exits barrier z) (block_passes barrier y) (block_passes barrier z) path bs (block_forward z cuts hs path m.2 (inl (h.0, from_premise label.Denied n (Not (formula_of p test.kind)) (before_block p part t z path) f)))
          ]
        ]
    stmt_forward n (If' test i y j z) cuts hs path bs m (inr h) =
        let B = barrier_pairs barrier (come_behind barrier cuts n (If' test i y j z)) n in
        let C = cond_pairs subject cuts test.kind in
        elim (both_listed bs (block_conditions p q part t hs y path ++ block_conditions p q part t hs z path) h) [
          | inl g ↦ inr g
          | inr g ↦ elim (both_listed (block_conditions p q part t hs y path) (block_conditions p q part t hs z path) g) [
            | inl f ↦ first_forward B C (block_pairs barrier subject cuts y) (block_pairs barrier subject cuts z) cuts (block_exits barrier y) (block_exits barrier z) (block_passes barrier y) (block_passes barrier z) path bs (block_forward y cuts hs path m.1 (inr f))
            | inr f ↦ second_forward B C (block_pairs barrier subject cuts y) (block_pairs barrier subject cuts z) cuts (block_exits barrier y) (block_exits barrier z) (block_passes barrier y) (block_passes barrier z) path bs (block_forward z cuts hs path m.2 (inr f))
          ]
        ]
    stmt_forward n (For' x lo hi i body) cuts hs path bs m (inl h) =
        let L = behind_block barrier (Head n ∷ []) body in
        let X = expr_pairs subject cuts lo.node lo.kind in
        let Y = expr_pairs subject cuts hi.node hi.kind in
        let Z = block_pairs barrier subject (Head n ∷ []) body in
        elim (from_both (ends_goal p part t lo hi) (for_entry p part t n x lo) h.1) [
          | inr j ↦ inl (inl (entered n cuts L (X ++ (Y ++ Z)) h.0 (from_goal (is_entry t n) _ j)))
          | inl j ↦ elim (sites_split part.need subject c t (expr_sites p lo.node.id lo.kind) (expr_sites p hi.node.id hi.kind) j) [
            | inl g ↦ inl (inl (paired_right (loop_pairs barrier cuts n L) (X ++ (Y ++ Z)) (paired_left X (Y ++ Z) (expr_forward lo.node lo.kind cuts m.0 h.0 g))))
            | inr g ↦ inl (inl (paired_right (loop_pairs barrier cuts n L) (X ++ (Y ++ Z)) (paired_right X (Y ++ Z) (paired_left Y Z (expr_forward hi.node hi.kind cuts m.1 h.0 g)))))
          ]
        ]
    stmt_forward n (For' x lo hi i body) cuts hs path bs m (inr h) =
        let kept = for_keep p part t n x in
        let L = behind_block barrier (Head n ∷ []) body in
        let X = expr_pairs subject cuts lo.node lo.kind in
        let Y = expr_pairs subject cuts hi.node hi.kind in
        let Z = block_pairs barrier subject (Head n ∷ []) body in
        elim (both_listed (condition p q part t (Head n) _ (for_head p part t n x hi body)) _ h) [
          | inl g ↦ (let f = from_condition (Head n) _ (for_head p part t n x hi body) g in
              turn_forward n cuts L (X ++ (Y ++ Z)) Z kept path bs (came_back n _) (λ g. paired_right X (Y ++ Z) (paired_right Y Z g)) (come_behind barrier cuts n (For' x lo hi i body)) (block_forward body (Head n ∷ []) (hs ++ in_body p part n x lo hi ∷ []) kept m.2 (inl (inl f.0, from_premise label.Test n _ (before_block p part t body kept) f.1))))
          | inr g ↦ elim (both_listed (condition p q part t (Exit n) _ path) _ g) [
            | inl f ↦ (let e = from_condition (Exit n) _ path f in inl (inr (inl e.0, e.1)))
            | inr f ↦ elim (both_listed bs (block_conditions p q part t (hs ++ in_body p part n x lo hi ∷ []) body kept) f) [
              | inl e ↦ inr e
              | inr e ↦ turn_forward n cuts L (X ++ (Y ++ Z)) Z kept path bs (came_back n _) (λ g. paired_right X (Y ++ Z) (paired_right Y Z g)) (come_behind barrier cuts n (For' x lo hi i body)) (block_forward body (Head n ∷ []) (hs ++ in_body p part n x lo hi ∷ []) kept m.2 (inr e))
            ]
          ]
        ]
    stmt_forward n (While' test i body) cuts hs path bs m (inl h) =
        inl (inl (entered n cuts (behind_block barrier (Head n ∷ []) body) (cond_pairs subject (Head n ∷ []) test.kind ++ block_pairs barrier subject (Head n ∷ []) body) h.0 (from_goal (is_entry t n) _ h.1)))
    stmt_forward n (While' test i body) cuts hs path bs m (inr h) =
        let kept = while_keep p part t n in
        let L = behind_block barrier (Head n ∷ []) body in
        let C = cond_pairs subject (Head n ∷ []) test.kind in
        let Z = block_pairs barrier subject (Head n ∷ []) body in
        elim (both_listed (condition p q part t (Head n) _ (while_head p part t n test body)) _ h) [
          | inl g ↦ (let f = from_condition (Head n) _ (while_head p part t n test body) g in
              elim (from_both (cond_goal part.need t p test.kind) (under label.Test n (formula_of p test.kind) (before_block p part t body kept)) f.1) [
                | inl e ↦ inl (inl (paired_right (loop_pairs barrier cuts n L) (C ++ Z) (paired_left C Z (cond_forward test.kind (Head n ∷ []) m.0 (inl f.0) e))))
                | inr e ↦ turn_forward n cuts L (C ++ Z) Z kept path bs (came_back n _) (λ g. paired_right C Z g) (come_behind barrier cuts n (While' test i body)) (block_forward body (Head n ∷ []) hs kept m.1 (inl (inl f.0, from_premise label.Test n (formula_of p test.kind) (before_block p part t body kept) e)))
              ])
          | inr g ↦ elim (both_listed (condition p q part t (Exit n) _ path) _ g) [
            | inl f ↦ (let e = from_condition (Exit n) _ path f in inl (inr (inl e.0, e.1)))
            | inr f ↦ elim (both_listed bs (block_conditions p q part t hs body kept) f) [
              | inl e ↦ inr e
              | inr e ↦ turn_forward n cuts L (C ++ Z) Z kept path bs (came_back n _) (λ g. paired_right C Z g) (come_behind barrier cuts n (While' test i body)) (block_forward body (Head n ∷ []) hs kept m.1 (inr e))
            ]
          ]
        ]
    stmt_forward n (Set x e) cuts hs path bs m (inr h) = inr h
    stmt_forward n (Put x at e) cuts hs path bs m (inr h) = inr h
    stmt_forward n (Hand x role) cuts hs path bs m (inr h) = inr h
    stmt_forward n Skip cuts hs path bs m (inr h) = inr h

    block_forward : {a : _} (row : Row_of-Stmt a) (cuts : List Cut) (hs : List Formula) (path : Option Formula) → BlockMarked p part.need subject row →
        Aims cuts (before_block p part t row path) (block_conditions p q part t hs row path) → Goes (block_pairs barrier subject cuts row) (behind_block barrier cuts row) path
    block_forward end_of-Stmt cuts hs path m (inl h) = inr (in-left cuts [] c h.0, h.1)
    block_forward end_of-Stmt cuts hs path m (inr h) = absurd h
    block_forward (more_of-Stmt n st rest) cuts hs path m (inl h) =
        let R = before_block p part t rest path in
        rest_forward n st rest cuts path (λ g. block_forward rest (onward barrier cuts n.id st) hs path m.1 (inl g)) (past_forward n.id st cuts hs (part.behind n.id) R (barriers n.id)
        (stmt_forward n.id st cuts hs (past_barrier t n.id (part.behind n.id) R) (barrier_condition p q part t n.id hs (part.behind n.id) R) m.0 (inl h)))
    block_forward (more_of-Stmt n st rest) cuts hs path m (inr h) =
        let R = before_block p part t rest path in
        elim (both_listed (conditions p q part t hs n.id st (past_barrier t n.id (part.behind n.id) R) (barrier_condition p q part t n.id hs (part.behind n.id) R)) (block_conditions p q part t hs rest path) h) [
          | inl g ↦ rest_forward n st rest cuts path (λ g. block_forward rest (onward barrier cuts n.id st) hs path m.1 (inl g)) (past_forward n.id st cuts hs (part.behind n.id) R (barriers n.id)
              (stmt_forward n.id st cuts hs (past_barrier t n.id (part.behind n.id) R) (barrier_condition p q part t n.id hs (part.behind n.id) R) m.0 (inr g)))
          | inr g ↦ more_forward n st rest cuts path (block_forward rest (onward barrier cuts n.id st) hs path m.1 (inr g))
        ]

  -- pairs to conditions

  -- the condition of a barrier stands among those of its statement
  barrier_listed : (n : NodeId) (k : StmtKind) (hs : List Formula) (path : Option Formula) (bs : List Condition) → Listed bs → Listed (conditions p q part t hs n k path bs)
  barrier_listed n (Set x e) hs path bs h = h
  barrier_listed n (Put x at e) hs path bs h = h
  barrier_listed n (If' test i y j z) hs path bs h = listed_left bs _ h
  barrier_listed n (For' x lo hi i body) hs path bs h = listed_right (condition p q part t (Head n) _ (for_head p part t n x hi body)) _ (listed_right (condition p q part t (Exit n) _ path) _ (listed_left bs _ h))
  barrier_listed n (While' test i body) hs path bs h = listed_right (condition p q part t (Head n) _ (while_head p part t n test body)) _ (listed_right (condition p q part t (Exit n) _ path) _ (listed_left bs _ h))
  barrier_listed n (Hand x role) hs path bs h = h
  barrier_listed n Skip hs path bs h = h

  barred_back : (n : NodeId) (k : StmtKind) (cuts : List Cut) (hs facts : List Formula) (path : Option Formula) → barrier n.0 ≡ is_any facts →
      (Paired (stmt_pairs barrier subject cuts n k) → Aims cuts (before p part t n k (past_barrier t n facts path)) (conditions p q part t hs n k (past_barrier t n facts path) (barrier_condition p q part t n hs facts path)) ⊎ Barred n k cuts) →
      (Has (come_behind barrier cuts n k) → IsThere (past_barrier t n facts path) → Aims cuts (before p part t n k (past_barrier t n facts path)) (conditions p q part t hs n k (past_barrier t n facts path) (barrier_condition p q part t n hs facts path))) →
      Goes (stmt_pairs barrier subject cuts n k) (onward barrier cuts n k) path →
      Aims cuts (before p part t n k (past_barrier t n facts path)) (conditions p q part t hs n k (past_barrier t n facts path) (barrier_condition p q part t n hs facts path))
  barred_back n k cuts hs facts path e f g (inl h) = elim (f h) [ inl i ↦ i | inr i ↦ g i.2 (barred_there n facts path e i.0 i.1) ]
  barred_back n k cuts hs facts path e f g (inr h) = elim (past_back n k cuts hs facts path e h.0 h.1) [
    | inl i ↦ g i.0 i.1
    | inr i ↦ inr (barrier_listed n k hs (past_barrier t n facts path) (barrier_condition p q part t n hs facts path) i)
  ]

  -- a statement and the rest behind it
  front_back : (path : Option Formula) (front rest : List Condition) (cuts : List Cut) → Aims cuts path front → Aims cuts path (front ++ rest)
  front_back path front rest cuts (inl h) = inl h
  front_back path front rest cuts (inr h) = inr (listed_left front rest h)

  rest_back : (path : Option Formula) (front rest : List Condition) (cuts on : List Cut) (behind : Option Formula) → (Has on × IsThere behind → Aims cuts path front) → Aims on behind rest → Aims cuts path (front ++ rest)
  rest_back path front rest cuts on behind f (inl h) = front_back path front rest cuts (f h)
  rest_back path front rest cuts on behind f (inr h) = inr (listed_right front rest h)

  -- the body of a loop
  loop_body : {a : _} (n : NodeId) (body : Row_of-Stmt a) (head kept : Option Formula) (first inside : List Formula) (exit bs : List Condition) → (IsThere (before_block p part t body kept) → IsThere head) →
      Aims (Head n ∷ []) (before_block p part t body kept) (block_conditions p q part t inside body kept) → Listed (condition p q part t (Head n) first head ++ (exit ++ (bs ++ block_conditions p q part t inside body kept)))
  loop_body n body head kept first inside exit bs into (inl h) = elim h.0 [
    | inl e ↦ listed_left (condition p q part t (Head n) first head) _ (to_condition (Head n) first head e (into h.1))
    | inr e ↦ absurd e
  ]
  loop_body n body head kept first inside exit bs into (inr h) = listed_right (condition p q part t (Head n) first head) _ (listed_right exit _ (listed_right bs (block_conditions p q part t inside body kept) h))

  -- the parts of an `if`
  yes_back : (goal : Option Formula) (n : NodeId) (f g : Formula) (Y Z : Option Formula) (ys zs bs : List Condition) (cuts : List Cut) → Aims cuts Y ys → Aims cuts (conjoined goal (conjoined (under label.Test n f Y) (under label.Denied n g Z))) (bs ++ (ys ++ zs))
  yes_back goal n f g Y Z ys zs bs cuts (inl h) = inl (h.0, to_second goal (conjoined (under label.Test n f Y) (under label.Denied n g Z)) (to_first (under label.Test n f Y) (under label.Denied n g Z) (to_premise label.Test n f Y h.1)))
  yes_back goal n f g Y Z ys zs bs cuts (inr h) = inr (listed_right bs (ys ++ zs) (listed_left ys zs h))

  no_back : (goal : Option Formula) (n : NodeId) (f g : Formula) (Y Z : Option Formula) (ys zs bs : List Condition) (cuts : List Cut) → Aims cuts Z zs → Aims cuts (conjoined goal (conjoined (under label.Test n f Y) (under label.Denied n g Z))) (bs ++ (ys ++ zs))
  no_back goal n f g Y Z ys zs bs cuts (inl h) = inl (h.0, to_second goal (conjoined (under label.Test n f Y) (under label.Denied n g Z)) (to_second (under label.Test n f Y) (under label.Denied n g Z) (to_premise label.Denied n g Z h.1)))
  no_back goal n f g Y Z ys zs bs cuts (inr h) = inr (listed_right bs (ys ++ zs) (listed_right ys zs h))

  exit_listed : (n : NodeId) (head exit : List Condition) (hs : List Formula) (path : Option Formula) (more : List Condition) → Has (Exit n ∷ []) → IsThere path → Listed (head ++ (condition p q part t (Exit n) hs path ++ more))
  exit_listed n head exit hs path more h j = elim h [ inl e ↦ listed_right head _ (listed_left (condition p q part t (Exit n) hs path) more (to_condition (Exit n) hs path e j)) | inr e ↦ absurd e ]

  mutual
    -- a pair of a statement
    stmt_back : (n : NodeId) (k : StmtKind) (cuts : List Cut) (hs : List Formula) (path : Option Formula) (bs : List Condition) → StmtMarked p part.need subject n k → Paired (stmt_pairs barrier subject cuts n k) →
        Aims cuts (before p part t n k path) (conditions p q part t hs n k path bs) ⊎ Barred n k cuts
    stmt_back n (Set x e) cuts hs path bs m h =
        let E = expr_pairs subject cuts e.node e.kind in
        let S = site_pairs subject cuts n in
        let s = scalar_write n x in
        let es = expr_sites p e.node.id e.kind in
        let after = before_changes n (scalar_changes p part n x (term_of p e.kind)) path in
        elim (both_paired (barrier_pairs barrier cuts n) (S ++ E) h) [
          | inl j ↦ (let g = from_barrier barrier c t n cuts j in inr (g.0, g.1, in-left cuts [] c g.2))
          | inr j ↦ elim (both_paired S E j) [
            | inl i ↦ (let g = site_back part.need subject c t s cuts m.0 i in inl (inl (g.0, to_first (set_goal p part t n x e) after (to_first (site_goal part.need t s) (sites_goal part.need t es) g.1))))
            | inr i ↦ (let g = expr_back e.node e.kind cuts m.1 i in inl (inl (g.0, to_first (set_goal p part t n x e) after (to_second (site_goal part.need t s) (sites_goal part.need t es) g.1))))
          ]
        ]
    stmt_back n (Put x at e) cuts hs path bs m h =
        let E = expr_pairs subject cuts e.node e.kind in
        let I = index_pairs subject cuts at in
        let S = site_pairs subject cuts n in
        let s = element_write p n x at in
        let es = expr_sites p e.node.id e.kind in
        let is = index_sites p at in
        let after = before_changes n (element_changes p part n x at (term_of p e.kind)) path in
        elim (both_paired (barrier_pairs barrier cuts n) (S ++ (I ++ E)) h) [
          | inl j ↦ (let g = from_barrier barrier c t n cuts j in inr (g.0, g.1, in-left cuts [] c g.2))
          | inr j ↦ elim (both_paired S (I ++ E) j) [
            | inl i ↦ (let g = site_back part.need subject c t s cuts m.0 i in inl (inl (g.0, to_first (put_goal p part t n x at e) after (to_first (site_goal part.need t s) (sites_goal part.need t (is ++ es)) g.1))))
            | inr i ↦ (let g = two_back cuts is es I E (λ f. index_back at cuts m.1 f) (λ f. expr_back e.node e.kind cuts m.2 f) i in
                inl (inl (g.0, to_first (put_goal p part t n x at e) after (to_second (site_goal part.need t s) (sites_goal part.need t (is ++ es)) g.1))))
          ]
        ]
    stmt_back n (Hand x role) cuts hs path bs m h =
        let s = role_use p n x role in
        elim (both_paired (barrier_pairs barrier cuts n) (site_pairs subject cuts n) h) [
          | inl j ↦ (let g = from_barrier barrier c t n cuts j in inr (g.0, g.1, in-left cuts [] c g.2))
          | inr j ↦ (let g = site_back part.need subject c t s cuts m j in inl (inl (g.0, to_first (site_goal part.need t s) path g.1)))
        ]
    stmt_back n Skip cuts hs path bs m h = let g = from_barrier barrier c t n cuts h in inr (g.0, g.1, in-left cuts [] c g.2)
    stmt_back n (If' test i y j z) cuts hs path bs m h =
        let F = come_behind barrier cuts n (If' test i y j z) in
        let C = cond_pairs subject cuts test.kind in
        let Y = block_pairs barrier subject cuts y in
        let Z = block_pairs barrier subject cuts z in
        let parts = conjoined (under label.Test n (formula_of p test.kind) (before_block p part t y path)) (under label.Denied n (Not (formula_of p test.kind)) (before_block p part t z path)) in
        elim (both_paired (barrier_pairs barrier F n) (C ++ (Y ++ Z)) h) [
          | inl g ↦ inr (from_barrier barrier c t n F g)
          | inr g ↦ elim (both_paired C (Y ++ Z) g) [
            | inl f ↦ (let e = cond_back test.kind cuts m.0 f in inl (inl (e.0, to_first (cond_goal part.need t p test.kind) parts e.1)))
            | inr f ↦ elim (both_paired Y Z f) [
              | inl e ↦ inl (yes_back (cond_goal part.need t p test.kind) n (formula_of p test.kind) (Not (formula_of p test.kind)) (before_block p part t y path) (before_block p part t z path) (block_conditions p q part t hs y path) (block_conditions p q part t hs z path) bs cuts (block_back y cuts hs path m.1 (inl e)))
              | inr e ↦ inl (no_back (cond_goal part.need t p test.kind) n (formula_of p test.kind) (Not (formula_of p test.kind)) (before_block p part t y path) (before_block p part t z path) (block_conditions p q part t hs y path) (block_conditions p q part t hs z path) bs cuts (block_back z cuts hs path m.2 (inl e)))
            ]
          ]
        ]
    stmt_back n (For' x lo hi i body) cuts hs path bs m h =
        let L = behind_block barrier (Head n ∷ []) body in
        let X = expr_pairs subject cuts lo.node lo.kind in
        let Y = expr_pairs subject cuts hi.node hi.kind in
        let Z = block_pairs barrier subject (Head n ∷ []) body in
        let los = expr_sites p lo.node.id lo.kind in
        let his = expr_sites p hi.node.id hi.kind in
        let kept = for_keep p part t n x in
        let hs2 = hs ++ in_body p part n x lo hi ∷ [] in
        let first = hs ++ (at_for_test p part n x lo ∷ invariants p part n) in
        let exit = condition p q part t (Exit n) (hs ++ (at_for_exit p part n x lo hi ∷ invariants p part n)) path in
        elim (loop_parts n cuts L (X ++ (Y ++ Z)) h) [
          | inl g ↦ inl (inl (g.0, to_second (ends_goal p part t lo hi) (for_entry p part t n x lo) (to_goal (is_entry t n) _ (entry_is n g.1))))
          | inr g ↦ elim g [
            | inl f ↦ inl (inr (loop_body n body (for_head p part t n x hi body) kept first hs2 exit bs (λ z. to_premise label.Test n _ (before_block p part t body kept) z) (block_back body (Head n ∷ []) hs2 kept m.2 (inr (f.0, to_goal (is_keep t n) _ (keep_is n f.1))))))
            | inr f ↦ elim f [
              | inl e ↦ inr (from_barrier barrier c t n (Exit n ∷ []) e)
              | inr e ↦ elim (both_paired X (Y ++ Z) e) [
                | inl d ↦ (let a = expr_back lo.node lo.kind cuts m.0 d in inl (inl (a.0, to_first (ends_goal p part t lo hi) (for_entry p part t n x lo) (sites_left part.need subject c t los his a.1))))
                | inr d ↦ elim (both_paired Y Z d) [
                  | inl b ↦ (let a = expr_back hi.node hi.kind cuts m.1 b in inl (inl (a.0, to_first (ends_goal p part t lo hi) (for_entry p part t n x lo) (sites_right part.need subject c t los his a.1))))
                  | inr b ↦ inl (inr (loop_body n body (for_head p part t n x hi body) kept first hs2 exit bs (λ z. to_premise label.Test n _ (before_block p part t body kept) z) (block_back body (Head n ∷ []) hs2 kept m.2 (inl b))))
                ]
              ]
            ]
          ]
        ]
    stmt_back n (While' test i body) cuts hs path bs m h =
        let L = behind_block barrier (Head n ∷ []) body in
        let C = cond_pairs subject (Head n ∷ []) test.kind in
        let Z = block_pairs barrier subject (Head n ∷ []) body in
        let kept = while_keep p part t n in
        let turn = under label.Test n (formula_of p test.kind) (before_block p part t body kept) in
        let first = hs ++ invariants p part n in
        let exit = condition p q part t (Exit n) (hs ++ (at_while_exit p part n test ∷ invariants p part n)) path in
        elim (loop_parts n cuts L (C ++ Z) h) [
          | inl g ↦ inl (inl (g.0, to_goal (is_entry t n) _ (entry_is n g.1)))
          | inr g ↦ elim g [
            | inl f ↦ inl (inr (loop_body n body (while_head p part t n test body) kept first hs exit bs (λ z. to_second (cond_goal part.need t p test.kind) turn (to_premise label.Test n (formula_of p test.kind) (before_block p part t body kept) z)) (block_back body (Head n ∷ []) hs kept m.1 (inr (f.0, to_goal (is_keep t n) _ (keep_is n f.1))))))
            | inr f ↦ elim f [
              | inl e ↦ inr (from_barrier barrier c t n (Exit n ∷ []) e)
              | inr e ↦ elim (both_paired C Z e) [
                | inl d ↦ (let a = cond_back test.kind (Head n ∷ []) m.0 d in
                    elim a.0 [
                      | inl b ↦ inl (inr (listed_left (condition p q part t (Head n) _ (while_head p part t n test body)) _ (to_condition (Head n) _ (while_head p part t n test body) b (to_first (cond_goal part.need t p test.kind) turn a.1))))
                      | inr b ↦ absurd b
                    ])
                | inr d ↦ inl (inr (loop_body n body (while_head p part t n test body) kept first hs exit bs (λ z. to_second (cond_goal part.need t p test.kind) turn (to_premise label.Test n (formula_of p test.kind) (before_block p part t body kept) z)) (block_back body (Head n ∷ []) hs kept m.1 (inl d))))
              ]
            ]
          ]
        ]

    -- a path that goes on behind a statement
    stmt_on : (n : NodeId) (k : StmtKind) (cuts : List Cut) (hs : List Formula) (path : Option Formula) (bs : List Condition) → StmtMarked p part.need subject n k → Has (come_behind barrier cuts n k) → IsThere path →
        Aims cuts (before p part t n k path) (conditions p q part t hs n k path bs)
    stmt_on n (Set x e) cuts hs path bs m h j = inl (no_more cuts h, to_second (set_goal p part t n x e) (before_changes n (scalar_changes p part n x (term_of p e.kind)) path) (to_change n (scalar_changes p part n x (term_of p e.kind)) path j))
    stmt_on n (Put x at e) cuts hs path bs m h j = inl (no_more cuts h, to_second (put_goal p part t n x at e) (before_changes n (element_changes p part n x at (term_of p e.kind)) path) (to_change n (element_changes p part n x at (term_of p e.kind)) path j))
    stmt_on n (Hand x role) cuts hs path bs m h j = inl (no_more cuts h, to_second (site_goal part.need t (role_use p n x role)) path j)
    stmt_on n Skip cuts hs path bs m h j = inl (no_more cuts h, j)
    stmt_on n (If' test i y k z) cuts hs path bs m h j =
        elim (one_part c cuts (block_exits barrier y) (block_exits barrier z) (block_passes barrier y) (block_passes barrier z) h) [
          | inl g ↦ yes_back (cond_goal part.need t p test.kind) n (formula_of p test.kind) (Not (formula_of p test.kind)) (before_block p part t y path) (before_block p part t z path) (block_conditions p q part t hs y path) (block_conditions p q part t hs z path) bs cuts (block_back y cuts hs path m.1 (inr (g, j)))
          | inr g ↦ no_back (cond_goal part.need t p test.kind) n (formula_of p test.kind) (Not (formula_of p test.kind)) (before_block p part t y path) (before_block p part t z path) (block_conditions p q part t hs y path) (block_conditions p q part t hs z path) bs cuts (block_back z cuts hs path m.2 (inr (g, j)))
        ]
    stmt_on n (For' x lo hi i body) cuts hs path bs m h j = inr (exit_listed n (condition p q part t (Head n) _ (for_head p part t n x hi body)) [] _ path _ h j)
    stmt_on n (While' test i body) cuts hs path bs m h j = inr (exit_listed n (condition p q part t (Head n) _ (while_head p part t n test body)) [] _ path _ h j)

    block_back : {a : _} (row : Row_of-Stmt a) (cuts : List Cut) (hs : List Formula) (path : Option Formula) → BlockMarked p part.need subject row →
        Goes (block_pairs barrier subject cuts row) (behind_block barrier cuts row) path → Aims cuts (before_block p part t row path) (block_conditions p q part t hs row path)
    block_back end_of-Stmt cuts hs path m (inl h) = absurd h
    block_back end_of-Stmt cuts hs path m (inr h) = inl (no_more cuts h.0, h.1)
    block_back (more_of-Stmt n st rest) cuts hs path m (inl h) =
        let R = before_block p part t rest path in
        let pb = past_barrier t n.id (part.behind n.id) R in
        let bs = barrier_condition p q part t n.id hs (part.behind n.id) R in
        let here = barred_back n.id st cuts hs (part.behind n.id) R (barriers n.id) (λ g. stmt_back n.id st cuts hs pb bs m.0 g) (λ g i. stmt_on n.id st cuts hs pb bs m.0 g i) in
        elim (both_paired (stmt_pairs barrier subject cuts n.id st) (block_pairs barrier subject (onward barrier cuts n.id st) rest) h) [
          | inl g ↦ front_back (before p part t n.id st pb) (conditions p q part t hs n.id st pb bs) (block_conditions p q part t hs rest path) cuts (here (inl g))
          | inr g ↦ rest_back (before p part t n.id st pb) (conditions p q part t hs n.id st pb bs) (block_conditions p q part t hs rest path) cuts (onward barrier cuts n.id st) R (λ i. here (inr i)) (block_back rest (onward barrier cuts n.id st) hs path m.1 (inl g))
        ]
    block_back (more_of-Stmt n st rest) cuts hs path m (inr h) =
        let R = before_block p part t rest path in
        let pb = past_barrier t n.id (part.behind n.id) R in
        let bs = barrier_condition p q part t n.id hs (part.behind n.id) R in
        let here = barred_back n.id st cuts hs (part.behind n.id) R (barriers n.id) (λ g. stmt_back n.id st cuts hs pb bs m.0 g) (λ g i. stmt_on n.id st cuts hs pb bs m.0 g i) in
        let on = back_through c cuts (if barrier n.id.0 then After n.id ∷ [] else exits barrier n.id st) (block_exits barrier rest) (not (barrier n.id.0) && passes barrier st) (block_passes barrier rest) h.0 in
        rest_back (before p part t n.id st pb) (conditions p q part t hs n.id st pb bs) (block_conditions p q part t hs rest path) cuts (onward barrier cuts n.id st) R (λ i. here (inr i)) (block_back rest (onward barrier cuts n.id st) hs path m.1 (inr (on, h.1)))

  -- the body of a program, at whose end no path goes on
  ahead : (P Q : List Pair) (on : List Cut) (path : Option Formula) → (Has on × IsThere path → Paired Q) → Goes P on path → Paired (P ++ Q)
  ahead P Q on path f (inl h) = paired_left P Q h
  ahead P Q on path f (inr h) = paired_right P Q (f h)

  list_forward : (sts : List Stmt) (cuts : List Cut) (hs : List Formula) → ListMarked p part.need subject sts → Aims cuts (before_list p part t sts None) (list_conditions p q part t hs sts None) → Paired (list_pairs barrier subject cuts sts)
  list_forward [] cuts hs m (inl h) = absurd h.1
  list_forward [] cuts hs m (inr h) = absurd h
  list_forward (st ∷ sts) cuts hs m (inl h) =
      let n = st.node.id in
      let R = before_list p part t sts None in
      let pb = past_barrier t n (part.behind n) R in
      let bs = barrier_condition p q part t n hs (part.behind n) R in
      let on = onward barrier cuts n st.kind in
      ahead (stmt_pairs barrier subject cuts n st.kind) (list_pairs barrier subject on sts) on R (λ i. list_forward sts on hs m.1 (inl i)) (past_forward n st.kind cuts hs (part.behind n) R (barriers n) (stmt_forward n st.kind cuts hs pb bs m.0 (inl h)))
  list_forward (st ∷ sts) cuts hs m (inr h) =
      let n = st.node.id in
      let R = before_list p part t sts None in
      let pb = past_barrier t n (part.behind n) R in
      let bs = barrier_condition p q part t n hs (part.behind n) R in
      let on = onward barrier cuts n st.kind in
      let P = stmt_pairs barrier subject cuts n st.kind in
      let Q = list_pairs barrier subject on sts in
      elim (both_listed (conditions p q part t hs n st.kind pb bs) (list_conditions p q part t hs sts None) h) [
        | inl g ↦ ahead P Q on R (λ i. list_forward sts on hs m.1 (inl i)) (past_forward n st.kind cuts hs (part.behind n) R (barriers n) (stmt_forward n st.kind cuts hs pb bs m.0 (inr g)))
        | inr g ↦ paired_right P Q (list_forward sts on hs m.1 (inr g))
      ]

  list_back : (sts : List Stmt) (cuts : List Cut) (hs : List Formula) → ListMarked p part.need subject sts → Paired (list_pairs barrier subject cuts sts) → Aims cuts (before_list p part t sts None) (list_conditions p q part t hs sts None)
  list_back [] cuts hs m h = absurd h
  list_back (st ∷ sts) cuts hs m h =
      let n = st.node.id in
      let R = before_list p part t sts None in
      let pb = past_barrier t n (part.behind n) R in
      let bs = barrier_condition p q part t n hs (part.behind n) R in
      let here = barred_back n st.kind cuts hs (part.behind n) R (barriers n) (λ g. stmt_back n st.kind cuts hs pb bs m.0 g) (λ g i. stmt_on n st.kind cuts hs pb bs m.0 g i) in
      elim (both_paired (stmt_pairs barrier subject cuts n st.kind) (list_pairs barrier subject (onward barrier cuts n st.kind) sts) h) [
        | inl g ↦ front_back (before p part t n st.kind pb) (conditions p q part t hs n st.kind pb bs) (list_conditions p q part t hs sts None) cuts (here (inl g))
        | inr g ↦ rest_back (before p part t n st.kind pb) (conditions p q part t hs n st.kind pb bs) (list_conditions p q part t hs sts None) cuts (onward barrier cuts n st.kind) R (λ i. here (inr i)) (list_back sts (onward barrier cuts n st.kind) hs m.1 g)
      ]

  pub pairs_forward : AreMarked p part.need subject → IsListed (pairs_in (conditions_at p q part t)) (record { cut = c; target = t }) → IsListed (list_pairs barrier subject (Start ∷ []) p.body) (record { cut = c; target = t })
  pairs_forward m h = elim (both_listed (condition p q part t Start (ranges p p.items) (before_list p part t p.body None)) (list_conditions p q part t (ranges p p.items) p.body None) h) [
    | inl g ↦ (let f = from_condition Start _ (before_list p part t p.body None) g in list_forward p.body (Start ∷ []) (ranges p p.items) m (inl (inl f.0, f.1)))
    | inr g ↦ list_forward p.body (Start ∷ []) (ranges p p.items) m (inr g)
  ]

  pub pairs_back : AreMarked p part.need subject → IsListed (list_pairs barrier subject (Start ∷ []) p.body) (record { cut = c; target = t }) → IsListed (pairs_in (conditions_at p q part t)) (record { cut = c; target = t })
  pairs_back m h =
      let first = condition p q part t Start (ranges p p.items) (before_list p part t p.body None) in
      let more = list_conditions p q part t (ranges p p.items) p.body None in
      elim (list_back p.body (Start ∷ []) (ranges p p.items) m h) [
        | inl g ↦ elim g.0 [ inl e ↦ listed_left first more (to_condition Start _ (before_list p part t p.body None) e g.1) | inr e ↦ absurd e ]
        | inr g ↦ listed_right first more g
      ]
