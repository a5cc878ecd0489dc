-- A walk names exactly what is visited.
use Rattle.std.proofs.Common.{◌≡◌, ℕ, Bool, true, false, if◌then◌else◌, List, [], ◌∷◌, ◌++◌, map, Option, Some, None, refl, sym, ◌∙◌, ap, subst, append-nil, eqb-true, nat_eq}
use Rattle.std.specs.List.{list_any}
use mathlib.Core.Logic.{◌⊎◌, inl, inr}
use Rattle.ac_tree.specs.declared.node.NodeId.{NodeId}
use Rattle.ac_tree.specs.declared.path.Cut.{Cut}
use Rattle.ac_tree.specs.declared.path.Cut.TheVariants as cut
use Rattle.ac_tree.specs.declared.path.Target.{Target}
use Rattle.ac_tree.specs.declared.path.Target.TheVariants.{Entry, Keep, Barrier, Site}
use Rattle.ac_tree.specs.declared.program.Cond.{Cond}
use Rattle.ac_tree.specs.declared.program.Item.{Item}
use Rattle.ac_tree.specs.declared.program.Program.{Program}
use Rattle.ac_tree.specs.declared.program.Stmt.{Stmt}
use Rattle.ac_tree.specs.declared.program.StmtKind.{For', While'}
use Rattle.ac_tree.specs.Preorder.{IsNumbered, inside_expr, inside_cond, inside_stmt, nodes_of_row, nodes_of_list}
use Rattle.ac_flow.specs.Cuts.{has_barrier}
use Rattle.ac_flow.specs.Leads.{leads_on}
use Rattle.ac_flow.specs.Listed.{IsListed}
use Rattle.ac_flow.specs.Pairs.{is_node}
use Rattle.ac_flow.specs.Paths.{IsPointOf, LeadsTo, Reaches}
use Rattle.ac_flow.specs.Points.{Do, Behind, Enter, Test, Turn, Exit, Judge, Decide, See, Begin, Point, block, cut_at}
use Rattle.ac_flow.proofs.LeadsHold.{path_leads}
use Rattle.ac_flow.proofs.Within.{none-some, some-same}
use Rattle.ac_visits.specs.Visits.{Has, HasInside, BelongsTo, EntersAt, IsAccessOf, LeadsBy, IsVisited, input, around, own, on_path, site, aim}
use Rattle.ac_walk.specs.Walks.{target_node, is_for, is_in_cond, lefts, list_entered, block_entered, list_from, path_nodes, is_input, inputs, with_node, walk_of}
use Rattle.ac_visits.proofs.OnPaths.{either_passes}
use Rattle.ac_visits.proofs.SiteStatement.{site_entered}
use Rattle.ac_visits.proofs.Order.{Rises, listed_left, listed_right, rises_left, rises_right, stands_rise, inner_rises, program_rises}
use Rattle.ac_visits.proofs.Standing.{whole, follows, Leaves, leaves_off, Loops, a_for, a_while, point_lies}
use Rattle.ac_visits.proofs.Entered.{Disjoint, point_nodes, block_nodes, not_own, never_both, unless_in, Comes, after_step, beyond, behind_in, turn_in, test_in, block_in, list_in}
use Rattle.ac_visits.proofs.Covered.{Place, list_stands, not_false, to_nothing, to_exit, behind_rest, after_in, own_named, own_goes, around_named}

only : (u q : Point) → (u ≡ q) ⊎ ⊥ → u ≡ q
only u q (inl h) = h
only u q (inr h) = absurd h

-- a body is none of what is left at the end of its turn
turn_apart : (n : NodeId) (xs ys : List NodeId) → Rises 0 (n ∷ xs) → ((x : NodeId) → IsListed ys x → IsListed xs x) → Disjoint ys (n ∷ [])
turn_apart n xs ys r f x i (inl e) = not_own n x xs r.1 (f x i) e
turn_apart n xs ys r f x i (inr j) = j

module _ (p : Program) (rises : Rises 0 (nodes_of_list p.body)) (barrier : ℕ → Bool) (t : Target) where
  -- by the number of the cut's statement
  of_own : (c : Cut) (s : Stmt) (m : NodeId) → BelongsTo c s.node.id → IsListed (list_from barrier t c s.node.id p.body) m → IsListed (path_nodes barrier t c p.body) m
  of_own cut.Start s m b h = absurd b
  of_own (cut.Head n) s m b h = subst (λ (k : NodeId). IsListed (list_from barrier t (cut.Head n) k p.body) m) b h
  of_own (cut.Exit n) s m b h = subst (λ (k : NodeId). IsListed (list_from barrier t (cut.Exit n) k p.body) m) b h
  of_own (cut.After n) s m b h = subst (λ (k : NodeId). IsListed (list_from barrier t (cut.After n) k p.body) m) b h

  -- what control enters on its way from a cut

  module _ (via : Point) (m : NodeId) (enters : EntersAt via m) (leading : leads_on barrier t via ≡ true) where
    abbrev To : Point → Type 0
    To q = Comes barrier t via m enters leading q

    moved : (u q : Point) → u ≡ q → (via ≡ u) ⊎ ((cut_at barrier u ≡ None) × LeadsTo barrier u via) → To q
    moved u q e k = subst (λ (v : Point). (via ≡ v) ⊎ ((cut_at barrier v ≡ None) × LeadsTo barrier v via)) e k

    begin_covered : (rest : Point) → rest ≡ map Do p.body → LeadsTo barrier (Begin ∷ rest) via → IsListed (list_entered barrier t p.body) m
    begin_covered rest e path =
        let k : To rest = beyond barrier t via m enters leading (Begin ∷ rest) rest path (λ u h. only u rest h) in
        let k' : To (map Do p.body ++ []) = subst (λ (q : Point). (via ≡ q) ⊎ ((cut_at barrier q ≡ None) × LeadsTo barrier q via)) (e ∙ sym (append-nil (map Do p.body))) k in
        elim (list_in barrier t via m enters leading p.body [] rises (λ x i j. j) k') [ inl i ↦ i | inr (h, g) ↦ absurd (to_nothing p rises barrier t via m enters leading g) ]

    exit_covered : {n : NodeId} {rest : Point} → Leaves p n rest → LeadsTo barrier (Exit n ∷ rest) via → IsListed (list_from barrier t (cut.Exit n) n p.body) m
    exit_covered (leaves_off _ _ (follows s sts after d)) path =
        let n : NodeId = s.node.id in
        let rest : Point = map Do sts ++ after in
        let b = behind_in barrier t via m enters leading n rest (beyond barrier t via m enters leading (Exit n ∷ rest) (Behind n ∷ rest) path (λ u h. only u (Behind n ∷ rest) h)) in
        own_goes p rises barrier t (cut.Exit n) s m sts after d (not_false (barrier n.0) b.0)
        (behind_rest p rises barrier t via m enters leading s sts after d (after_in p rises barrier t via m enters leading d) b.1)

    after_covered : {n : NodeId} {rest : Point} → Leaves p n rest → LeadsTo barrier (Behind n ∷ rest) via → IsListed (list_from barrier t (cut.After n) n p.body) m
    after_covered (leaves_off _ _ (follows s sts after d)) path =
        let n : NodeId = s.node.id in
        let rest : Point = map Do sts ++ after in
        own_goes p rises barrier t (cut.After n) s m sts after d refl
        (behind_rest p rises barrier t via m enters leading s sts after d (after_in p rises barrier t via m enters leading d) (beyond barrier t via m enters leading (Behind n ∷ rest) rest path (λ u h. only u rest h)))

    head_covered : {n : NodeId} {test : Option Cond} {body : List Stmt} {rest : Point} → Loops p n test body rest → LeadsTo barrier (Test n test body ∷ rest) via → IsListed (list_from barrier t (cut.Head n) n p.body) m
    head_covered (a_for at x lo hi k body sts after d) path =
        let s : Stmt = record { node = at; kind = For' x lo hi k body } in
        let n : NodeId = at.id in
        let rest : Point = map Do sts ++ after in
        let r : Rises 0 (nodes_of_list (s ∷ sts)) = stands_rise p rises d in
        let l = after_step barrier t via m enters leading path in
        elim l.1 [
          | inl e ↦ own_named p rises barrier t (cut.Head n) s m sts after d (inr (
              elim (block_in barrier t via m enters leading body (Turn n None (block body) ∷ []) rest
              (rises_right 0 (hi.node.id ∷ inside_expr hi.kind) (nodes_of_row body) (rises_right 0 (lo.node.id ∷ inside_expr lo.kind) ((hi.node.id ∷ inside_expr hi.kind) ++ nodes_of_row body) (inner_rises s sts r)))
              (turn_apart n (inside_stmt s.kind) (nodes_of_row body) (rises_left 0 (n ∷ inside_stmt s.kind) (nodes_of_list sts) r)
              (λ y i. listed_right (lo.node.id ∷ inside_expr lo.kind) ((hi.node.id ∷ inside_expr hi.kind) ++ nodes_of_row body) y (listed_right (hi.node.id ∷ inside_expr hi.kind) (nodes_of_row body) y i)))
              (moved l.0 _ e l.2)) [
                | inl i ↦ i
                | inr (h, g) ↦ absurd (turn_in barrier t via m enters leading n None (block body) rest g)
              ]))
          | inr (inl e) ↦ absurd (to_exit p rises barrier t via m enters leading n rest (moved l.0 (Exit n ∷ rest) e l.2))
          | inr (inr e) ↦ absurd e
        ]
    head_covered (a_while at test k body sts after d) path =
        let s : Stmt = record { node = at; kind = While' test k body } in
        let n : NodeId = at.id in
        let rest : Point = map Do sts ++ after in
        let r : Rises 0 (nodes_of_list (s ∷ sts)) = stands_rise p rises d in
        let T : List NodeId = test.node.id ∷ inside_cond test.kind in
        let B : List NodeId = nodes_of_row body in
        let turn : Point = (map Do (block body) ++ Turn n (Some test) (block body) ∷ []) ++ rest in
        let inner : Rises 0 (T ++ B) = inner_rises s sts r in
        let rt : Rises 0 (inside_cond test.kind) = rises_right 0 (test.node.id ∷ []) (inside_cond test.kind) (rises_left 0 T B inner) in
        let own_first : Rises 0 (n ∷ (T ++ B)) = rises_left 0 (n ∷ (T ++ B)) (nodes_of_list sts) r in
        let more : List NodeId = if is_in_cond t test.kind then [] else block_entered barrier t body in
        let dt : Disjoint (inside_cond test.kind) (point_nodes turn) = λ y i j. elim (block_nodes body (Turn n (Some test) (block body) ∷ []) rest y j) [
          | inl g ↦ never_both T B y inner (inr i) g
          | inr (inl g) ↦ not_own n y (T ++ B) own_first.1 (listed_left T B y (inr i)) g
          | inr (inr g) ↦ absurd g
        ] in
        let in_test : IsListed (test.node.id ∷ lefts t test.kind) m → IsListed (test.node.id ∷ (lefts t test.kind ++ more)) m = λ i. listed_left (test.node.id ∷ lefts t test.kind) more m i in
        let l = after_step barrier t via m enters leading path in
        elim l.1 [
          | inl e ↦ own_named p rises barrier t (cut.Head n) s m sts after d (inr (
              elim (test_in barrier t via m enters leading test turn rt dt (moved l.0 (Judge test ∷ turn) e l.2)) [
                | inl i ↦ in_test i
                | inr (f, g) ↦ elim (block_in barrier t via m enters leading body (Turn n (Some test) (block body) ∷ []) rest (rises_right 0 T B inner)
                    (turn_apart n (T ++ B) B own_first (λ y i. listed_right T B y i)) g) [
                      | inl i ↦ listed_right (test.node.id ∷ lefts t test.kind) more m (unless_in (is_in_cond t test.kind) (block_entered barrier t body) m f i)
                      | inr (h, j) ↦ absurd (turn_in barrier t via m enters leading n (Some test) (block body) rest j)
                    ]
              ]))
          | inr (inl e) ↦ own_named p rises barrier t (cut.Head n) s m sts after d (inr (
              elim (test_in barrier t via m enters leading test (Exit n ∷ rest) rt (λ y i j. j) (moved l.0 (Judge test ∷ Exit n ∷ rest) e l.2)) [
                | inl i ↦ in_test i
                | inr (f, g) ↦ absurd (to_exit p rises barrier t via m enters leading n rest g)
              ]))
          | inr (inr e) ↦ absurd e
        ]

    of_cut : (c d : Cut) → Some d ≡ Some c → IsListed (path_nodes barrier t d p.body) m → IsListed (path_nodes barrier t c p.body) m
    of_cut c d e h = subst (λ (k : Cut). IsListed (path_nodes barrier t k p.body) m) (some-same e) h

    behind_covered : (n : NodeId) (rest : Point) (c : Cut) (b : Bool) → Leaves p n rest → (if b then Some (cut.After n) else None) ≡ Some c → LeadsTo barrier (Behind n ∷ rest) via → IsListed (path_nodes barrier t c p.body) m
    behind_covered n rest c true l e path = of_cut c (cut.After n) e (after_covered l path)
    behind_covered n rest c false l e path = absurd (none-some e)

    pub path_covered : (q : Point) (c : Cut) → IsPointOf p q → cut_at barrier q ≡ Some c → LeadsTo barrier q via → IsListed (path_nodes barrier t c p.body) m
    path_covered [] c a e path = absurd (none-some e)
    path_covered (Begin ∷ rest) c a e path = of_cut c cut.Start e (begin_covered rest (point_lies p a) path)
    path_covered (Do st ∷ rest) c a e path = absurd (none-some e)
    path_covered (Behind n ∷ rest) c a e path = behind_covered n rest c (barrier n.0) (point_lies p a) e path
    path_covered (Enter n test body ∷ rest) c a e path = absurd (none-some e)
    path_covered (Test n test body ∷ rest) c a e path = of_cut c (cut.Head n) e (head_covered (point_lies p a) path)
    path_covered (Turn n test body ∷ rest) c a e path = absurd (none-some e)
    path_covered (Exit n ∷ rest) c a e path = of_cut c (cut.Exit n) e (exit_covered (point_lies p a) path)
    path_covered (Judge d ∷ rest) c a e path = absurd (none-some e)
    path_covered (Decide d ∷ rest) c a e path = absurd (none-some e)
    path_covered (See n ∷ rest) c a e path = absurd (none-some e)

  -- the cut's statement stands in the program

  abbrev Owner : Cut → NodeId → Type 0
  Owner c n = (s : Stmt) × (s.node.id ≡ n) × BelongsTo c s.node.id × Place p s

  left_owner : {n : NodeId} {rest : Point} → Leaves p n rest → (s : Stmt) × (s.node.id ≡ n) × Place p s
  left_owner (leaves_off _ _ (follows s sts after d)) = (s, refl, (sts, after, d))

  loop_owner : {n : NodeId} {test : Option Cond} {body : List Stmt} {rest : Point} → Loops p n test body rest → (s : Stmt) × (s.node.id ≡ n) × Place p s
  loop_owner (a_for at x lo hi k body sts after d) = (record { node = at; kind = For' x lo hi k body }, refl, (sts, after, d))
  loop_owner (a_while at test k body sts after d) = (record { node = at; kind = While' test k body }, refl, (sts, after, d))

  abbrev Owned : Cut → Type 0
  Owned c = (n : NodeId) → BelongsTo c n → Owner c n

  to_cut : (c d : Cut) → Some d ≡ Some c → Owned d → Owned c
  to_cut c d e h = subst (λ (k : Cut). Owned k) (some-same e) h

  head_owned : (n : NodeId) → (s : Stmt) × (s.node.id ≡ n) × Place p s → Owned (cut.Head n)
  head_owned n o k b = (o.0, o.1 ∙ sym b, o.1, o.2)

  exit_owned : (n : NodeId) → (s : Stmt) × (s.node.id ≡ n) × Place p s → Owned (cut.Exit n)
  exit_owned n o k b = (o.0, o.1 ∙ sym b, o.1, o.2)

  after_owned : (n : NodeId) → (s : Stmt) × (s.node.id ≡ n) × Place p s → Owned (cut.After n)
  after_owned n o k b = (o.0, o.1 ∙ sym b, o.1, o.2)

  start_owned : Owned cut.Start
  start_owned n b = absurd b

  behind_owned : (n : NodeId) (rest : Point) (c : Cut) (b : Bool) → Leaves p n rest → (if b then Some (cut.After n) else None) ≡ Some c → Owned c
  behind_owned n rest c true l e = to_cut c (cut.After n) e (after_owned n (left_owner l))
  behind_owned n rest c false l e = absurd (none-some e)

  cut_owned : (q : Point) (c : Cut) → IsPointOf p q → cut_at barrier q ≡ Some c → Owned c
  cut_owned [] c a e = absurd (none-some e)
  cut_owned (Begin ∷ rest) c a e = to_cut c cut.Start e start_owned
  cut_owned (Do st ∷ rest) c a e = absurd (none-some e)
  cut_owned (Behind n ∷ rest) c a e = behind_owned n rest c (barrier n.0) (point_lies p a) e
  cut_owned (Enter n test body ∷ rest) c a e = absurd (none-some e)
  cut_owned (Test n test body ∷ rest) c a e = to_cut c (cut.Head n) e (head_owned n (loop_owner (point_lies p a)))
  cut_owned (Turn n test body ∷ rest) c a e = absurd (none-some e)
  cut_owned (Exit n ∷ rest) c a e = to_cut c (cut.Exit n) e (exit_owned n (left_owner (point_lies p a)))
  cut_owned (Judge d ∷ rest) c a e = absurd (none-some e)
  cut_owned (Decide d ∷ rest) c a e = absurd (none-some e)
  cut_owned (See n ∷ rest) c a e = absurd (none-some e)

  -- a node that is visited is an input, the target, or on the path

  pub own_covered : (q : Point) (c : Cut) (n : NodeId) → IsPointOf p q → cut_at barrier q ≡ Some c → BelongsTo c n → IsListed (path_nodes barrier t c p.body) n
  own_covered q c n a e b =
      let o = cut_owned q c a e n b in
      of_own c o.0 n o.2 (own_named p rises barrier t c o.0 n o.3.0 o.3.1 o.3.2 (inl (sym o.1)))

  pub around_covered : (c : Cut) (loop inner : Stmt) → Has p.body loop → is_for loop.kind ≡ true → HasInside loop.kind inner → BelongsTo c inner.node.id → IsListed (path_nodes barrier t c p.body) loop.node.id
  around_covered c loop inner h f i b =
      let o = list_stands p p.body [] loop whole h in
      of_own c inner loop.node.id b (around_named p rises barrier t c inner loop.node.id loop o.0 o.1 o.2 f i refl)

in_inputs : (ds : List Item) (d : Item) → IsListed ds d → is_input d.kind ≡ true → IsListed (inputs ds) d.node.id
in_inputs [] d h e = absurd h
in_inputs (x ∷ rest) d (inl k) e =
    listed_left (if is_input x.kind then x.node.id ∷ [] else []) (inputs rest) d.node.id
    (subst (λ (y : Item). IsListed (if is_input y.kind then y.node.id ∷ [] else []) d.node.id) k (subst (λ (b : Bool). IsListed (if b then d.node.id ∷ [] else []) d.node.id) (sym e) (inl refl)))
in_inputs (x ∷ rest) d (inr h) e = listed_right (if is_input x.kind then x.node.id ∷ [] else []) (inputs rest) d.node.id (in_inputs rest d h e)

same_number : (m n : NodeId) → nat_eq m.0 n.0 ≡ true → m ≡ n
same_number m n h = ap (λ (k : ℕ). let x : NodeId = record { 0 = k } in x) (eqb-true m.0 n.0 h)

any_listed : (n : NodeId) (nodes : List NodeId) → list_any (is_node n.0) nodes ≡ true → IsListed nodes n
any_listed n [] h = cc
any_listed n (m ∷ nodes) h = elim (either_passes (nat_eq m.0 n.0) (list_any (is_node n.0) nodes) h) [ inl e ↦ inl (sym (same_number m n e)) | inr e ↦ inr (any_listed n nodes e) ]

with_kept : (n : NodeId) (nodes : List NodeId) (m : NodeId) → IsListed nodes m → IsListed (with_node n nodes) m
with_kept n nodes m h = go (list_any (is_node n.0) nodes)
  where
    go : (b : Bool) → IsListed (if b then nodes else nodes ++ n ∷ []) m
    go true = h
    go false = listed_left nodes (n ∷ []) m h

with_own : (n : NodeId) (nodes : List NodeId) → IsListed (with_node n nodes) n
with_own n nodes = go (list_any (is_node n.0) nodes) refl
  where
    go : (b : Bool) → list_any (is_node n.0) nodes ≡ b → IsListed (if b then nodes else nodes ++ n ∷ []) n
    go true e = any_listed n nodes e
    go false e = listed_right nodes (n ∷ []) n (inl refl)

module _ (p : Program) (cuts : List Cut) (c : Cut) (t : Target) (numbered : IsNumbered p) (reached : Reaches p (has_barrier cuts) c t) where
  rising : Rises 0 (nodes_of_list p.body)
  rising = program_rises p numbered

  on_walk : (m : NodeId) → IsListed (path_nodes (has_barrier cuts) t c p.body) m → IsListed (walk_of p cuts (record { cut = c; target = t })) m
  on_walk m h = with_kept (target_node t) (inputs p.items ++ path_nodes (has_barrier cuts) t c p.body) m (listed_right (inputs p.items) (path_nodes (has_barrier cuts) t c p.body) m h)

  entered_named : (via : Point) (n : NodeId) → LeadsBy p (has_barrier cuts) c t via → EntersAt via n → IsListed (walk_of p cuts (record { cut = c; target = t })) n
  entered_named via n r e = on_walk n (path_covered p rising (has_barrier cuts) t via n e (path_leads (has_barrier cuts) t r.behind r.is_target) r.from c r.of_program r.is_cut r.before)

  own_walked : (n : NodeId) → BelongsTo c n → IsListed (walk_of p cuts (record { cut = c; target = t })) n
  own_walked n b = on_walk n (own_covered p rising (has_barrier cuts) t reached.from c n reached.of_program reached.is_cut b)

  site_named : (u : Target) (st : Stmt) → u ≡ t → Has p.body st → IsAccessOf u st → IsListed (walk_of p cuts (record { cut = c; target = t })) st.node.id
  site_named (Site v) st e h a = elim (site_entered v p (has_barrier cuts) rising st h a c (subst (λ (w : Target). Reaches p (has_barrier cuts) c w) (sym e) reached)) [
    | inl b ↦ own_walked st.node.id b
    | inr (via, by, k) ↦ entered_named via st.node.id (subst (λ (w : Target). LeadsBy p (has_barrier cuts) c w via) e by) k
  ]
  site_named (Entry n) st e h a = absurd a
  site_named (Keep n) st e h a = absurd a
  site_named (Barrier n) st e h a = absurd a

  pub visited_named : (m : NodeId) → IsVisited p (has_barrier cuts) c t m → IsListed (walk_of p cuts (record { cut = c; target = t })) m
  visited_named _ (input d h e) =
      with_kept (target_node t) (inputs p.items ++ path_nodes (has_barrier cuts) t c p.body) d.node.id (listed_left (inputs p.items) (path_nodes (has_barrier cuts) t c p.body) d.node.id (in_inputs p.items d h e))
  visited_named _ (around loop inner h f i b) = on_walk loop.node.id (around_covered p rising (has_barrier cuts) t c loop inner h f i b)
  visited_named _ (own n b) = own_walked n b
  visited_named _ (on_path via n r e) = entered_named via n r e
  visited_named _ (site st h a) = site_named t st refl h a
  visited_named _ aim = with_own (target_node t) (inputs p.items ++ path_nodes (has_barrier cuts) t c p.body)
