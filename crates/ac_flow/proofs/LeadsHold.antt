-- Control leads to a target along a path exactly where the recursion over the tree says so.
use Rattle.std.proofs.Common.{◌≡◌, ℕ, nat_eq, Bool, true, false, ◌&&◌, ◌||◌, not, if◌then◌else◌, List, [], ◌∷◌, ◌++◌, map, Option, Some, None, refl, sym, ◌∙◌, ap, eq-eqb, eqb-true}
use Rattle.std.specs.List.{list_any}
use Rattle.std.proofs.lemmas.List.Folds.{list_any-append}
use mathlib.Core.Logic.{◌⊎◌, inl, inr}
use Rattle.ac_tree.specs.declared.node.Node.{Node}
use Rattle.ac_tree.specs.declared.node.NodeId.{NodeId}
use Rattle.ac_tree.specs.declared.path.Target.{Target}
use Rattle.ac_tree.specs.declared.path.Target.TheVariants.{Entry, Keep, Barrier, Site}
use Rattle.ac_tree.specs.declared.path.Cut.TheVariants as cut
use Rattle.ac_tree.specs.declared.program.Cond.{Cond}
use Rattle.ac_tree.specs.declared.program.CondKind.{CondKind}
use Rattle.ac_tree.specs.declared.program.CondKind.TheVariants.{True, False, Rel}
use Rattle.ac_tree.specs.declared.program.Stmt.{Stmt}
use Rattle.ac_tree.specs.declared.program.StmtKind.{StmtKind, Row_of-Stmt, end_of-Stmt, more_of-Stmt, Set, Put, If', For', While', Hand, Skip}
use Rattle.ac_tree.specs.Patterns.{Negation, Conjunction, Disjunction}
use Rattle.ac_flow.specs.Opened.{hidden, expr_shape, expr_child, cond_shape, cond_child}
use Rattle.ac_flow.specs.Points.{Task, Begin, Do, Behind, Enter, Test, Turn, Exit, Judge, Decide, See, Point, reads_of, index_reads, block, ways, ways_of, ways_through, IsOneWay, Next, cut_of, cut_at, target_at}
use Rattle.ac_flow.specs.Paths.{LeadsTo, step, steps}
use Rattle.ac_flow.specs.Leads.{is_site, is_entry, is_keep, is_barrier, cond_reads, is_among, past, leads, block_leads, list_leads, head_leads, point_leads, task_leads_on, leads_on}

-- truth values

or_false : (a : Bool) → a ≡ (a || false)
or_false true = refl
or_false false = refl

or_assoc : (a b c : Bool) → ((a || b) || c) ≡ (a || (b || c))
or_assoc true b c = refl
or_assoc false b c = refl

two_ways : (c y z : Bool) → (c || (y || z)) ≡ ((c || y) || ((c || z) || false))
two_ways true y z = refl
two_ways false true z = refl
two_ways false false true = refl
two_ways false false false = refl

no_way : (c y : Bool) → (c || y) ≡ ((c || y) || ((c || false) || false))
no_way true y = refl
no_way false true = refl
no_way false false = refl

short_way : (c d m : Bool) → ((c || d) || m) ≡ ((c || m) || ((c || (d || m)) || false))
short_way true d m = refl
short_way false true true = refl
short_way false true false = refl
short_way false false true = refl
short_way false false false = refl

or_cases : (a b : Bool) → (a || b) ≡ true → (a ≡ true) ⊎ (b ≡ true)
or_cases true b h = inl refl
or_cases false b h = inr h

or_left : (a b : Bool) → a ≡ true → (a || b) ≡ true
or_left a b h = ap (λ c. c || b) h

-- a target is where the tests find it

same-number : (m n : NodeId) → nat_eq m.0 n.0 ≡ true → m ≡ n
same-number m n h = ap (λ (k : ℕ). let x : NodeId = record { 0 = k } in x) (eqb-true m.0 n.0 h)

is_site-is : (t : Target) (n : NodeId) → is_site t n ≡ true → Some (Site n) ≡ Some t
is_site-is (Site m) n h = ap (λ k. Some (Site k)) (sym (same-number m n h))
is_site-is (Entry m) n h = cc
is_site-is (Keep m) n h = cc
is_site-is (Barrier m) n h = cc

is_entry-is : (t : Target) (n : NodeId) → is_entry t n ≡ true → Some (Entry n) ≡ Some t
is_entry-is (Entry m) n h = ap (λ k. Some (Entry k)) (sym (same-number m n h))
is_entry-is (Site m) n h = cc
is_entry-is (Keep m) n h = cc
is_entry-is (Barrier m) n h = cc

is_keep-is : (t : Target) (n : NodeId) → is_keep t n ≡ true → Some (Keep n) ≡ Some t
is_keep-is (Keep m) n h = ap (λ k. Some (Keep k)) (sym (same-number m n h))
is_keep-is (Site m) n h = cc
is_keep-is (Entry m) n h = cc
is_keep-is (Barrier m) n h = cc

is_barrier-is : (t : Target) (n : NodeId) → is_barrier t n ≡ true → Some (Barrier n) ≡ Some t
is_barrier-is (Barrier m) n h = ap (λ k. Some (Barrier k)) (sym (same-number m n h))
is_barrier-is (Site m) n h = cc
is_barrier-is (Entry m) n h = cc
is_barrier-is (Keep m) n h = cc

number-same : (n : NodeId) → nat_eq n.0 n.0 ≡ true
number-same n = eq-eqb n.0 n.0 refl

abbrev asked : (Target → Bool) → Option Target → Bool
asked f None = false
asked f (Some t) = f t

is_site-same : (t : Target) (n : NodeId) → Some (Site n) ≡ Some t → is_site t n ≡ true
is_site-same t n h = sym (ap (asked (λ u. is_site u n)) h) ∙ number-same n

is_entry-same : (t : Target) (n : NodeId) → Some (Entry n) ≡ Some t → is_entry t n ≡ true
is_entry-same t n h = sym (ap (asked (λ u. is_entry u n)) h) ∙ number-same n

is_keep-same : (t : Target) (n : NodeId) → Some (Keep n) ≡ Some t → is_keep t n ≡ true
is_keep-same t n h = sym (ap (asked (λ u. is_keep u n)) h) ∙ number-same n

is_barrier-same : (t : Target) (n : NodeId) → Some (Barrier n) ≡ Some t → is_barrier t n ≡ true
is_barrier-same t n h = sym (ap (asked (λ u. is_barrier u n)) h) ∙ number-same n

module _ (barrier : ℕ → Bool) (t : Target) where
  arrives-behind : (n : NodeId) (b more : Bool) → (if b then Some (Barrier n) else None) ≡ Some t → ((b && is_barrier t n) || (not b && more)) ≡ true
  arrives-behind n true more h = or_left (is_barrier t n) false (is_barrier-same t n h)
  arrives-behind n false more h = cc

  arrives : (p : Point) → target_at barrier p ≡ Some t → point_leads barrier t p ≡ true
  arrives [] h = cc
  arrives (Begin ∷ rest) h = cc
  arrives (Do st ∷ rest) h = cc
  arrives (Behind n ∷ rest) h = arrives-behind n (barrier n.0) (point_leads barrier t rest) h
  arrives (Enter n test body ∷ rest) h = is_entry-same t n h
  arrives (Test n test body ∷ rest) h = cc
  arrives (Turn n test body ∷ rest) h = is_keep-same t n h
  arrives (Exit n ∷ rest) h = cc
  arrives (Judge c ∷ rest) h = cc
  arrives (Decide c ∷ rest) h = cc
  arrives (See n ∷ rest) h = or_left (is_site t n) (point_leads barrier t rest) (is_site-same t n h)

  passes-behind : (n : NodeId) (b more : Bool) → (if b then Some (cut.After n) else None) ≡ None → more ≡ true → ((b && is_barrier t n) || (not b && more)) ≡ true
  passes-behind n true more h k = cc
  passes-behind n false more h k = k

  or_right : (a b : Bool) → b ≡ true → (a || b) ≡ true
  or_right true b h = refl
  or_right false b h = h

  goes_past : (p : Point) → cut_at barrier p ≡ None → leads_on barrier t p ≡ true → point_leads barrier t p ≡ true
  goes_past [] h k = k
  goes_past (Begin ∷ rest) h k = cc
  goes_past (Do st ∷ rest) h k = k
  goes_past (Behind n ∷ rest) h k = passes-behind n (barrier n.0) (point_leads barrier t rest) h k
  goes_past (Enter n test body ∷ rest) h k = cc
  goes_past (Test n test body ∷ rest) h k = cc
  goes_past (Turn n test body ∷ rest) h k = cc
  goes_past (Exit n ∷ rest) h k = cc
  goes_past (Judge c ∷ rest) h k = k
  goes_past (Decide c ∷ rest) h k = k
  goes_past (See n ∷ rest) h k = or_right (is_site t n) (point_leads barrier t rest) k

  -- accesses and blocks before what is left to do

  seen : (ns : List NodeId) (after rest : Point) → point_leads barrier t ((map See ns ++ after) ++ rest) ≡ (is_among barrier t ns || point_leads barrier t (after ++ rest))
  seen [] after rest = refl
  seen (n ∷ ns) after rest = ap (λ b. is_site t n || b) (seen ns after rest) ∙ sym (or_assoc (is_site t n) (is_among barrier t ns) (point_leads barrier t (after ++ rest)))

  all_seen : (ns : List NodeId) (rest : Point) → point_leads barrier t (map See ns ++ rest) ≡ (is_among barrier t ns || point_leads barrier t rest)
  all_seen [] rest = refl
  all_seen (n ∷ ns) rest = ap (λ b. is_site t n || b) (all_seen ns rest) ∙ sym (or_assoc (is_site t n) (is_among barrier t ns) (point_leads barrier t rest))

  done : {k : _} (row : Row_of-Stmt k) (after rest : Point) → point_leads barrier t ((map Do (block row) ++ after) ++ rest) ≡ block_leads barrier t row (point_leads barrier t (after ++ rest))
  done end_of-Stmt after rest = refl
  done (more_of-Stmt n st more) after rest = ap (λ b. leads barrier t n.id st (past barrier t n.id b)) (done more after rest)

  all_done : (sts : List Stmt) (after rest : Point) → point_leads barrier t ((map Do sts ++ after) ++ rest) ≡ list_leads barrier t sts (point_leads barrier t (after ++ rest))
  all_done [] after rest = refl
  all_done (st ∷ sts) after rest = ap (λ b. leads barrier t st.node.id st.kind (past barrier t st.node.id b)) (all_done sts after rest)

  -- control leads on from a task where one of its ways leads there

  any_way : List Point → Point → Bool
  any_way ws rest = list_any (λ way. point_leads barrier t (way ++ rest)) ws

  cond_ways : (c : CondKind) (rest : Point) → (is_among barrier t (cond_reads c) || point_leads barrier t rest) ≡ list_any (λ way. point_leads barrier t (way ++ rest)) (ways_through c)
  unfolding hidden cond_shape cond_child expr_shape expr_child
  cond_ways True rest = or_false _
  cond_ways False rest = or_false _
  cond_ways (Rel op a b) rest = sym (all_seen (reads_of a.node a.kind ++ reads_of b.node b.kind) rest) ∙ or_false _
  cond_ways (Negation n c) rest = or_false _
  cond_ways (Conjunction n c m d) rest =
      ap (λ b. b || point_leads barrier t rest) (list_any-append (is_site t) (cond_reads c) (cond_reads d))
      ∙ short_way (is_among barrier t (cond_reads c)) (is_among barrier t (cond_reads d)) (point_leads barrier t rest)
  cond_ways (Disjunction n c m d) rest =
      ap (λ b. b || point_leads barrier t rest) (list_any-append (is_site t) (cond_reads c) (cond_reads d))
      ∙ short_way (is_among barrier t (cond_reads c)) (is_among barrier t (cond_reads d)) (point_leads barrier t rest)

  stmt_ways : (n : NodeId) (st : StmtKind) (rest : Point) → leads barrier t n st (past barrier t n (point_leads barrier t rest)) ≡ list_any (λ way. point_leads barrier t (way ++ rest)) (ways_of n st)
  stmt_ways n (Set x e) rest = sym (seen (reads_of e.node e.kind) (See n ∷ Behind n ∷ []) rest) ∙ or_false _
  stmt_ways n (Put x i e) rest = sym (seen (index_reads i ++ reads_of e.node e.kind) (See n ∷ Behind n ∷ []) rest) ∙ or_false _
  stmt_ways n (If' test _ yes_ _ no_) rest =
      two_ways (is_among barrier t (cond_reads test.kind)) (block_leads barrier t yes_ (past barrier t n (point_leads barrier t rest))) (block_leads barrier t no_ (past barrier t n (point_leads barrier t rest)))
      ∙ (ap (λ b. (is_among barrier t (cond_reads test.kind) || b) || ((is_among barrier t (cond_reads test.kind) || block_leads barrier t no_ (past barrier t n (point_leads barrier t rest))) || false)) (sym (done yes_ (Behind n ∷ []) rest))
      ∙ ap (λ b. (is_among barrier t (cond_reads test.kind) || point_leads barrier t ((map Do (block yes_) ++ Behind n ∷ []) ++ rest)) || ((is_among barrier t (cond_reads test.kind) || b) || false)) (sym (done no_ (Behind n ∷ []) rest)))
  stmt_ways n (For' x lo hi _ body) rest = sym (seen (reads_of lo.node lo.kind ++ reads_of hi.node hi.kind) (Enter n None (block body) ∷ []) rest) ∙ or_false _
  stmt_ways n (While' test _ body) rest = or_false _
  stmt_ways n (Hand x role) rest = or_false _
  stmt_ways n Skip rest = or_false _

  head_ways : (n : NodeId) (test : Option Cond) (body : List Stmt) (rest : Point) → head_leads barrier t n test body ≡ list_any (λ way. point_leads barrier t (way ++ rest)) (ways (Test n test body))
  head_ways n None body rest = or_false _ ∙ ap (λ b. b || false) (sym (all_done body (Turn n None body ∷ []) rest))
  head_ways n (Some c) body rest =
      no_way (is_among barrier t (cond_reads c.kind)) (list_leads barrier t body (is_keep t n))
      ∙ ap (λ b. (is_among barrier t (cond_reads c.kind) || b) || ((is_among barrier t (cond_reads c.kind) || false) || false)) (sym (all_done body (Turn n (Some c) body ∷ []) rest))

  task_ways : (x : Task) (rest : Point) → task_leads_on barrier t x (point_leads barrier t rest) ≡ list_any (λ way. point_leads barrier t (way ++ rest)) (ways x)
  task_ways Begin rest = or_false _
  task_ways (Do st) rest = stmt_ways st.node.id st.kind rest
  task_ways (Behind n) rest = or_false _
  task_ways (Enter n test body) rest = refl
  task_ways (Test n test body) rest = head_ways n test body rest
  task_ways (Turn n test body) rest = refl
  task_ways (Exit n) rest = or_false _
  task_ways (Judge c) rest = or_false _
  task_ways (Decide c) rest = cond_ways c rest
  task_ways (See n) rest = or_false _

  -- from a path to the recursion

  way_taken : (ws : List Point) (rest q : Point) → IsOneWay ws rest q → point_leads barrier t q ≡ true → list_any (λ way. point_leads barrier t (way ++ rest)) ws ≡ true
  way_taken [] rest q h k = absurd h
  way_taken (w ∷ ws) rest q (inl e) k = or_left (point_leads barrier t (w ++ rest)) _ (ap (point_leads barrier t) (sym e) ∙ k)
  way_taken (w ∷ ws) rest q (inr h) k = or_right (point_leads barrier t (w ++ rest)) _ (way_taken ws rest q h k)

  next_leads : (p q : Point) → Next p q → point_leads barrier t q ≡ true → leads_on barrier t p ≡ true
  next_leads [] q h k = absurd h
  next_leads (x ∷ rest) q h k = task_ways x rest ∙ way_taken (ways x) rest q h k

  pub path_leads : {from to : Point} → LeadsTo barrier from to → target_at barrier to ≡ Some t → leads_on barrier t from ≡ true
  path_leads (step {from = from} {to = to} h) k = next_leads from to h (arrives to k)
  path_leads (steps {from = from} {via = via} {to = to} h c path) k = next_leads from via h (goes_past via c (path_leads path k))

  -- from the recursion to a path

  -- control comes to the target, which is here or along a path
  abbrev Comes : Point → Type 0
  Comes p = (target_at barrier p ≡ Some t) ⊎ ((cut_at barrier p ≡ None) × (to : Point) × LeadsTo barrier p to × (target_at barrier to ≡ Some t))

  abbrev Goes : Point → Type 0
  Goes p = (to : Point) × LeadsTo barrier p to × (target_at barrier to ≡ Some t)

  goes_next : (p q : Point) → Next p q → Comes q → Goes p
  goes_next p q h (inl k) = (q, step h, k)
  goes_next p q h (inr k) = (k.1, steps h k.0 k.2, k.3)

  comes_next : (p q : Point) → cut_at barrier p ≡ None → Next p q → Comes q → Comes p
  comes_next p q c h k = let found = goes_next p q h k in inr (c, found.0, found.1, found.2)

  -- what is left to do comes there where the recursion says so
  abbrev Told : Point → Type 0
  Told p = point_leads barrier t p ≡ true → Comes p

  see_comes : (n : NodeId) (rest : Point) → Told rest → Told (See n ∷ rest)
  see_comes n rest k h = elim (or_cases (is_site t n) (point_leads barrier t rest) h) [ inl e ↦ inl (is_site-is t n e) | inr e ↦ comes_next (See n ∷ rest) rest refl (inl refl) (k e) ]

  seen_comes : (ns : List NodeId) (after rest : Point) → Told (after ++ rest) → Told ((map See ns ++ after) ++ rest)
  seen_comes [] after rest k = k
  seen_comes (n ∷ ns) after rest k = see_comes n ((map See ns ++ after) ++ rest) (seen_comes ns after rest k)

  all_seen_comes : (ns : List NodeId) (rest : Point) → Told rest → Told (map See ns ++ rest)
  all_seen_comes [] rest k = k
  all_seen_comes (n ∷ ns) rest k = see_comes n (map See ns ++ rest) (all_seen_comes ns rest k)

  -- by one way of one, by the second of two, and by either
  by_way : (x : Task) (way rest : Point) → cut_of barrier x ≡ None → IsOneWay (ways x) rest (way ++ rest) → point_leads barrier t (x ∷ rest) ≡ point_leads barrier t (way ++ rest) → Told (way ++ rest) → Told (x ∷ rest)
  by_way x way rest c h e k told = comes_next (x ∷ rest) (way ++ rest) c h (k (sym e ∙ told))

  long_way : (c d m : Bool) → ((c || d) || m) ≡ (c || (d || m))
  long_way c d m = or_assoc c d m

  cond_comes : (c : CondKind) (rest : Point) → Told rest → Told (Decide c ∷ rest)
  unfolding hidden cond_shape cond_child expr_shape expr_child
  cond_comes True rest k h = comes_next (Decide True ∷ rest) rest refl (inl refl) (k h)
  cond_comes False rest k h = comes_next (Decide False ∷ rest) rest refl (inl refl) (k h)
  cond_comes (Rel op a b) rest k h =
      comes_next (Decide (Rel op a b) ∷ rest) (map See (reads_of a.node a.kind ++ reads_of b.node b.kind) ++ rest) refl (inl refl)
      (all_seen_comes (reads_of a.node a.kind ++ reads_of b.node b.kind) rest k (all_seen (reads_of a.node a.kind ++ reads_of b.node b.kind) rest ∙ h))
  cond_comes (Negation n c) rest k h = comes_next (Decide (Negation n c) ∷ rest) (Decide c ∷ rest) refl (inl refl) (cond_comes c rest k h)
  cond_comes (Conjunction n c m d) rest k h =
      let inner : Told (Decide c ∷ Decide d ∷ rest) = cond_comes c (Decide d ∷ rest) (cond_comes d rest k) in
      let told : point_leads barrier t (Decide c ∷ Decide d ∷ rest) ≡ true =
      sym (ap (λ b. b || point_leads barrier t rest) (list_any-append (is_site t) (cond_reads c) (cond_reads d)) ∙ or_assoc (is_among barrier t (cond_reads c)) (is_among barrier t (cond_reads d)) (point_leads barrier t rest)) ∙ h in
      comes_next (Decide (Conjunction n c m d) ∷ rest) (Judge (record { node = n; kind = c }) ∷ Decide d ∷ rest) refl (inr (inl refl))
      (comes_next (Judge (record { node = n; kind = c }) ∷ Decide d ∷ rest) (Decide c ∷ Decide d ∷ rest) refl (inl refl) (inner told))
  cond_comes (Disjunction n c m d) rest k h =
      let inner : Told (Decide c ∷ Decide d ∷ rest) = cond_comes c (Decide d ∷ rest) (cond_comes d rest k) in
      let told : point_leads barrier t (Decide c ∷ Decide d ∷ rest) ≡ true =
      sym (ap (λ b. b || point_leads barrier t rest) (list_any-append (is_site t) (cond_reads c) (cond_reads d)) ∙ or_assoc (is_among barrier t (cond_reads c)) (is_among barrier t (cond_reads d)) (point_leads barrier t rest)) ∙ h in
      comes_next (Decide (Disjunction n c m d) ∷ rest) (Judge (record { node = n; kind = c }) ∷ Decide d ∷ rest) refl (inr (inl refl))
      (comes_next (Judge (record { node = n; kind = c }) ∷ Decide d ∷ rest) (Decide c ∷ Decide d ∷ rest) refl (inl refl) (inner told))

  judge_comes : (c : Cond) (rest : Point) → Told rest → Told (Judge c ∷ rest)
  judge_comes c rest k h = comes_next (Judge c ∷ rest) (Decide c.kind ∷ rest) refl (inl refl) (cond_comes c.kind rest k h)

  barrier_comes : (n : NodeId) (b : Bool) (rest : Point) → barrier n.0 ≡ b → Told rest → ((b && is_barrier t n) || (not b && point_leads barrier t rest)) ≡ true → Comes (Behind n ∷ rest)
  barrier_comes n true rest e k h =
      elim (or_cases (is_barrier t n) false h) [ inl i ↦ inl (ap (λ b. if b then Some (Barrier n) else None) e ∙ is_barrier-is t n i) | inr i ↦ cc ]
  barrier_comes n false rest e k h = comes_next (Behind n ∷ rest) rest (ap (λ b. if b then Some (cut.After n) else None) e) (inl refl) (k h)

  behind_comes : (n : NodeId) (rest : Point) → Told rest → Told (Behind n ∷ rest)
  behind_comes n rest k h = barrier_comes n (barrier n.0) rest refl k h

  enter_comes : (n : NodeId) (test : Option Cond) (body : List Stmt) (rest : Point) → Told (Enter n test body ∷ rest)
  enter_comes n test body rest h = inl (is_entry-is t n h)

  turn_comes : (n : NodeId) (test : Option Cond) (body : List Stmt) (rest : Point) → Told (Turn n test body ∷ rest)
  turn_comes n test body rest h = inl (is_keep-is t n h)

  one_part : (c y z : Bool) → (c || (y || z)) ≡ true → ((c || y) ≡ true) ⊎ ((c || z) ≡ true)
  one_part true y z h = inl refl
  one_part false y z h = or_cases y z h

  mutual
    stmt_comes : (at : Node) (st : StmtKind) (rest : Point) → Told rest → Told (Do (record { node = at; kind = st }) ∷ rest)
    stmt_comes at (Set x e) rest k h =
        comes_next (Do (record { node = at; kind = Set x e }) ∷ rest) ((map See (reads_of e.node e.kind) ++ See at.id ∷ Behind at.id ∷ []) ++ rest) refl (inl refl)
        (seen_comes (reads_of e.node e.kind) (See at.id ∷ Behind at.id ∷ []) rest (see_comes at.id (Behind at.id ∷ rest) (behind_comes at.id rest k))
        (seen (reads_of e.node e.kind) (See at.id ∷ Behind at.id ∷ []) rest ∙ h))
    stmt_comes at (Put x i e) rest k h =
        comes_next (Do (record { node = at; kind = Put x i e }) ∷ rest) ((map See (index_reads i ++ reads_of e.node e.kind) ++ See at.id ∷ Behind at.id ∷ []) ++ rest) refl (inl refl)
        (seen_comes (index_reads i ++ reads_of e.node e.kind) (See at.id ∷ Behind at.id ∷ []) rest (see_comes at.id (Behind at.id ∷ rest) (behind_comes at.id rest k))
        (seen (index_reads i ++ reads_of e.node e.kind) (See at.id ∷ Behind at.id ∷ []) rest ∙ h))
    stmt_comes at (If' test a yes_ b no_) rest k h =
        let after : Told (Behind at.id ∷ rest) = behind_comes at.id rest k in
        let m = past barrier t at.id (point_leads barrier t rest) in
        let yes_way : Told (Judge test ∷ ((map Do (block yes_) ++ Behind at.id ∷ []) ++ rest)) = judge_comes test _ (block_comes yes_ (Behind at.id ∷ []) rest after) in
        let no_way_ : Told (Judge test ∷ ((map Do (block no_) ++ Behind at.id ∷ []) ++ rest)) = judge_comes test _ (block_comes no_ (Behind at.id ∷ []) rest after) in
        elim (one_part (is_among barrier t (cond_reads test.kind)) (block_leads barrier t yes_ m) (block_leads barrier t no_ m) h) [
          | inl e ↦ comes_next (Do (record { node = at; kind = If' test a yes_ b no_ }) ∷ rest) (Judge test ∷ ((map Do (block yes_) ++ Behind at.id ∷ []) ++ rest)) refl (inl refl)
              (yes_way (ap (λ b. is_among barrier t (cond_reads test.kind) || b) (done yes_ (Behind at.id ∷ []) rest) ∙ e))
          | inr e ↦ comes_next (Do (record { node = at; kind = If' test a yes_ b no_ }) ∷ rest) (Judge test ∷ ((map Do (block no_) ++ Behind at.id ∷ []) ++ rest)) refl (inr (inl refl))
              (no_way_ (ap (λ b. is_among barrier t (cond_reads test.kind) || b) (done no_ (Behind at.id ∷ []) rest) ∙ e))
        ]
    stmt_comes at (For' x lo hi a body) rest k h =
        comes_next (Do (record { node = at; kind = For' x lo hi a body }) ∷ rest) ((map See (reads_of lo.node lo.kind ++ reads_of hi.node hi.kind) ++ Enter at.id None (block body) ∷ []) ++ rest) refl (inl refl)
        (seen_comes (reads_of lo.node lo.kind ++ reads_of hi.node hi.kind) (Enter at.id None (block body) ∷ []) rest (enter_comes at.id None (block body) rest)
        (seen (reads_of lo.node lo.kind ++ reads_of hi.node hi.kind) (Enter at.id None (block body) ∷ []) rest ∙ h))
    stmt_comes at (While' test a body) rest k h =
        comes_next (Do (record { node = at; kind = While' test a body }) ∷ rest) (Enter at.id (Some test) (block body) ∷ rest) refl (inl refl) (enter_comes at.id (Some test) (block body) rest h)
    stmt_comes at (Hand x role) rest k h =
        comes_next (Do (record { node = at; kind = Hand x role }) ∷ rest) (See at.id ∷ Behind at.id ∷ rest) refl (inl refl) (see_comes at.id (Behind at.id ∷ rest) (behind_comes at.id rest k) h)
    stmt_comes at Skip rest k h = comes_next (Do (record { node = at; kind = Skip }) ∷ rest) (Behind at.id ∷ rest) refl (inl refl) (behind_comes at.id rest k h)

    block_comes : {m : _} (row : Row_of-Stmt m) (after rest : Point) → Told (after ++ rest) → Told ((map Do (block row) ++ after) ++ rest)
    block_comes end_of-Stmt after rest k = k
    block_comes (more_of-Stmt n st more) after rest k = stmt_comes n st ((map Do (block more) ++ after) ++ rest) (block_comes more after rest k)

  task_comes : (x : Task) (rest : Point) → Told rest → Told (x ∷ rest)
  task_comes Begin rest k h = cc
  task_comes (Do st) rest k h = stmt_comes st.node st.kind rest k h
  task_comes (Behind n) rest k h = behind_comes n rest k h
  task_comes (Enter n test body) rest k h = enter_comes n test body rest h
  task_comes (Test n test body) rest k h = cc
  task_comes (Turn n test body) rest k h = turn_comes n test body rest h
  task_comes (Exit n) rest k h = cc
  task_comes (Judge c) rest k h = judge_comes c rest k h
  task_comes (Decide c) rest k h = cond_comes c rest k h
  task_comes (See n) rest k h = see_comes n rest k h

  comes : (p : Point) → Told p
  comes [] h = cc
  comes (x ∷ rest) h = task_comes x rest (comes rest) h

  some_way : (ws : List Point) (rest : Point) → list_any (λ way. point_leads barrier t (way ++ rest)) ws ≡ true → (q : Point) × IsOneWay ws rest q × (point_leads barrier t q ≡ true)
  some_way [] rest h = cc
  some_way (w ∷ ws) rest h =
      elim (or_cases (point_leads barrier t (w ++ rest)) (list_any (λ way. point_leads barrier t (way ++ rest)) ws) h) [
        | inl e ↦ (w ++ rest, inl refl, e)
        | inr e ↦ (let found = some_way ws rest e in (found.0, inr found.1, found.2))
      ]

  pub leads_path : (p : Point) → leads_on barrier t p ≡ true → (to : Point) × LeadsTo barrier p to × (target_at barrier to ≡ Some t)
  leads_path [] h = cc
  leads_path (x ∷ rest) h =
      let found : (q : Point) × IsOneWay (ways x) rest q × (point_leads barrier t q ≡ true) = some_way (ways x) rest (sym (task_ways x rest) ∙ h) in
      goes_next (x ∷ rest) found.0 found.1 (comes found.0 found.2)
