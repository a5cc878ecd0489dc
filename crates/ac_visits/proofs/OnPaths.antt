-- What the recursion names from a point on is entered on a path from there to the target.
use Rattle.std.proofs.Common.{◌≡◌, ℕ, Bool, true, false, ◌&&◌, ◌||◌, not, if◌then◌else◌, List, [], ◌∷◌, ◌++◌, map, Some, None, refl, sym, ◌∙◌, ap, subst}
use Rattle.std.proofs.lemmas.List.Folds.{list_any-append}
use mathlib.Core.Logic.{◌⊎◌, inl, inr}
use Rattle.ac_tree.specs.declared.node.Node.{Node}
use Rattle.ac_tree.specs.declared.node.NodeId.{NodeId}
use Rattle.ac_tree.specs.declared.path.Cut.TheVariants as cut
use Rattle.ac_tree.specs.declared.path.Target.{Target}
use Rattle.ac_tree.specs.declared.program.Cond.{Cond}
use Rattle.ac_tree.specs.declared.program.CondKind.{CondKind}
use Rattle.ac_tree.specs.declared.program.CondKind.TheVariants.{True, False, Rel}
use Rattle.ac_tree.specs.declared.program.ExprKind.{ExprKind}
use Rattle.ac_tree.specs.declared.program.ExprKind.TheVariants.{Num, Get, Read}
use Rattle.ac_tree.specs.declared.program.Index.{Index}
use Rattle.ac_tree.specs.declared.program.StmtKind.{StmtKind, Row_of-Stmt, end_of-Stmt, more_of-Stmt, Set, Put, If', For', While', Hand, Skip}
use Rattle.ac_tree.specs.Patterns.{Negative, Plus, Minus, Times, OneIndex, TwoIndexes, Negation, Conjunction, Disjunction}
use Rattle.ac_flow.specs.Listed.{IsListed}
use Rattle.ac_flow.specs.Points.{Do, Behind, Judge, Decide, See, Point, reads_of, index_reads, block, Next, cut_at}
use Rattle.ac_flow.specs.Paths.{LeadsTo, step, steps}
use Rattle.ac_flow.specs.Leads.{is_site, is_entry, is_barrier, cond_reads, is_among, past, leads, block_leads, point_leads, leads_on}
use Rattle.ac_flow.specs.Through.{passes, block_passes}
use Rattle.ac_visits.specs.Opened.{hidden, expr_shape, expr_child, cond_shape, cond_child}
use Rattle.ac_visits.specs.Visits.{EntersAt}
use Rattle.ac_walk.specs.Walks.{is_in_expr, is_in_index, is_in_cond, lefts, parts, past_by, meets, block_meets, entered, block_entered}

-- membership

pub in_either : {X : Type 0} (xs ys : List X) (x : X) → IsListed (xs ++ ys) x → IsListed xs x ⊎ IsListed ys x
in_either [] ys x h = inr h
in_either (y ∷ xs) ys x (inl e) = inl (inl e)
in_either (y ∷ xs) ys x (inr h) = elim (in_either xs ys x h) [ inl k ↦ inl (inr k) | inr k ↦ inr k ]

pub in_where : {X : Type 0} (b : Bool) (xs : List X) (x : X) → IsListed (if b then xs else []) x → (b ≡ true) × IsListed xs x
in_where true xs x h = (refl, h)
in_where false xs x h = absurd h

pub in_unless : {X : Type 0} (b : Bool) (xs : List X) (x : X) → IsListed (if b then [] else xs) x → (b ≡ false) × IsListed xs x
in_unless true xs x h = absurd h
in_unless false xs x h = (refl, h)

-- truth values

or_false : (a : Bool) → (a || false) ≡ a
or_false true = refl
or_false false = refl

or_assoc : (a b c : Bool) → ((a || b) || c) ≡ (a || (b || c))
or_assoc true b c = refl
or_assoc false b c = refl

simple_way : (a b m : Bool) → (a || (b || m)) ≡ ((a || b) || (true && m))
simple_way true b m = refl
simple_way false true m = refl
simple_way false false m = refl

branch_way : (c y z p q m : Bool) → (c || ((y || (p && m)) || (z || (q && m)))) ≡ ((c || (y || z)) || ((p || q) && m))
branch_way true y z p q m = refl
branch_way false true z p q m = refl
branch_way false false true true true true = refl
branch_way false false true true true false = refl
branch_way false false true true false true = refl
branch_way false false true true false false = refl
branch_way false false true false q true = refl
branch_way false false true false q false = refl
branch_way false false false true true true = refl
branch_way false false false true true false = refl
branch_way false false false true false true = refl
branch_way false false false true false false = refl
branch_way false false false false q m = refl

loop_way : (a : Bool) → a ≡ (a || (false && false))
loop_way a = sym (or_false a)

row_way : (m p b k r s u : Bool) → (m || (p && ((b && k) || (not b && (r || (s && u)))))) ≡ (((m || (p && (b && k))) || ((not m && (not b && p)) && r)) || (((not b && p) && s) && u))
row_way true p b k r s u = refl
row_way false false true k r s u = refl
row_way false false false k r s u = refl
row_way false true true true r s u = refl
row_way false true true false r s u = refl
row_way false true false k true s u = refl
row_way false true false k false true u = refl
row_way false true false k false false u = refl

-- control comes behind a statement where it leads there without meeting the target inside
pub goes_behind : (m p b k u : Bool) → (m || (p && ((b && k) || (not b && u)))) ≡ true → (not m && (not b && p)) ≡ true → (p ≡ true) × (b ≡ false) × (u ≡ true)
goes_behind true p b k u h g = cc
goes_behind false true true k u h g = cc
goes_behind false false true k u h g = cc
goes_behind false true false k u h g = (refl, refl, h)
goes_behind false false false k u h g = cc

either_way : (c y z : Bool) → (c || (y || z)) ≡ true → ((c || y) ≡ true) ⊎ ((c || z) ≡ true)
either_way true y z h = inl refl
either_way false true z h = inl refl
either_way false false z h = inr h

pub either_passes : (a b : Bool) → (a || b) ≡ true → (a ≡ true) ⊎ (b ≡ true)
either_passes true b h = inl refl
either_passes false b h = inr h

three_pass : (b p s : Bool) → ((not b && p) && s) ≡ true → (b ≡ false) × (p ≡ true) × (s ≡ true)
three_pass true p s h = cc
three_pass false true s h = (refl, refl, h)
three_pass false false s h = cc

left_out : (c d m : Bool) → (c || (d || m)) ≡ true → c ≡ false → (d || m) ≡ true
left_out true d m h e = cc
left_out false d m h e = h

-- in which part of an `if` a node is named, and that control leads from there
part_told : (my mn py pn m : Bool) (ys ns : List NodeId) (x : NodeId) → ((my || (py && m)) || (mn || (pn && m))) ≡ true → IsListed (parts my mn py pn ys ns) x →
    (IsListed ys x × ((my || (py && m)) ≡ true)) ⊎ (IsListed ns x × ((mn || (pn && m)) ≡ true))
part_told true mn py pn m ys ns x h k = inl (k, refl)
part_told false true py pn m ys ns x h k = inr (k, refl)
part_told false false true true true ys ns x h k = elim (in_either ys ns x k) [ inl i ↦ inl (i, refl) | inr i ↦ inr (i, refl) ]
part_told false false true false true ys ns x h k = elim (in_either ys [] x k) [ inl i ↦ inl (i, refl) | inr i ↦ absurd i ]
part_told false false false true true ys ns x h k = inr (k, refl)
part_told false false false false m ys ns x h k = absurd k
part_told false false true true false ys ns x h k = cc
part_told false false true false false ys ns x h k = cc
part_told false false false true false ys ns x h k = cc

reaches : {barrier : ℕ → Bool} (q r via : Point) → Next q r → (via ≡ r) ⊎ ((cut_at barrier r ≡ None) × LeadsTo barrier r via) → LeadsTo barrier q via
reaches q r via h (inl e) = step (subst (λ (u : Point). Next q u) (sym e) h)
reaches q r via h (inr k) = steps h k.0 k.1

module _ (barrier : ℕ → Bool) (t : Target) where
  -- the target is in an expression or a condition where one of its reads is

  joined_sites : (xs ys : List NodeId) (a b : Bool) → is_among barrier t xs ≡ a → is_among barrier t ys ≡ b → is_among barrier t (xs ++ ys) ≡ (a || b)
  joined_sites xs ys a b h k = list_any-append (is_site t) xs ys ∙ (ap (λ c. c || is_among barrier t ys) h ∙ ap (λ c. a || c) k)

  mutual
    unfolding hidden expr_shape expr_child

    pub expr_site : (n : Node) (e : ExprKind) → is_among barrier t (reads_of n e) ≡ is_in_expr t n e
    expr_site n (Num k) = refl
    expr_site n (Get x) = or_false _
    expr_site n (Read x i) = joined_sites (index_reads i) (n.id ∷ []) _ _ (index_site i) (or_false _)
    expr_site n (Negative m a) = expr_site m a
    expr_site n (Plus k a m b) = joined_sites (reads_of k a) (reads_of m b) _ _ (expr_site k a) (expr_site m b)
    expr_site n (Minus k a m b) = joined_sites (reads_of k a) (reads_of m b) _ _ (expr_site k a) (expr_site m b)
    expr_site n (Times k a m b) = joined_sites (reads_of k a) (reads_of m b) _ _ (expr_site k a) (expr_site m b)

    pub index_site : (i : Index) → is_among barrier t (index_reads i) ≡ is_in_index t i
    index_site (OneIndex n a) = expr_site n a
    index_site (TwoIndexes k a m b) = joined_sites (reads_of k a) (reads_of m b) _ _ (expr_site k a) (expr_site m b)

  pub cond_site : (c : CondKind) → is_among barrier t (cond_reads c) ≡ is_in_cond t c
  unfolding hidden cond_shape cond_child
  cond_site True = refl
  cond_site False = refl
  cond_site (Rel op a b) = joined_sites (reads_of a.node a.kind) (reads_of b.node b.kind) _ _ (expr_site a.node a.kind) (expr_site b.node b.kind)
  cond_site (Negation n c) = cond_site c
  cond_site (Conjunction n c m d) = joined_sites (cond_reads c) (cond_reads d) _ _ (cond_site c) (cond_site d)
  cond_site (Disjunction n c m d) = joined_sites (cond_reads c) (cond_reads d) _ _ (cond_site c) (cond_site d)

  -- control leads to the target through a statement where the target is met in it, or control passes and leads there behind it

  mutual
    pub leads_as : (n : NodeId) (st : StmtKind) (more : Bool) → leads barrier t n st more ≡ (meets barrier t n st || (passes barrier st && more))
    leads_as n (Set x e) more = ap (λ b. b || (is_site t n || more)) (expr_site e.node e.kind) ∙ simple_way (is_in_expr t e.node e.kind) (is_site t n) more
    leads_as n (Put x i e) more =
        ap (λ b. b || (is_site t n || more)) (joined_sites (index_reads i) (reads_of e.node e.kind) _ _ (index_site i) (expr_site e.node e.kind))
        ∙ simple_way (is_in_index t i || is_in_expr t e.node e.kind) (is_site t n) more
    leads_as n (If' test _ yes_ _ no_) more =
        ap (λ b. b || (block_leads barrier t yes_ more || block_leads barrier t no_ more)) (cond_site test.kind)
        ∙ (ap (λ b. is_in_cond t test.kind || (b || block_leads barrier t no_ more)) (block_leads_as yes_ more)
        ∙ (ap (λ b. is_in_cond t test.kind || ((block_meets barrier t yes_ || (block_passes barrier yes_ && more)) || b)) (block_leads_as no_ more)
        ∙ branch_way (is_in_cond t test.kind) (block_meets barrier t yes_) (block_meets barrier t no_) (block_passes barrier yes_) (block_passes barrier no_) more))
    leads_as n (For' x lo hi _ body) more = ap (λ b. b || is_entry t n) (joined_sites (reads_of lo.node lo.kind) (reads_of hi.node hi.kind) _ _ (expr_site lo.node lo.kind) (expr_site hi.node hi.kind)) ∙ sym (or_false _)
    leads_as n (While' test _ body) more = sym (or_false _)
    leads_as n (Hand x role) more = refl
    leads_as n Skip more = refl

    pub block_leads_as : {k : _} (row : Row_of-Stmt k) (more : Bool) → block_leads barrier t row more ≡ (block_meets barrier t row || (block_passes barrier row && more))
    block_leads_as end_of-Stmt more = refl
    block_leads_as (more_of-Stmt n st rest) more =
        leads_as n.id st (past barrier t n.id (block_leads barrier t rest more))
        ∙ (ap (λ b. meets barrier t n.id st || (passes barrier st && past barrier t n.id b)) (block_leads_as rest more)
        ∙ row_way (meets barrier t n.id st) (passes barrier st) (barrier n.id.0) (is_barrier t n.id) (block_meets barrier t rest) (block_passes barrier rest) more)

  -- control comes from a point to one where it enters a node and from which it leads to the target
  abbrev pub Found : Point → NodeId → Type 0
  Found q n = (via : Point) × ((via ≡ q) ⊎ ((cut_at barrier q ≡ None) × LeadsTo barrier q via)) × EntersAt via n × (leads_on barrier t via ≡ true)

  here : (q : Point) (n : NodeId) → EntersAt q n → leads_on barrier t q ≡ true → Found q n
  here q n e h = (q, inl refl, e, h)

  pub found_next : (q r : Point) (n : NodeId) → cut_at barrier q ≡ None → Next q r → Found r n → Found q n
  found_next q r n c h k = (k.0, inr (c, reaches q r k.0 h k.1), k.2, k.3)

  pub found_from : (q r : Point) (n : NodeId) → Next q r → (k : Found r n) → LeadsTo barrier q k.0
  found_from q r n h k = reaches q r k.0 h k.1

  -- through accesses and conditions

  seen_found : (ns : List NodeId) (after rest : Point) (n : NodeId) → Found (after ++ rest) n → Found ((map See ns ++ after) ++ rest) n
  seen_found [] after rest n k = k
  seen_found (m ∷ ns) after rest n k = found_next (See m ∷ ((map See ns ++ after) ++ rest)) ((map See ns ++ after) ++ rest) n refl (inl refl) (seen_found ns after rest n k)

  all_seen_found : (ns : List NodeId) (rest : Point) (n : NodeId) → Found rest n → Found (map See ns ++ rest) n
  all_seen_found [] rest n k = k
  all_seen_found (m ∷ ns) rest n k = found_next (See m ∷ (map See ns ++ rest)) (map See ns ++ rest) n refl (inl refl) (all_seen_found ns rest n k)

  cond_found : (c : CondKind) (rest : Point) (n : NodeId) → Found rest n → Found (Decide c ∷ rest) n
  unfolding hidden cond_shape cond_child expr_shape expr_child
  cond_found True rest n k = found_next (Decide True ∷ rest) rest n refl (inl refl) k
  cond_found False rest n k = found_next (Decide False ∷ rest) rest n refl (inl refl) k
  cond_found (Rel op a b) rest n k =
      found_next (Decide (Rel op a b) ∷ rest) (map See (reads_of a.node a.kind ++ reads_of b.node b.kind) ++ rest) n refl (inl refl) (all_seen_found (reads_of a.node a.kind ++ reads_of b.node b.kind) rest n k)
  cond_found (Negation m c) rest n k = found_next (Decide (Negation m c) ∷ rest) (Decide c ∷ rest) n refl (inl refl) (cond_found c rest n k)
  cond_found (Conjunction m c l d) rest n k =
      found_next (Decide (Conjunction m c l d) ∷ rest) (Judge (record { node = m; kind = c }) ∷ Decide d ∷ rest) n refl (inr (inl refl))
      (found_next (Judge (record { node = m; kind = c }) ∷ Decide d ∷ rest) (Decide c ∷ Decide d ∷ rest) n refl (inl refl) (cond_found c (Decide d ∷ rest) n (cond_found d rest n k)))
  cond_found (Disjunction m c l d) rest n k =
      found_next (Decide (Disjunction m c l d) ∷ rest) (Judge (record { node = m; kind = c }) ∷ Decide d ∷ rest) n refl (inr (inl refl))
      (found_next (Judge (record { node = m; kind = c }) ∷ Decide d ∷ rest) (Decide c ∷ Decide d ∷ rest) n refl (inl refl) (cond_found c (Decide d ∷ rest) n (cond_found d rest n k)))

  judge_found : (c : Cond) (rest : Point) (n : NodeId) → Found rest n → Found (Judge c ∷ rest) n
  judge_found c rest n k = found_next (Judge c ∷ rest) (Decide c.kind ∷ rest) n refl (inl refl) (cond_found c.kind rest n k)

  -- left operands

  both_told : (c d : CondKind) (more : Bool) → (is_among barrier t (cond_reads c ++ cond_reads d) || more) ≡ true → (is_among barrier t (cond_reads c) || (is_among barrier t (cond_reads d) || more)) ≡ true
  both_told c d more h = sym (ap (λ b. b || more) (list_any-append (is_site t) (cond_reads c) (cond_reads d)) ∙ or_assoc (is_among barrier t (cond_reads c)) (is_among barrier t (cond_reads d)) more) ∙ h

  lefts_found : (c : CondKind) (rest : Point) (n : NodeId) → (is_among barrier t (cond_reads c) || point_leads barrier t rest) ≡ true → IsListed (lefts t c) n → Found (Decide c ∷ rest) n
  unfolding hidden cond_shape cond_child
  lefts_found True rest n h k = absurd k
  lefts_found False rest n h k = absurd k
  lefts_found (Rel op a b) rest n h k = absurd k
  lefts_found (Negation m c) rest n h k = found_next (Decide (Negation m c) ∷ rest) (Decide c ∷ rest) n refl (inl refl) (lefts_found c rest n h k)
  lefts_found (Conjunction m c l d) rest n h (inl e) =
      found_next (Decide (Conjunction m c l d) ∷ rest) (Judge (record { node = m; kind = c }) ∷ Decide d ∷ rest) n refl (inr (inl refl))
      (here (Judge (record { node = m; kind = c }) ∷ Decide d ∷ rest) n e (both_told c d (point_leads barrier t rest) h))
  lefts_found (Conjunction m c l d) rest n h (inr k) =
      let told = both_told c d (point_leads barrier t rest) h in
      found_next (Decide (Conjunction m c l d) ∷ rest) (Judge (record { node = m; kind = c }) ∷ Decide d ∷ rest) n refl (inr (inl refl))
      (found_next (Judge (record { node = m; kind = c }) ∷ Decide d ∷ rest) (Decide c ∷ Decide d ∷ rest) n refl (inl refl)
      (elim (in_either (lefts t c) (if is_in_cond t c then [] else lefts t d) n k) [
        | inl i ↦ lefts_found c (Decide d ∷ rest) n told i
        | inr i ↦ (let j = in_unless (is_in_cond t c) (lefts t d) n i in cond_found c (Decide d ∷ rest) n (lefts_found d rest n (left_out (is_among barrier t (cond_reads c)) (is_among barrier t (cond_reads d)) (point_leads barrier t rest) told (cond_site c ∙ j.0)) j.1))
      ]))
  lefts_found (Disjunction m c l d) rest n h (inl e) =
      found_next (Decide (Disjunction m c l d) ∷ rest) (Judge (record { node = m; kind = c }) ∷ Decide d ∷ rest) n refl (inr (inl refl))
      (here (Judge (record { node = m; kind = c }) ∷ Decide d ∷ rest) n e (both_told c d (point_leads barrier t rest) h))
  lefts_found (Disjunction m c l d) rest n h (inr k) =
      let told = both_told c d (point_leads barrier t rest) h in
      found_next (Decide (Disjunction m c l d) ∷ rest) (Judge (record { node = m; kind = c }) ∷ Decide d ∷ rest) n refl (inr (inl refl))
      (found_next (Judge (record { node = m; kind = c }) ∷ Decide d ∷ rest) (Decide c ∷ Decide d ∷ rest) n refl (inl refl)
      (elim (in_either (lefts t c) (if is_in_cond t c then [] else lefts t d) n k) [
        | inl i ↦ lefts_found c (Decide d ∷ rest) n told i
        | inr i ↦ (let j = in_unless (is_in_cond t c) (lefts t d) n i in cond_found c (Decide d ∷ rest) n (lefts_found d rest n (left_out (is_among barrier t (cond_reads c)) (is_among barrier t (cond_reads d)) (point_leads barrier t rest) told (cond_site c ∙ j.0)) j.1))
      ]))

  -- a test, and what control enters in it
  pub test_found : (c : Cond) (rest : Point) (n : NodeId) → (is_among barrier t (cond_reads c.kind) || point_leads barrier t rest) ≡ true → IsListed (c.node.id ∷ lefts t c.kind) n → Found (Judge c ∷ rest) n
  test_found c rest n h (inl e) = here (Judge c ∷ rest) n e h
  test_found c rest n h (inr k) = found_next (Judge c ∷ rest) (Decide c.kind ∷ rest) n refl (inl refl) (lefts_found c.kind rest n h k)

  -- a test and what stands behind it
  pub tested_found : (c : Cond) (rest : Point) (more : List NodeId) (n : NodeId) → (is_among barrier t (cond_reads c.kind) || point_leads barrier t rest) ≡ true →
      (point_leads barrier t rest ≡ true → IsListed more n → Found rest n) → IsListed (c.node.id ∷ (lefts t c.kind ++ (if is_in_cond t c.kind then [] else more))) n → Found (Judge c ∷ rest) n
  tested_found c rest more n h f (inl e) = test_found c rest n h (inl e)
  tested_found c rest more n h f (inr k) =
      elim (in_either (lefts t c.kind) (if is_in_cond t c.kind then [] else more) n k) [
        | inl i ↦ test_found c rest n h (inr i)
        | inr i ↦ (let j = in_unless (is_in_cond t c.kind) more n i in judge_found c rest n (f (left_out (is_among barrier t (cond_reads c.kind)) false (point_leads barrier t rest) h (cond_site c.kind ∙ j.0)) j.1))
      ]

  -- through statements

  pub behind_found : (m : NodeId) (rest : Point) (n : NodeId) → barrier m.0 ≡ false → Found rest n → Found (Behind m ∷ rest) n
  behind_found m rest n h k = found_next (Behind m ∷ rest) rest n (ap (λ b. if b then Some (cut.After m) else None) h) (inl refl) k

  mutual
    pub stmt_through : (at : Node) (st : StmtKind) (rest : Point) (n : NodeId) → passes barrier st ≡ true → Found (Behind at.id ∷ rest) n → Found (Do (record { node = at; kind = st }) ∷ rest) n
    stmt_through at (Set x e) rest n h k =
        found_next (Do (record { node = at; kind = Set x e }) ∷ rest) ((map See (reads_of e.node e.kind) ++ See at.id ∷ Behind at.id ∷ []) ++ rest) n refl (inl refl)
        (seen_found (reads_of e.node e.kind) (See at.id ∷ Behind at.id ∷ []) rest n (found_next (See at.id ∷ Behind at.id ∷ rest) (Behind at.id ∷ rest) n refl (inl refl) k))
    stmt_through at (Put x i e) rest n h k =
        found_next (Do (record { node = at; kind = Put x i e }) ∷ rest) ((map See (index_reads i ++ reads_of e.node e.kind) ++ See at.id ∷ Behind at.id ∷ []) ++ rest) n refl (inl refl)
        (seen_found (index_reads i ++ reads_of e.node e.kind) (See at.id ∷ Behind at.id ∷ []) rest n (found_next (See at.id ∷ Behind at.id ∷ rest) (Behind at.id ∷ rest) n refl (inl refl) k))
    stmt_through at (If' test a yes_ b no_) rest n h k =
        elim (either_passes (block_passes barrier yes_) (block_passes barrier no_) h) [
          | inl g ↦ found_next (Do (record { node = at; kind = If' test a yes_ b no_ }) ∷ rest) (Judge test ∷ ((map Do (block yes_) ++ Behind at.id ∷ []) ++ rest)) n refl (inl refl)
              (judge_found test ((map Do (block yes_) ++ Behind at.id ∷ []) ++ rest) n (block_through yes_ (Behind at.id ∷ []) rest n g k))
          | inr g ↦ found_next (Do (record { node = at; kind = If' test a yes_ b no_ }) ∷ rest) (Judge test ∷ ((map Do (block no_) ++ Behind at.id ∷ []) ++ rest)) n refl (inr (inl refl))
              (judge_found test ((map Do (block no_) ++ Behind at.id ∷ []) ++ rest) n (block_through no_ (Behind at.id ∷ []) rest n g k))
        ]
    stmt_through at (For' x lo hi _ body) rest n h k = cc
    stmt_through at (While' test _ body) rest n h k = cc
    stmt_through at (Hand x role) rest n h k =
        found_next (Do (record { node = at; kind = Hand x role }) ∷ rest) (See at.id ∷ Behind at.id ∷ rest) n refl (inl refl) (found_next (See at.id ∷ Behind at.id ∷ rest) (Behind at.id ∷ rest) n refl (inl refl) k)
    stmt_through at Skip rest n h k = found_next (Do (record { node = at; kind = Skip }) ∷ rest) (Behind at.id ∷ rest) n refl (inl refl) k

    block_through : {m : _} (row : Row_of-Stmt m) (after rest : Point) (n : NodeId) → block_passes barrier row ≡ true → Found (after ++ rest) n → Found ((map Do (block row) ++ after) ++ rest) n
    block_through end_of-Stmt after rest n h k = k
    block_through (more_of-Stmt at st more) after rest n h k =
        let g = three_pass (barrier at.id.0) (passes barrier st) (block_passes barrier more) h in
        stmt_through at st ((map Do (block more) ++ after) ++ rest) n g.1
        (behind_found at.id ((map Do (block more) ++ after) ++ rest) n g.0 (block_through more after rest n g.2 k))

  pub done : {k : _} (row : Row_of-Stmt k) (after rest : Point) → point_leads barrier t ((map Do (block row) ++ after) ++ rest) ≡ block_leads barrier t row (point_leads barrier t (after ++ rest))
  done end_of-Stmt after rest = refl
  done (more_of-Stmt n st more) after rest = ap (λ b. leads barrier t n.id st (past barrier t n.id b)) (done more after rest)

  -- a statement and what stands behind it
  pub then_found : (at : Node) (st : StmtKind) (rest : Point) (more : List NodeId) (n : NodeId) → leads barrier t at.id st (past barrier t at.id (point_leads barrier t rest)) ≡ true →
      (IsListed (entered barrier t st) n → Found (Do (record { node = at; kind = st }) ∷ rest) n) → (point_leads barrier t rest ≡ true → IsListed more n → Found rest n) →
      IsListed (at.id ∷ (entered barrier t st ++ (if past_by barrier t at.id st (meets barrier t at.id st) then more else []))) n → Found (Do (record { node = at; kind = st }) ∷ rest) n
  then_found at st rest more n h f g (inl e) = here (Do (record { node = at; kind = st }) ∷ rest) n e h
  then_found at st rest more n h f g (inr k) =
      elim (in_either (entered barrier t st) (if past_by barrier t at.id st (meets barrier t at.id st) then more else []) n k) [
        | inl i ↦ f i
        | inr i ↦ (let j = in_where (past_by barrier t at.id st (meets barrier t at.id st)) more n i in
            let l = goes_behind (meets barrier t at.id st) (passes barrier st) (barrier at.id.0) (is_barrier t at.id) (point_leads barrier t rest)
            (sym (leads_as at.id st (past barrier t at.id (point_leads barrier t rest))) ∙ h) j.0 in
            stmt_through at st rest n l.0 (behind_found at.id rest n l.1 (g l.2 j.1)))
      ]

  mutual
    pub stmt_found : (at : Node) (st : StmtKind) (rest : Point) (n : NodeId) → leads barrier t at.id st (past barrier t at.id (point_leads barrier t rest)) ≡ true → IsListed (entered barrier t st) n →
        Found (Do (record { node = at; kind = st }) ∷ rest) n
    stmt_found at (Set x e) rest n h k = absurd k
    stmt_found at (Put x i e) rest n h k = absurd k
    stmt_found at (For' x lo hi _ body) rest n h k = absurd k
    stmt_found at (While' test _ body) rest n h k = absurd k
    stmt_found at (Hand x role) rest n h k = absurd k
    stmt_found at Skip rest n h k = absurd k
    stmt_found at (If' test a yes_ b no_) rest n h k =
        let m = past barrier t at.id (point_leads barrier t rest) in
        let yes_rest : Point = (map Do (block yes_) ++ Behind at.id ∷ []) ++ rest in
        let no_rest : Point = (map Do (block no_) ++ Behind at.id ∷ []) ++ rest in
        let by_yes : Found (Judge test ∷ yes_rest) n → Found (Do (record { node = at; kind = If' test a yes_ b no_ }) ∷ rest) n =
        λ f. found_next (Do (record { node = at; kind = If' test a yes_ b no_ }) ∷ rest) (Judge test ∷ yes_rest) n refl (inl refl) f in
        let by_no : Found (Judge test ∷ no_rest) n → Found (Do (record { node = at; kind = If' test a yes_ b no_ }) ∷ rest) n =
        λ f. found_next (Do (record { node = at; kind = If' test a yes_ b no_ }) ∷ rest) (Judge test ∷ no_rest) n refl (inr (inl refl)) f in
        let in_test : IsListed (test.node.id ∷ lefts t test.kind) n → Found (Do (record { node = at; kind = If' test a yes_ b no_ }) ∷ rest) n =
        λ i. elim (either_way (is_among barrier t (cond_reads test.kind)) (block_leads barrier t yes_ m) (block_leads barrier t no_ m) h) [
          | inl e ↦ by_yes (test_found test yes_rest n (ap (λ c. is_among barrier t (cond_reads test.kind) || c) (done yes_ (Behind at.id ∷ []) rest) ∙ e) i)
          | inr e ↦ by_no (test_found test no_rest n (ap (λ c. is_among barrier t (cond_reads test.kind) || c) (done no_ (Behind at.id ∷ []) rest) ∙ e) i)
        ] in
        let ps : List NodeId = parts (block_meets barrier t yes_) (block_meets barrier t no_) (block_passes barrier yes_) (block_passes barrier no_) (block_entered barrier t yes_) (block_entered barrier t no_) in
        elim k [
          | inl e ↦ in_test (inl e)
          | inr g ↦ elim (in_either (lefts t test.kind) (if is_in_cond t test.kind then [] else ps) n g) [
            | inl i ↦ in_test (inr i)
            | inr i ↦ (let j = in_unless (is_in_cond t test.kind) ps n i in
                let told : (block_leads barrier t yes_ m || block_leads barrier t no_ m) ≡ true = left_out (is_among barrier t (cond_reads test.kind)) (block_leads barrier t yes_ m) (block_leads barrier t no_ m) h (cond_site test.kind ∙ j.0) in
                let split = part_told (block_meets barrier t yes_) (block_meets barrier t no_) (block_passes barrier yes_) (block_passes barrier no_) m (block_entered barrier t yes_) (block_entered barrier t no_) n
                (sym (ap (λ c. c || block_leads barrier t no_ m) (block_leads_as yes_ m) ∙ ap (λ c. (block_meets barrier t yes_ || (block_passes barrier yes_ && m)) || c) (block_leads_as no_ m)) ∙ told) j.1 in
                elim split [
                  | inl w ↦ by_yes (judge_found test yes_rest n (block_found yes_ (Behind at.id ∷ []) rest n (block_leads_as yes_ m ∙ w.1) w.0))
                  | inr w ↦ by_no (judge_found test no_rest n (block_found no_ (Behind at.id ∷ []) rest n (block_leads_as no_ m ∙ w.1) w.0))
                ])
          ]
        ]

    pub block_found : {k : _} (row : Row_of-Stmt k) (after rest : Point) (n : NodeId) → block_leads barrier t row (point_leads barrier t (after ++ rest)) ≡ true → IsListed (block_entered barrier t row) n →
        Found ((map Do (block row) ++ after) ++ rest) n
    block_found end_of-Stmt after rest n h k = absurd k
    block_found (more_of-Stmt at st more) after rest n h k =
        let q : Point = (map Do (block more) ++ after) ++ rest in
        let told : leads barrier t at.id st (past barrier t at.id (point_leads barrier t q)) ≡ true = ap (λ c. leads barrier t at.id st (past barrier t at.id c)) (done more after rest) ∙ h in
        then_found at st q (block_entered barrier t more) n told (λ i. stmt_found at st q n told i) (λ e i. block_found more after rest n (sym (done more after rest) ∙ e) i) k
