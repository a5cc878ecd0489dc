-- Every listed pair is joined by a path.
use Rattle.std.proofs.Common.{◌≡◌, ℕ, Bool, true, false, ◌&&◌, ◌||◌, not, if◌then◌else◌, List, [], ◌∷◌, ◌++◌, map, Option, Some, None, refl, sym, ◌∙◌, ap, subst, append_assoc}
use mathlib.Core.Logic.{inl, inr}
use Rattle.ac_tree.specs.declared.node.Node.{Node}
use Rattle.ac_tree.specs.declared.node.NodeId.{NodeId}
use Rattle.ac_tree.specs.declared.path.Cut.{Cut}
use Rattle.ac_tree.specs.declared.path.Cut.TheVariants as cut
use Rattle.ac_tree.specs.declared.path.Pair.{Pair}
use Rattle.ac_tree.specs.declared.path.Target.{Target}
use Rattle.ac_tree.specs.declared.path.Target.TheVariants.{Entry, Keep, Barrier, Site}
use Rattle.ac_tree.specs.declared.program.Cond.{Cond}
use Rattle.ac_tree.specs.declared.program.CondKind.{CondKind}
use Rattle.ac_tree.specs.declared.program.CondKind.TheVariants.{True, False, Rel}
use Rattle.ac_tree.specs.declared.program.ExprKind.{ExprKind}
use Rattle.ac_tree.specs.declared.program.ExprKind.TheVariants.{Num, Get, Read}
use Rattle.ac_tree.specs.declared.program.Index.{Index}
use Rattle.ac_tree.specs.declared.program.Program.{Program}
use Rattle.ac_tree.specs.declared.program.Stmt.{Stmt}
use Rattle.ac_tree.specs.declared.program.StmtKind.{StmtKind, Row_of-Stmt, end_of-Stmt, more_of-Stmt, Set, Put, If', For', While', Hand, Skip}
use Rattle.ac_tree.specs.Patterns.{Negative, Plus, Minus, Times, OneIndex, TwoIndexes, Negation, Conjunction, Disjunction}
use Rattle.ac_flow.specs.Opened.{hidden, expr_shape, expr_child, cond_shape, cond_child}
use Rattle.ac_flow.specs.Points.{Do, Behind, Enter, Test, Turn, Exit, Judge, Decide, See, Point, reads_of, index_reads, block, Next, beginning, cut_at, target_at}
use Rattle.ac_flow.specs.Paths.{IsPointOf, first, next, LeadsTo, step, steps, Reaches}
use Rattle.ac_flow.specs.Through.{passes, block_passes, goes_on, exits, block_exits, leaving, behind, onward, behind_block}
use Rattle.ac_flow.specs.Listed.{IsSubjectTarget}
use Rattle.ac_flow.specs.Pairs.{each, site_pairs, expr_pairs, index_pairs, cond_pairs, barrier_pairs, loop_pairs, stmt_pairs, block_pairs, list_pairs}
use Rattle.ac_flow.proofs.Within.{In, Sub, in-left, in-right, both, same, none, late, early, pairwise}

-- one step more at the end of a path
longer : {barrier : ℕ → Bool} {p q r : Point} → LeadsTo barrier p q → cut_at barrier q ≡ None → Next q r → LeadsTo barrier p r
longer (step h) n k = steps h n (step k)
longer (steps h m path) n k = steps h m (longer path n k)

-- what is left of a part's cuts, part by part

two-parts : (F y z : List Cut) (a b : Bool) → Sub ((if a || b then F else []) ++ (y ++ z)) (((if a then F else []) ++ y) ++ ((if b then F else []) ++ z))
two-parts F y z true b =
    both F (y ++ z) ((F ++ y) ++ ((if b then F else []) ++ z)) (early F (F ++ y) ((if b then F else []) ++ z) (early F F y (same F)))
    (both y z ((F ++ y) ++ ((if b then F else []) ++ z)) (early y (F ++ y) ((if b then F else []) ++ z) (late y F y (same y))) (late z (F ++ y) ((if b then F else []) ++ z) (late z (if b then F else []) z (same z))))
two-parts F y z false true =
    both F (y ++ z) (y ++ (F ++ z)) (late F y (F ++ z) (early F F z (same F))) (pairwise y z y (F ++ z) (same y) (late z F z (same z)))
two-parts F y z false false = same (y ++ z)

through-parts : (F leave more : List Cut) (g p : Bool) → Sub ((if g && p then F else []) ++ ((if p then leave else []) ++ more)) ((if p then (if g then F else []) ++ leave else []) ++ more)
through-parts F leave more true true =
    both F (leave ++ more) ((F ++ leave) ++ more) (early F (F ++ leave) more (early F F leave (same F))) (pairwise leave more (F ++ leave) more (late leave F leave (same leave)) (same more))
through-parts F leave more true false = same more
through-parts F leave more false true = same (leave ++ more)
through-parts F leave more false false = same more

module _ (p : Program) (barrier subject : ℕ → Bool) where
  -- control comes to a point from a cut without passing another
  abbrev Led : Point → Cut → Type 0
  Led q c = (s : Point) × IsPointOf p s × (cut_at barrier s ≡ Some c) × LeadsTo barrier s q

  -- a point of the program, to which control comes from some cuts
  abbrev Here : Point → List Cut → Type 0
  Here q F = IsPointOf p q × ((c : Cut) → In F c → Led q c)

  on-next : (q r : Point) (F : List Cut) → cut_at barrier q ≡ None → Next q r → Here q F → Here r F
  on-next q r F n h (a, k) = (next a h, λ c i. let l = k c i in (l.0, l.1, l.2, longer l.3 n h))

  -- a cut begins anew
  begun : (q r : Point) (c : Cut) → cut_at barrier q ≡ Some c → Next q r → IsPointOf p q → Here r (c ∷ [])
  begun q r c e h a = (next a h, go)
    where
      go : (d : Cut) → In (c ∷ []) d → Led r d
      go d (inl i) = (q, a, e ∙ ap Some (sym i), step h)
      go d (inr i) = absurd i

  fewer : (q : Point) (F G : List Cut) → Sub F G → Here q G → Here q F
  fewer q F G f (a, k) = (a, λ c i. k c (f c i))

  no-more : (q : Point) (F : List Cut) → Here q F → Here q (F ++ [])
  no-more q F h = fewer q (F ++ []) F (both F [] F (same F) (none F)) h

  joined-here : (q : Point) (F G : List Cut) → Here q F → Here q G → Here q (F ++ G)
  joined-here q F G (a, k) (b, l) = (a, go F k)
    where
      go : (E : List Cut) → ((c : Cut) → In E c → Led q c) → (c : Cut) → In (E ++ G) c → Led q c
      go [] m c i = l c i
      go (d ∷ E) m c (inl i) = m c (inl i)
      go (d ∷ E) m c (inr i) = go E (λ x y. m x (inr y)) c i

  -- behind a statement
  leave : (n : NodeId) (st : StmtKind) (rest : Point) (F : List Cut) → Here (Behind n ∷ rest) (behind barrier F n st) → Here rest (onward barrier F n st)
  leave n st rest F h = go (barrier n.0) refl
    where
      go : (b : Bool) → barrier n.0 ≡ b → Here rest ((if not b && passes barrier st then F else []) ++ (if b then cut.After n ∷ [] else exits barrier n st))
      go true e = begun (Behind n ∷ rest) rest (cut.After n) (ap (λ b. if b then Some (cut.After n) else None) e) (inl refl) h.0
      go false e = on-next (Behind n ∷ rest) rest (behind barrier F n st) (ap (λ b. if b then Some (cut.After n) else None) e) (inl refl) h

  -- accesses
  all-seen-on : (ns : List NodeId) (rest : Point) (F : List Cut) → Here (map See ns ++ rest) F → Here rest F
  all-seen-on [] rest F h = h
  all-seen-on (n ∷ ns) rest F h = all-seen-on ns rest F (on-next (See n ∷ (map See ns ++ rest)) (map See ns ++ rest) F refl (inl refl) h)

  regrouped : (ns : List NodeId) (after rest : Point) (F : List Cut) → Here ((map See ns ++ after) ++ rest) F → Here (map See ns ++ (after ++ rest)) F
  regrouped ns after rest F h = subst (λ (q : Point). Here q F) (append_assoc (map See ns) after rest) h

  seen-on : (ns : List NodeId) (after rest : Point) (F : List Cut) → Here ((map See ns ++ after) ++ rest) F → Here (after ++ rest) F
  seen-on ns after rest F h = all-seen-on ns (after ++ rest) F (regrouped ns after rest F h)

  cond-on : (c : CondKind) (rest : Point) (F : List Cut) → Here (Decide c ∷ rest) F → Here rest F
  unfolding hidden cond_shape cond_child
  cond-on True rest F h = on-next (Decide True ∷ rest) rest F refl (inl refl) h
  cond-on False rest F h = on-next (Decide False ∷ rest) rest F refl (inl refl) h
  cond-on (Rel op a b) rest F h =
      all-seen-on (reads_of a.node a.kind ++ reads_of b.node b.kind) rest F
      (on-next (Decide (Rel op a b) ∷ rest) (map See (reads_of a.node a.kind ++ reads_of b.node b.kind) ++ rest) F refl (inl refl) h)
  cond-on (Negation n c) rest F h = cond-on c rest F (on-next (Decide (Negation n c) ∷ rest) (Decide c ∷ rest) F refl (inl refl) h)
  cond-on (Conjunction n c m d) rest F h =
      cond-on d rest F (cond-on c (Decide d ∷ rest) F
      (on-next (Judge (record { node = n; kind = c }) ∷ Decide d ∷ rest) (Decide c ∷ Decide d ∷ rest) F refl (inl refl)
      (on-next (Decide (Conjunction n c m d) ∷ rest) (Judge (record { node = n; kind = c }) ∷ Decide d ∷ rest) F refl (inr (inl refl)) h)))
  cond-on (Disjunction n c m d) rest F h =
      cond-on d rest F (cond-on c (Decide d ∷ rest) F
      (on-next (Judge (record { node = n; kind = c }) ∷ Decide d ∷ rest) (Decide c ∷ Decide d ∷ rest) F refl (inl refl)
      (on-next (Decide (Disjunction n c m d) ∷ rest) (Judge (record { node = n; kind = c }) ∷ Decide d ∷ rest) F refl (inr (inl refl)) h)))

  judge-on : (c : Cond) (rest : Point) (F : List Cut) → Here (Judge c ∷ rest) F → Here rest F
  judge-on c rest F h = cond-on c.kind rest F (on-next (Judge c ∷ rest) (Decide c.kind ∷ rest) F refl (inl refl) h)

  -- loops: the first turn of the body, and behind the last test
  turn-on : (n : NodeId) (test : Option Cond) (body : List Stmt) (rest : Point) → IsPointOf p (Test n test body ∷ rest) → Here ((map Do body ++ Turn n test body ∷ []) ++ rest) (cut.Head n ∷ [])
  turn-on n None body rest a = begun (Test n None body ∷ rest) ((map Do body ++ Turn n None body ∷ []) ++ rest) (cut.Head n) refl (inl refl) a
  turn-on n (Some c) body rest a =
      judge-on c ((map Do body ++ Turn n (Some c) body ∷ []) ++ rest) (cut.Head n ∷ [])
      (begun (Test n (Some c) body ∷ rest) (Judge c ∷ ((map Do body ++ Turn n (Some c) body ∷ []) ++ rest)) (cut.Head n) refl (inl refl) a)

  exit-on : (n : NodeId) (test : Option Cond) (body : List Stmt) (rest : Point) → IsPointOf p (Test n test body ∷ rest) → IsPointOf p (Exit n ∷ rest)
  exit-on n None body rest a = next a (inr (inl refl))
  exit-on n (Some c) body rest a =
      let h = judge-on c (Exit n ∷ rest) (cut.Head n ∷ []) (begun (Test n (Some c) body ∷ rest) (Judge c ∷ Exit n ∷ rest) (cut.Head n) refl (inr (inl refl)) a) in h.0

  test-here : (n : NodeId) (test : Option Cond) (body : List Stmt) (rest : Point) (F : List Cut) → Here (Enter n test body ∷ rest) F → IsPointOf p (Test n test body ∷ rest)
  test-here n test body rest F h = next h.0 (inl refl)

  past-loop : (n : NodeId) (test : Option Cond) (body : List Stmt) (rest : Point) → IsPointOf p (Test n test body ∷ rest) → Here (Behind n ∷ rest) (cut.Exit n ∷ [])
  past-loop n test body rest a = begun (Exit n ∷ rest) (Behind n ∷ rest) (cut.Exit n) refl (inl refl) (exit-on n test body rest a)

  -- a statement, from before it to behind it

  mutual
    stmt-on : (at : Node) (st : StmtKind) (rest : Point) (F : List Cut) → Here (Do (record { node = at; kind = st }) ∷ rest) F → Here (Behind at.id ∷ rest) (behind barrier F at.id st)
    stmt-on at (Set x e) rest F h =
        no-more (Behind at.id ∷ rest) F
        (on-next (See at.id ∷ Behind at.id ∷ rest) (Behind at.id ∷ rest) F refl (inl refl)
        (seen-on (reads_of e.node e.kind) (See at.id ∷ Behind at.id ∷ []) rest F
        (on-next (Do (record { node = at; kind = Set x e }) ∷ rest) ((map See (reads_of e.node e.kind) ++ See at.id ∷ Behind at.id ∷ []) ++ rest) F refl (inl refl) h)))
    stmt-on at (Put x i e) rest F h =
        no-more (Behind at.id ∷ rest) F
        (on-next (See at.id ∷ Behind at.id ∷ rest) (Behind at.id ∷ rest) F refl (inl refl)
        (seen-on (index_reads i ++ reads_of e.node e.kind) (See at.id ∷ Behind at.id ∷ []) rest F
        (on-next (Do (record { node = at; kind = Put x i e }) ∷ rest) ((map See (index_reads i ++ reads_of e.node e.kind) ++ See at.id ∷ Behind at.id ∷ []) ++ rest) F refl (inl refl) h)))
    stmt-on at (If' test a yes_ b no_) rest F h =
        let y : Here (Behind at.id ∷ rest) (behind_block barrier F yes_) =
        block-on yes_ (Behind at.id ∷ []) rest F (judge-on test ((map Do (block yes_) ++ Behind at.id ∷ []) ++ rest) F
        (on-next (Do (record { node = at; kind = If' test a yes_ b no_ }) ∷ rest) (Judge test ∷ ((map Do (block yes_) ++ Behind at.id ∷ []) ++ rest)) F refl (inl refl) h)) in
        let z : Here (Behind at.id ∷ rest) (behind_block barrier F no_) =
        block-on no_ (Behind at.id ∷ []) rest F (judge-on test ((map Do (block no_) ++ Behind at.id ∷ []) ++ rest) F
        (on-next (Do (record { node = at; kind = If' test a yes_ b no_ }) ∷ rest) (Judge test ∷ ((map Do (block no_) ++ Behind at.id ∷ []) ++ rest)) F refl (inr (inl refl)) h)) in
        fewer (Behind at.id ∷ rest) (behind barrier F at.id (If' test a yes_ b no_)) (behind_block barrier F yes_ ++ behind_block barrier F no_)
        (two-parts F (block_exits barrier yes_) (block_exits barrier no_) (block_passes barrier yes_) (block_passes barrier no_))
        (joined-here (Behind at.id ∷ rest) (behind_block barrier F yes_) (behind_block barrier F no_) y z)
    stmt-on at (For' x lo hi a body) rest F h =
        past-loop at.id None (block body) rest (test-here at.id None (block body) rest F (seen-on (reads_of lo.node lo.kind ++ reads_of hi.node hi.kind) (Enter at.id None (block body) ∷ []) rest F
        (on-next (Do (record { node = at; kind = For' x lo hi a body }) ∷ rest) ((map See (reads_of lo.node lo.kind ++ reads_of hi.node hi.kind) ++ Enter at.id None (block body) ∷ []) ++ rest) F refl (inl refl) h)))
    stmt-on at (While' test a body) rest F h =
        past-loop at.id (Some test) (block body) rest (test-here at.id (Some test) (block body) rest F
        (on-next (Do (record { node = at; kind = While' test a body }) ∷ rest) (Enter at.id (Some test) (block body) ∷ rest) F refl (inl refl) h))
    stmt-on at (Hand x role) rest F h =
        no-more (Behind at.id ∷ rest) F
        (on-next (See at.id ∷ Behind at.id ∷ rest) (Behind at.id ∷ rest) F refl (inl refl)
        (on-next (Do (record { node = at; kind = Hand x role }) ∷ rest) (See at.id ∷ Behind at.id ∷ rest) F refl (inl refl) h))
    stmt-on at Skip rest F h = no-more (Behind at.id ∷ rest) F (on-next (Do (record { node = at; kind = Skip }) ∷ rest) (Behind at.id ∷ rest) F refl (inl refl) h)

    block-on : {m : _} (row : Row_of-Stmt m) (after rest : Point) (F : List Cut) → Here ((map Do (block row) ++ after) ++ rest) F → Here (after ++ rest) (behind_block barrier F row)
    block-on end_of-Stmt after rest F h = no-more (after ++ rest) F h
    block-on (more_of-Stmt n st more) after rest F h =
        fewer (after ++ rest) (behind_block barrier F (more_of-Stmt n st more)) (behind_block barrier (onward barrier F n.id st) more)
        (through-parts F (leaving barrier n.id st) (block_exits barrier more) (goes_on barrier n.id st) (block_passes barrier more))
        (block-on more after rest (onward barrier F n.id st) (leave n.id st ((map Do (block more) ++ after) ++ rest) F (stmt-on n st ((map Do (block more) ++ after) ++ rest) F h)))

  -- What is listed is reached.

  abbrev Good : Pair → Type 0
  Good x = Reaches p barrier x.cut x.target × IsSubjectTarget subject x.target

  abbrev AllGood : List Pair → Type 0
  AllGood xs = (x : Pair) → In xs x → Good x

  no-good : AllGood []
  no-good x h = absurd h

  all-both : (xs ys : List Pair) → AllGood xs → AllGood ys → AllGood (xs ++ ys)
  all-both [] ys f g x h = g x h
  all-both (y ∷ xs) ys f g x (inl e) = f x (inl e)
  all-both (y ∷ xs) ys f g x (inr h) = all-both xs ys (λ z k. f z (inr k)) g x h

  each-good : (t : Target) (q : Point) (F : List Cut) → target_at barrier q ≡ Some t → IsSubjectTarget subject t → Here q F → AllGood (each F t)
  each-good t q F e a (b, k) = go F k
    where
      go : (E : List Cut) → ((c : Cut) → In E c → Led q c) → AllGood (each E t)
      go [] m x h = absurd h
      go (c ∷ E) m x (inl i) =
          let l = m c (inl refl) in
          subst (λ (y : Pair). Good y) (sym i) (record { from = l.0; to = q; of_program = l.1; is_cut = l.2; path = l.3; is_target = e }, a)
      go (c ∷ E) m x (inr h) = go E (λ d j. m d (inr j)) x h

  site-good : (n : NodeId) (rest : Point) (F : List Cut) → Here (See n ∷ rest) F → AllGood (site_pairs subject F n)
  site-good n rest F h = go (subject n.0) refl
    where
      go : (b : Bool) → subject n.0 ≡ b → AllGood (if b then each F (Site n) else [])
      go true e = each-good (Site n) (See n ∷ rest) F refl e h
      go false e = no-good

  barrier-good : (n : NodeId) (rest : Point) (F : List Cut) → Here (Behind n ∷ rest) F → AllGood (barrier_pairs barrier F n)
  barrier-good n rest F h = go (barrier n.0) refl
    where
      go : (b : Bool) → barrier n.0 ≡ b → AllGood (if b then each F (Barrier n) else [])
      go true e = each-good (Barrier n) (Behind n ∷ rest) F (ap (λ b. if b then Some (Barrier n) else None) e) tt h
      go false e = no-good

  -- the sites of some accesses
  abbrev AllSeen : List Cut → List NodeId → Type 0
  AllSeen F ns = (n : NodeId) → In ns n → AllGood (site_pairs subject F n)

  all-seen-good : (ns : List NodeId) (rest : Point) (F : List Cut) → Here (map See ns ++ rest) F → AllSeen F ns
  all-seen-good [] rest F h n i = absurd i
  all-seen-good (m ∷ ns) rest F h n (inl i) = subst (λ (k : NodeId). AllGood (site_pairs subject F k)) (sym i) (site-good m (map See ns ++ rest) F h)
  all-seen-good (m ∷ ns) rest F h n (inr i) = all-seen-good ns rest F (on-next (See m ∷ (map See ns ++ rest)) (map See ns ++ rest) F refl (inl refl) h) n i

  seen-good : (ns : List NodeId) (after rest : Point) (F : List Cut) → Here ((map See ns ++ after) ++ rest) F → AllSeen F ns
  seen-good ns after rest F h = all-seen-good ns (after ++ rest) F (regrouped ns after rest F h)

  left-seen : (F : List Cut) (ms ns : List NodeId) → AllSeen F (ms ++ ns) → AllSeen F ms
  left-seen F ms ns a n i = a n (in-left ms ns n i)

  right-seen : (F : List Cut) (ms ns : List NodeId) → AllSeen F (ms ++ ns) → AllSeen F ns
  right-seen F ms ns a n i = a n (in-right ms ns n i)

  mutual
    unfolding hidden expr_shape expr_child

    expr-good : (F : List Cut) (n : Node) (e : ExprKind) → AllSeen F (reads_of n e) → AllGood (expr_pairs subject F n e)
    expr-good F n (Num k) a = no-good
    expr-good F n (Get x) a = a n.id (inl refl)
    expr-good F n (Read x i) a =
        all-both (site_pairs subject F n.id) (index_pairs subject F i) (right-seen F (index_reads i) (n.id ∷ []) a n.id (inl refl)) (index-good F i (left-seen F (index_reads i) (n.id ∷ []) a))
    expr-good F n (Negative m b) a = expr-good F m b a
    expr-good F n (Plus k b m c) a =
        all-both (expr_pairs subject F k b) (expr_pairs subject F m c) (expr-good F k b (left-seen F (reads_of k b) (reads_of m c) a)) (expr-good F m c (right-seen F (reads_of k b) (reads_of m c) a))
    expr-good F n (Minus k b m c) a =
        all-both (expr_pairs subject F k b) (expr_pairs subject F m c) (expr-good F k b (left-seen F (reads_of k b) (reads_of m c) a)) (expr-good F m c (right-seen F (reads_of k b) (reads_of m c) a))
    expr-good F n (Times k b m c) a =
        all-both (expr_pairs subject F k b) (expr_pairs subject F m c) (expr-good F k b (left-seen F (reads_of k b) (reads_of m c) a)) (expr-good F m c (right-seen F (reads_of k b) (reads_of m c) a))

    index-good : (F : List Cut) (i : Index) → AllSeen F (index_reads i) → AllGood (index_pairs subject F i)
    index-good F (OneIndex n b) a = expr-good F n b a
    index-good F (TwoIndexes k b m c) a =
        all-both (expr_pairs subject F k b) (expr_pairs subject F m c) (expr-good F k b (left-seen F (reads_of k b) (reads_of m c) a)) (expr-good F m c (right-seen F (reads_of k b) (reads_of m c) a))

  cond-good : (c : CondKind) (rest : Point) (F : List Cut) → Here (Decide c ∷ rest) F → AllGood (cond_pairs subject F c)
  unfolding hidden cond_shape cond_child expr_shape expr_child
  cond-good True rest F h = no-good
  cond-good False rest F h = no-good
  cond-good (Rel op a b) rest F h =
      let s : AllSeen F (reads_of a.node a.kind ++ reads_of b.node b.kind) =
      all-seen-good (reads_of a.node a.kind ++ reads_of b.node b.kind) rest F
      (on-next (Decide (Rel op a b) ∷ rest) (map See (reads_of a.node a.kind ++ reads_of b.node b.kind) ++ rest) F refl (inl refl) h) in
      all-both (expr_pairs subject F a.node a.kind) (expr_pairs subject F b.node b.kind)
      (expr-good F a.node a.kind (left-seen F (reads_of a.node a.kind) (reads_of b.node b.kind) s)) (expr-good F b.node b.kind (right-seen F (reads_of a.node a.kind) (reads_of b.node b.kind) s))
  cond-good (Negation n c) rest F h = cond-good c rest F (on-next (Decide (Negation n c) ∷ rest) (Decide c ∷ rest) F refl (inl refl) h)
  cond-good (Conjunction n c m d) rest F h =
      let s : Here (Decide c ∷ Decide d ∷ rest) F =
      on-next (Judge (record { node = n; kind = c }) ∷ Decide d ∷ rest) (Decide c ∷ Decide d ∷ rest) F refl (inl refl)
      (on-next (Decide (Conjunction n c m d) ∷ rest) (Judge (record { node = n; kind = c }) ∷ Decide d ∷ rest) F refl (inr (inl refl)) h) in
      all-both (cond_pairs subject F c) (cond_pairs subject F d) (cond-good c (Decide d ∷ rest) F s) (cond-good d rest F (cond-on c (Decide d ∷ rest) F s))
  cond-good (Disjunction n c m d) rest F h =
      let s : Here (Decide c ∷ Decide d ∷ rest) F =
      on-next (Judge (record { node = n; kind = c }) ∷ Decide d ∷ rest) (Decide c ∷ Decide d ∷ rest) F refl (inl refl)
      (on-next (Decide (Disjunction n c m d) ∷ rest) (Judge (record { node = n; kind = c }) ∷ Decide d ∷ rest) F refl (inr (inl refl)) h) in
      all-both (cond_pairs subject F c) (cond_pairs subject F d) (cond-good c (Decide d ∷ rest) F s) (cond-good d rest F (cond-on c (Decide d ∷ rest) F s))

  judge-good : (c : Cond) (rest : Point) (F : List Cut) → Here (Judge c ∷ rest) F → AllGood (cond_pairs subject F c.kind)
  judge-good c rest F h = cond-good c.kind rest F (on-next (Judge c ∷ rest) (Decide c.kind ∷ rest) F refl (inl refl) h)

  -- the test of a loop
  test-good : (n : NodeId) (c : Cond) (body : List Stmt) (rest : Point) → IsPointOf p (Test n (Some c) body ∷ rest) → AllGood (cond_pairs subject (cut.Head n ∷ []) c.kind)
  test-good n c body rest a =
      judge-good c ((map Do body ++ Turn n (Some c) body ∷ []) ++ rest) (cut.Head n ∷ [])
      (begun (Test n (Some c) body ∷ rest) (Judge c ∷ ((map Do body ++ Turn n (Some c) body ∷ []) ++ rest)) (cut.Head n) refl (inl refl) a)

  loop-good : {k : _} (n : NodeId) (test : Option Cond) (body : Row_of-Stmt k) (rest : Point) (F : List Cut) → Here (Enter n test (block body) ∷ rest) F → AllGood (loop_pairs barrier F n (behind_block barrier (cut.Head n ∷ []) body))
  loop-good n test body rest F h =
      let a : IsPointOf p (Test n test (block body) ∷ rest) = test-here n test (block body) rest F h in
      let kept = behind_block barrier (cut.Head n ∷ []) body in
      all-both (each F (Entry n)) (each kept (Keep n) ++ barrier_pairs barrier (cut.Exit n ∷ []) n) (each-good (Entry n) (Enter n test (block body) ∷ rest) F refl tt h)
      (all-both (each kept (Keep n)) (barrier_pairs barrier (cut.Exit n ∷ []) n)
      (each-good (Keep n) (Turn n test (block body) ∷ rest) kept refl tt (block-on body (Turn n test (block body) ∷ []) rest (cut.Head n ∷ []) (turn-on n test (block body) rest a)))
      (barrier-good n rest (cut.Exit n ∷ []) (past-loop n test (block body) rest a)))

  mutual
    stmt-good : (at : Node) (st : StmtKind) (rest : Point) (F : List Cut) → Here (Do (record { node = at; kind = st }) ∷ rest) F → AllGood (stmt_pairs barrier subject F at.id st)
    stmt-good at (Set x e) rest F h =
        let way : Here ((map See (reads_of e.node e.kind) ++ See at.id ∷ Behind at.id ∷ []) ++ rest) F =
        on-next (Do (record { node = at; kind = Set x e }) ∷ rest) ((map See (reads_of e.node e.kind) ++ See at.id ∷ Behind at.id ∷ []) ++ rest) F refl (inl refl) h in
        let sees : Here (See at.id ∷ Behind at.id ∷ rest) F = seen-on (reads_of e.node e.kind) (See at.id ∷ Behind at.id ∷ []) rest F way in
        all-both (barrier_pairs barrier F at.id) (site_pairs subject F at.id ++ expr_pairs subject F e.node e.kind)
        (barrier-good at.id rest F (on-next (See at.id ∷ Behind at.id ∷ rest) (Behind at.id ∷ rest) F refl (inl refl) sees))
        (all-both (site_pairs subject F at.id) (expr_pairs subject F e.node e.kind) (site-good at.id (Behind at.id ∷ rest) F sees)
        (expr-good F e.node e.kind (seen-good (reads_of e.node e.kind) (See at.id ∷ Behind at.id ∷ []) rest F way)))
    stmt-good at (Put x i e) rest F h =
        let ns = index_reads i ++ reads_of e.node e.kind in
        let way : Here ((map See (index_reads i ++ reads_of e.node e.kind) ++ See at.id ∷ Behind at.id ∷ []) ++ rest) F =
        on-next (Do (record { node = at; kind = Put x i e }) ∷ rest) ((map See (index_reads i ++ reads_of e.node e.kind) ++ See at.id ∷ Behind at.id ∷ []) ++ rest) F refl (inl refl) h in
        let sees : Here (See at.id ∷ Behind at.id ∷ rest) F = seen-on (index_reads i ++ reads_of e.node e.kind) (See at.id ∷ Behind at.id ∷ []) rest F way in
        let all : AllSeen F (index_reads i ++ reads_of e.node e.kind) = seen-good (index_reads i ++ reads_of e.node e.kind) (See at.id ∷ Behind at.id ∷ []) rest F way in
        all-both (barrier_pairs barrier F at.id) (site_pairs subject F at.id ++ (index_pairs subject F i ++ expr_pairs subject F e.node e.kind))
        (barrier-good at.id rest F (on-next (See at.id ∷ Behind at.id ∷ rest) (Behind at.id ∷ rest) F refl (inl refl) sees))
        (all-both (site_pairs subject F at.id) (index_pairs subject F i ++ expr_pairs subject F e.node e.kind) (site-good at.id (Behind at.id ∷ rest) F sees)
        (all-both (index_pairs subject F i) (expr_pairs subject F e.node e.kind) (index-good F i (left-seen F (index_reads i) (reads_of e.node e.kind) all)) (expr-good F e.node e.kind (right-seen F (index_reads i) (reads_of e.node e.kind) all))))
    stmt-good at (If' test a yes_ b no_) rest F h =
        let yes_way : Here (Judge test ∷ ((map Do (block yes_) ++ Behind at.id ∷ []) ++ rest)) F =
        on-next (Do (record { node = at; kind = If' test a yes_ b no_ }) ∷ rest) (Judge test ∷ ((map Do (block yes_) ++ Behind at.id ∷ []) ++ rest)) F refl (inl refl) h in
        let no_way : Here (Judge test ∷ ((map Do (block no_) ++ Behind at.id ∷ []) ++ rest)) F =
        on-next (Do (record { node = at; kind = If' test a yes_ b no_ }) ∷ rest) (Judge test ∷ ((map Do (block no_) ++ Behind at.id ∷ []) ++ rest)) F refl (inr (inl refl)) h in
        all-both (barrier_pairs barrier (behind barrier F at.id (If' test a yes_ b no_)) at.id) (cond_pairs subject F test.kind ++ (block_pairs barrier subject F yes_ ++ block_pairs barrier subject F no_))
        (barrier-good at.id rest (behind barrier F at.id (If' test a yes_ b no_)) (stmt-on at (If' test a yes_ b no_) rest F h))
        (all-both (cond_pairs subject F test.kind) (block_pairs barrier subject F yes_ ++ block_pairs barrier subject F no_) (judge-good test ((map Do (block yes_) ++ Behind at.id ∷ []) ++ rest) F yes_way)
        (all-both (block_pairs barrier subject F yes_) (block_pairs barrier subject F no_)
        (block-good yes_ (Behind at.id ∷ []) rest F (judge-on test ((map Do (block yes_) ++ Behind at.id ∷ []) ++ rest) F yes_way))
        (block-good no_ (Behind at.id ∷ []) rest F (judge-on test ((map Do (block no_) ++ Behind at.id ∷ []) ++ rest) F no_way))))
    stmt-good at (For' x lo hi a body) rest F h =
        let way : Here ((map See (reads_of lo.node lo.kind ++ reads_of hi.node hi.kind) ++ Enter at.id None (block body) ∷ []) ++ rest) F =
        on-next (Do (record { node = at; kind = For' x lo hi a body }) ∷ rest) ((map See (reads_of lo.node lo.kind ++ reads_of hi.node hi.kind) ++ Enter at.id None (block body) ∷ []) ++ rest) F refl (inl refl) h in
        let all : AllSeen F (reads_of lo.node lo.kind ++ reads_of hi.node hi.kind) = seen-good (reads_of lo.node lo.kind ++ reads_of hi.node hi.kind) (Enter at.id None (block body) ∷ []) rest F way in
        let entered : Here (Enter at.id None (block body) ∷ rest) F = seen-on (reads_of lo.node lo.kind ++ reads_of hi.node hi.kind) (Enter at.id None (block body) ∷ []) rest F way in
        all-both (loop_pairs barrier F at.id (behind_block barrier (cut.Head at.id ∷ []) body)) (expr_pairs subject F lo.node lo.kind ++ (expr_pairs subject F hi.node hi.kind ++ block_pairs barrier subject (cut.Head at.id ∷ []) body))
        (loop-good at.id None body rest F entered)
        (all-both (expr_pairs subject F lo.node lo.kind) (expr_pairs subject F hi.node hi.kind ++ block_pairs barrier subject (cut.Head at.id ∷ []) body)
        (expr-good F lo.node lo.kind (left-seen F (reads_of lo.node lo.kind) (reads_of hi.node hi.kind) all))
        (all-both (expr_pairs subject F hi.node hi.kind) (block_pairs barrier subject (cut.Head at.id ∷ []) body)
        (expr-good F hi.node hi.kind (right-seen F (reads_of lo.node lo.kind) (reads_of hi.node hi.kind) all))
        (block-good body (Turn at.id None (block body) ∷ []) rest (cut.Head at.id ∷ []) (turn-on at.id None (block body) rest (test-here at.id None (block body) rest F entered)))))
    stmt-good at (While' test a body) rest F h =
        let entered : Here (Enter at.id (Some test) (block body) ∷ rest) F =
        on-next (Do (record { node = at; kind = While' test a body }) ∷ rest) (Enter at.id (Some test) (block body) ∷ rest) F refl (inl refl) h in
        let tested : IsPointOf p (Test at.id (Some test) (block body) ∷ rest) = test-here at.id (Some test) (block body) rest F entered in
        all-both (loop_pairs barrier F at.id (behind_block barrier (cut.Head at.id ∷ []) body)) (cond_pairs subject (cut.Head at.id ∷ []) test.kind ++ block_pairs barrier subject (cut.Head at.id ∷ []) body)
        (loop-good at.id (Some test) body rest F entered)
        (all-both (cond_pairs subject (cut.Head at.id ∷ []) test.kind) (block_pairs barrier subject (cut.Head at.id ∷ []) body) (test-good at.id test (block body) rest tested)
        (block-good body (Turn at.id (Some test) (block body) ∷ []) rest (cut.Head at.id ∷ []) (turn-on at.id (Some test) (block body) rest tested)))
    stmt-good at (Hand x role) rest F h =
        let sees : Here (See at.id ∷ Behind at.id ∷ rest) F = on-next (Do (record { node = at; kind = Hand x role }) ∷ rest) (See at.id ∷ Behind at.id ∷ rest) F refl (inl refl) h in
        all-both (barrier_pairs barrier F at.id) (site_pairs subject F at.id)
        (barrier-good at.id rest F (on-next (See at.id ∷ Behind at.id ∷ rest) (Behind at.id ∷ rest) F refl (inl refl) sees)) (site-good at.id (Behind at.id ∷ rest) F sees)
    stmt-good at Skip rest F h = barrier-good at.id rest F (on-next (Do (record { node = at; kind = Skip }) ∷ rest) (Behind at.id ∷ rest) F refl (inl refl) h)

    block-good : {m : _} (row : Row_of-Stmt m) (after rest : Point) (F : List Cut) → Here ((map Do (block row) ++ after) ++ rest) F → AllGood (block_pairs barrier subject F row)
    block-good end_of-Stmt after rest F h = no-good
    block-good (more_of-Stmt n st more) after rest F h =
        all-both (stmt_pairs barrier subject F n.id st) (block_pairs barrier subject (onward barrier F n.id st) more) (stmt-good n st ((map Do (block more) ++ after) ++ rest) F h)
        (block-good more after rest (onward barrier F n.id st) (leave n.id st ((map Do (block more) ++ after) ++ rest) F (stmt-on n st ((map Do (block more) ++ after) ++ rest) F h)))

  list-good : (sts : List Stmt) (F : List Cut) → Here (map Do sts) F → AllGood (list_pairs barrier subject F sts)
  list-good [] F h = no-good
  list-good (st ∷ sts) F h =
      all-both (stmt_pairs barrier subject F st.node.id st.kind) (list_pairs barrier subject (onward barrier F st.node.id st.kind) sts) (stmt-good st.node st.kind (map Do sts) F h)
      (list-good sts (onward barrier F st.node.id st.kind) (leave st.node.id st.kind (map Do sts) F (stmt-on st.node st.kind (map Do sts) F h)))

  pub listed-reached : (c : Cut) (t : Target) → In (list_pairs barrier subject (cut.Start ∷ []) p.body) (record { cut = c; target = t }) → Reaches p barrier c t × IsSubjectTarget subject t
  listed-reached c t h = list-good p.body (cut.Start ∷ []) (begun (beginning p) (map Do p.body) cut.Start refl (inl refl) first) (record { cut = c; target = t }) h
