-- A step keeps the pairs that are left: those of the point behind it were listed at the point before it.
use Rattle.std.proofs.Common.{◌≡◌, ℕ, Bool, true, false, ◌&&◌, ◌||◌, not, if◌then◌else◌, List, [], ◌∷◌, ◌++◌, map, Option, Some, None, refl, sym, ◌∙◌, ap, subst, append_assoc}
use mathlib.Core.Logic.{inl, inr}
use Rattle.ac_tree.specs.declared.node.Node.{Node}
use Rattle.ac_tree.specs.declared.node.NodeId.{NodeId}
use Rattle.ac_tree.specs.declared.path.Cut.{Cut}
use Rattle.ac_tree.specs.declared.path.Cut.TheVariants as cut
use Rattle.ac_tree.specs.declared.path.Pair.{Pair}
use Rattle.ac_tree.specs.declared.path.Target.TheVariants.{Entry, Keep}
use Rattle.ac_tree.specs.declared.program.Cond.{Cond}
use Rattle.ac_tree.specs.declared.program.CondKind.{CondKind}
use Rattle.ac_tree.specs.declared.program.CondKind.TheVariants.{True, False, Rel}
use Rattle.ac_tree.specs.declared.program.Stmt.{Stmt}
use Rattle.ac_tree.specs.declared.program.StmtKind.{StmtKind, Row_of-Stmt, Set, Put, If', For', While', Hand, Skip}
use Rattle.ac_tree.specs.Patterns.{Negation, Conjunction, Disjunction}
use Rattle.ac_flow.specs.Opened.{hidden, expr_shape, expr_child, cond_shape, cond_child}
use Rattle.ac_flow.specs.Points.{Begin, Do, Behind, Enter, Test, Turn, Exit, Judge, Decide, See, Point, reads_of, index_reads, block, ways_of, ways_through, IsOneWay, Next, cut_at}
use Rattle.ac_flow.specs.Through.{passes, block_passes, exits, block_exits, behind, onward, behind_block}
use Rattle.ac_flow.specs.ThroughLists.{behind_list}
use Rattle.ac_flow.proofs.Within.{In, Sub, in-left, both, same, none, equal, late, early, pairwise, none-some, some-none, some-same}
use Rattle.ac_flow.specs.Pairs.{each, site_pairs, expr_pairs, index_pairs, cond_pairs, barrier_pairs, loop_pairs, block_pairs, list_pairs}
use Rattle.ac_flow.proofs.MorePairs.{more-barrier}
use Rattle.ac_flow.proofs.PointPairs.{on, in_test, exit_pairs, turn_pairs, point_pairs, more-point, sites, two-sites, reads-listed, index-listed, seen, all-seen, done, row-pairs, row-behind}

module _ (barrier subject : ℕ → Bool) where
  -- behind a statement control goes on from the cuts that its own lists have
  on-onward : (n : NodeId) (st : StmtKind) (F G : List Cut) → Sub G (behind barrier F n st) → Sub (on barrier subject n G) (onward barrier F n st)
  on-onward n st F G f = go (barrier n.0)
    where
      go : (b : Bool) → Sub (if b then cut.After n ∷ [] else G) ((if not b && passes barrier st then F else []) ++ (if b then cut.After n ∷ [] else exits barrier n st))
      go true = same (cut.After n ∷ [])
      go false = f

  -- One step: the cuts from which control comes there, whose pairs were listed before. A cut begins anew.
  abbrev pub Stepped : List Cut → Point → Point → Type 0
  Stepped F p q =
      (G : List Cut) × Sub (point_pairs barrier subject G q) (point_pairs barrier subject F p) × (cut_at barrier p ≡ None → Sub F G) × ((c : Cut) → cut_at barrier p ≡ Some c → In G c)

  keeps : (F : List Cut) (p q : Point) → cut_at barrier p ≡ None → Sub (point_pairs barrier subject F q) (point_pairs barrier subject F p) → Stepped F p q
  keeps F p q e f = (F, f, (λ h. same F), (λ c h. absurd (none-some (sym e ∙ h))))

  moved : (F : List Cut) (p q way : Point) → q ≡ way → Stepped F p way → Stepped F p q
  moved F p q way e s = subst (λ (z : Point). Stepped F p z) (sym e) s

  -- the barrier behind a statement, and what is left to do
  behind-listed : (F G : List Cut) (n : NodeId) (st : StmtKind) (rest : Point) → Sub G (behind barrier F n st) →
      Sub (point_pairs barrier subject G (Behind n ∷ rest)) (barrier_pairs barrier (behind barrier F n st) n ++ point_pairs barrier subject (onward barrier F n st) rest)
  behind-listed F G n st rest f =
      pairwise (barrier_pairs barrier G n) (point_pairs barrier subject (on barrier subject n G) rest) (barrier_pairs barrier (behind barrier F n st) n) (point_pairs barrier subject (onward barrier F n st) rest)
      (more-barrier barrier subject n G (behind barrier F n st) f) (more-point barrier subject rest (on barrier subject n G) (onward barrier F n st) (on-onward n st F G f))

  simple-listed : (F : List Cut) (n : NodeId) (st : StmtKind) (rest : Point) → Sub F (behind barrier F n st) →
      Sub (point_pairs barrier subject F (Behind n ∷ rest)) (barrier_pairs barrier F n ++ point_pairs barrier subject (onward barrier F n st) rest)
  simple-listed F n st rest f =
      pairwise (barrier_pairs barrier F n) (point_pairs barrier subject (on barrier subject n F) rest) (barrier_pairs barrier F n) (point_pairs barrier subject (onward barrier F n st) rest)
      (same (barrier_pairs barrier F n)) (more-point barrier subject rest (on barrier subject n F) (onward barrier F n st) (on-onward n st F F f))

  -- an assignment, from its accesses on
  set-listed : (F : List Cut) (B S E R : List Pair) (X : List Pair) → Sub X E → Sub (X ++ (S ++ (B ++ R))) ((B ++ (S ++ E)) ++ R)
  set-listed F B S E R X f =
      both X (S ++ (B ++ R)) ((B ++ (S ++ E)) ++ R) (early X (B ++ (S ++ E)) R (late X B (S ++ E) (late X S E f)))
      (both S (B ++ R) ((B ++ (S ++ E)) ++ R) (early S (B ++ (S ++ E)) R (late S B (S ++ E) (early S S E (same S))))
      (pairwise B R (B ++ (S ++ E)) R (early B B (S ++ E) (same B)) (same R)))

  if-listed : (B C Y N R W P Q : List Pair) → Sub W (Y ++ N) → Sub P B → Sub Q R → Sub (C ++ (W ++ (P ++ Q))) ((B ++ (C ++ (Y ++ N))) ++ R)
  if-listed B C Y N R W P Q f g h =
      both C (W ++ (P ++ Q)) ((B ++ (C ++ (Y ++ N))) ++ R) (early C (B ++ (C ++ (Y ++ N))) R (late C B (C ++ (Y ++ N)) (early C C (Y ++ N) (same C))))
      (both W (P ++ Q) ((B ++ (C ++ (Y ++ N))) ++ R) (early W (B ++ (C ++ (Y ++ N))) R (late W B (C ++ (Y ++ N)) (late W C (Y ++ N) f)))
      (pairwise P Q (B ++ (C ++ (Y ++ N))) R (early P B (C ++ (Y ++ N)) g) h))

  part-leaves : (F yes_exits no_exits : List Cut) (a b : Bool) → Sub ((if a then F else []) ++ yes_exits) ((if a || b then F else []) ++ (yes_exits ++ no_exits))
  part-leaves F y z true b = pairwise F y F (y ++ z) (same F) (early y y z (same y))
  part-leaves F y z false b = late y (if b then F else []) (y ++ z) (early y y z (same y))

  other-leaves : (F yes_exits no_exits : List Cut) (a b : Bool) → Sub ((if b then F else []) ++ no_exits) ((if a || b then F else []) ++ (yes_exits ++ no_exits))
  other-leaves F y z true true = pairwise F z F (y ++ z) (same F) (late z y z (same z))
  other-leaves F y z true false = late z F (y ++ z) (late z y z (same z))
  other-leaves F y z false b = pairwise (if b then F else []) z (if b then F else []) (y ++ z) (same (if b then F else [])) (late z y z (same z))

  -- one part of an `if`
  part-listed : (F : List Cut) (at : Node) (test : Cond) (sts : List Stmt) (rest : Point) (L Y N : List Pair) (If : StmtKind) → Sub (list_pairs barrier subject F sts) (Y ++ N) → Sub (behind_list barrier F sts) (behind barrier F at.id If) →
      Sub (point_pairs barrier subject F (Judge test ∷ ((map Do sts ++ Behind at.id ∷ []) ++ rest))) ((barrier_pairs barrier (behind barrier F at.id If) at.id ++ (cond_pairs subject F test.kind ++ (Y ++ N))) ++ point_pairs barrier subject (onward barrier F at.id If) rest)
  part-listed F at test sts rest L Y N If f g x h =
      let C = cond_pairs subject F test.kind in
      let W = list_pairs barrier subject F sts in
      let G = behind_list barrier F sts in
      if-listed (barrier_pairs barrier (behind barrier F at.id If) at.id) C Y N (point_pairs barrier subject (onward barrier F at.id If) rest) W (barrier_pairs barrier G at.id) (point_pairs barrier subject (on barrier subject at.id G) rest)
      f (more-barrier barrier subject at.id G (behind barrier F at.id If) g) (more-point barrier subject rest (on barrier subject at.id G) (onward barrier F at.id If) (on-onward at.id If F G g)) x
      (pairwise C (point_pairs barrier subject F ((map Do sts ++ Behind at.id ∷ []) ++ rest)) C (W ++ point_pairs barrier subject G (Behind at.id ∷ rest)) (same C) (done barrier subject F sts (Behind at.id ∷ []) rest) x h)

  -- a loop: its entry, its turns and what is behind it
  turned : (n : NodeId) (test : Option Cond) (body : List Stmt) (R W : List Pair) → Sub W (list_pairs barrier subject (cut.Head n ∷ []) body ++ (each (behind_list barrier (cut.Head n ∷ []) body) (Keep n) ++ turn_pairs barrier subject n test body R)) → Sub W (turn_pairs barrier subject n test body R)
  turned n test body R W f x h =
      let T = in_test barrier subject n test in
      let L = list_pairs barrier subject (cut.Head n ∷ []) body in
      let K = each (behind_list barrier (cut.Head n ∷ []) body) (Keep n) in
      let E = exit_pairs barrier subject n R in
      both L (K ++ turn_pairs barrier subject n test body R) (turn_pairs barrier subject n test body R) (late L T (L ++ (K ++ E)) (early L L (K ++ E) (same L)))
      (both K (turn_pairs barrier subject n test body R) (turn_pairs barrier subject n test body R) (late K T (L ++ (K ++ E)) (late K L (K ++ E) (early K K E (same K)))) (same (turn_pairs barrier subject n test body R))) x (f x h)

  left : (n : NodeId) (test : Option Cond) (body : List Stmt) (R : List Pair) → Sub (exit_pairs barrier subject n R) (turn_pairs barrier subject n test body R)
  left n test body R =
      let T = in_test barrier subject n test in
      let L = list_pairs barrier subject (cut.Head n ∷ []) body in
      let K = each (behind_list barrier (cut.Head n ∷ []) body) (Keep n) in
      let E = exit_pairs barrier subject n R in
      late E T (L ++ (K ++ E)) (late E L (K ++ E) (late E K E (same E)))

  -- the pairs that begin a loop, with what its test and its body have, and what is behind
  around-listed : (En T L K B R Q M : List Pair) → Sub T M → Sub L M → Sub R Q → Sub (En ++ (T ++ (L ++ (K ++ (B ++ R))))) (((En ++ (K ++ B)) ++ M) ++ Q)
  around-listed En T L K B R Q M t l r =
      let Z = ((En ++ (K ++ B)) ++ M) ++ Q in
      let G = En ++ (K ++ B) in
      both En (T ++ (L ++ (K ++ (B ++ R)))) Z (early En (G ++ M) Q (early En G M (early En En (K ++ B) (same En))))
      (both T (L ++ (K ++ (B ++ R))) Z (early T (G ++ M) Q (late T G M t))
      (both L (K ++ (B ++ R)) Z (early L (G ++ M) Q (late L G M l))
      (both K (B ++ R) Z (early K (G ++ M) Q (early K G M (late K En (K ++ B) (early K K B (same K)))))
      (both B R Z (early B (G ++ M) Q (early B G M (late B En (K ++ B) (late B K B (same B))))) (late R (G ++ M) Q r)))))

  loop-listed : {k : _} (F : List Cut) (n : NodeId) (body : Row_of-Stmt k) (L H Q S R : List Pair) → Sub S (L ++ H) → Sub R Q →
      Sub (S ++ (each F (Entry n) ++ turn_pairs barrier subject n None (block body) R)) ((loop_pairs barrier F n (behind_block barrier (cut.Head n ∷ []) body) ++ (L ++ (H ++ block_pairs barrier subject (cut.Head n ∷ []) body))) ++ Q)
  loop-listed F n body L H Q S R f g =
      let En = each F (Entry n) in
      let K = each (behind_block barrier (cut.Head n ∷ []) body) (Keep n) in
      let B = barrier_pairs barrier (cut.Exit n ∷ []) n in
      let I = block_pairs barrier subject (cut.Head n ∷ []) body in
      let W = list_pairs barrier subject (cut.Head n ∷ []) (block body) in
      let M = L ++ (H ++ I) in
      let G = En ++ (K ++ B) in
      both S (En ++ turn_pairs barrier subject n None (block body) R) ((G ++ M) ++ Q)
      (λ x y. early M (G ++ M) Q (late M G M (same M)) x (both L H M (early L L (H ++ I) (same L)) (late H L (H ++ I) (early H H I (same H))) x (f x y)))
      (λ x y. around-listed En [] W K B R Q M (none M) (λ z w. late I L (H ++ I) (late I H I (same I)) z (equal W I (row-pairs barrier subject body (cut.Head n ∷ [])) z w)) g x
      (equal (En ++ turn_pairs barrier subject n None (block body) R) (En ++ ([] ++ (W ++ (K ++ (B ++ R))))) (ap (λ (cs : List Cut). En ++ (W ++ (each cs (Keep n) ++ (B ++ R)))) (row-behind barrier subject body (cut.Head n ∷ []))) x y))

  while-listed : {k : _} (F : List Cut) (n : NodeId) (test : Cond) (body : Row_of-Stmt k) (Q R : List Pair) → Sub R Q →
      Sub (each F (Entry n) ++ turn_pairs barrier subject n (Some test) (block body) R) ((loop_pairs barrier F n (behind_block barrier (cut.Head n ∷ []) body) ++ (cond_pairs subject (cut.Head n ∷ []) test.kind ++ block_pairs barrier subject (cut.Head n ∷ []) body)) ++ Q)
  while-listed F n test body Q R g x y =
      let En = each F (Entry n) in
      let K = each (behind_block barrier (cut.Head n ∷ []) body) (Keep n) in
      let B = barrier_pairs barrier (cut.Exit n ∷ []) n in
      let T = cond_pairs subject (cut.Head n ∷ []) test.kind in
      let I = block_pairs barrier subject (cut.Head n ∷ []) body in
      let W = list_pairs barrier subject (cut.Head n ∷ []) (block body) in
      around-listed En T W K B R Q (T ++ I) (early T T I (same T)) (λ z w. late I T I (same I) z (equal W I (row-pairs barrier subject body (cut.Head n ∷ [])) z w)) g x
      (equal (En ++ turn_pairs barrier subject n (Some test) (block body) R) (En ++ (T ++ (W ++ (K ++ (B ++ R))))) (ap (λ (cs : List Cut). En ++ (T ++ (W ++ (each cs (Keep n) ++ (B ++ R))))) (row-behind barrier subject body (cut.Head n ∷ []))) x y)

  kept-behind : (n : NodeId) (F : List Cut) (b : Bool) → (if b then Some (cut.After n) else None) ≡ None → Sub F (if b then cut.After n ∷ [] else F)
  kept-behind n F true h = absurd (some-none h)
  kept-behind n F false h = same F

  begun-behind : (n : NodeId) (F : List Cut) (b : Bool) (c : Cut) → (if b then Some (cut.After n) else None) ≡ Some c → In (if b then cut.After n ∷ [] else F) c
  begun-behind n F true c h = inl (sym (some-same h))
  begun-behind n F false c h = absurd (none-some h)

  cond_step : (c : CondKind) (rest q : Point) → IsOneWay (ways_through c) rest q → (F : List Cut) → Stepped F (Decide c ∷ rest) q
  unfolding hidden cond_shape cond_child expr_shape expr_child
  cond_step True rest q (inl k) F = moved F (Decide True ∷ rest) q rest k (keeps F (Decide True ∷ rest) (rest) refl (same (point_pairs barrier subject F rest)))
  cond_step True rest q (inr h) F = absurd h
  cond_step False rest q (inl k) F = moved F (Decide False ∷ rest) q rest k (keeps F (Decide False ∷ rest) (rest) refl (same (point_pairs barrier subject F rest)))
  cond_step False rest q (inr h) F = absurd h
  cond_step (Rel op a b) rest q (inl k) F =
      let ns = reads_of a.node a.kind ++ reads_of b.node b.kind in
      let E = expr_pairs subject F a.node a.kind ++ expr_pairs subject F b.node b.kind in
      moved F (Decide (Rel op a b) ∷ rest) q (map See ns ++ rest) k
      (keeps F (Decide (Rel op a b) ∷ rest) ((map See ns ++ rest)) refl
      (λ x h. pairwise (sites barrier subject F ns) (point_pairs barrier subject F rest) E (point_pairs barrier subject F rest)
      (two-sites barrier subject F (reads_of a.node a.kind) (reads_of b.node b.kind) (expr_pairs subject F a.node a.kind) (expr_pairs subject F b.node b.kind) (reads-listed barrier subject F a.node a.kind) (reads-listed barrier subject F b.node b.kind))
      (same (point_pairs barrier subject F rest)) x (all-seen barrier subject F ns rest x h)))
  cond_step (Rel op a b) rest q (inr h) F = absurd h
  cond_step (Negation n c) rest q (inl k) F = moved F (Decide (Negation n c) ∷ rest) q (Decide c ∷ rest) k (keeps F (Decide (Negation n c) ∷ rest) ((Decide c ∷ rest)) refl (same (cond_pairs subject F c ++ point_pairs barrier subject F rest)))
  cond_step (Negation n c) rest q (inr h) F = absurd h
  cond_step (Conjunction n c m d) rest q (inl k) F =
      moved F (Decide (Conjunction n c m d) ∷ rest) q (Judge (record { node = n; kind = c }) ∷ rest) k
      (keeps F (Decide (Conjunction n c m d) ∷ rest) ((Judge (record { node = n; kind = c }) ∷ rest)) refl
      (pairwise (cond_pairs subject F c) (point_pairs barrier subject F rest) (cond_pairs subject F c ++ cond_pairs subject F d) (point_pairs barrier subject F rest) (in-left (cond_pairs subject F c) (cond_pairs subject F d)) (same (point_pairs barrier subject F rest))))
  cond_step (Conjunction n c m d) rest q (inr (inl k)) F =
      moved F (Decide (Conjunction n c m d) ∷ rest) q (Judge (record { node = n; kind = c }) ∷ Decide d ∷ rest) k
      (keeps F (Decide (Conjunction n c m d) ∷ rest) ((Judge (record { node = n; kind = c }) ∷ Decide d ∷ rest)) refl
      (equal (cond_pairs subject F c ++ (cond_pairs subject F d ++ point_pairs barrier subject F rest)) ((cond_pairs subject F c ++ cond_pairs subject F d) ++ point_pairs barrier subject F rest)
      (sym (append_assoc (cond_pairs subject F c) (cond_pairs subject F d) (point_pairs barrier subject F rest)))))
  cond_step (Conjunction n c m d) rest q (inr (inr h)) F = absurd h
  cond_step (Disjunction n c m d) rest q (inl k) F =
      moved F (Decide (Disjunction n c m d) ∷ rest) q (Judge (record { node = n; kind = c }) ∷ rest) k
      (keeps F (Decide (Disjunction n c m d) ∷ rest) ((Judge (record { node = n; kind = c }) ∷ rest)) refl
      (pairwise (cond_pairs subject F c) (point_pairs barrier subject F rest) (cond_pairs subject F c ++ cond_pairs subject F d) (point_pairs barrier subject F rest) (in-left (cond_pairs subject F c) (cond_pairs subject F d)) (same (point_pairs barrier subject F rest))))
  cond_step (Disjunction n c m d) rest q (inr (inl k)) F =
      moved F (Decide (Disjunction n c m d) ∷ rest) q (Judge (record { node = n; kind = c }) ∷ Decide d ∷ rest) k
      (keeps F (Decide (Disjunction n c m d) ∷ rest) ((Judge (record { node = n; kind = c }) ∷ Decide d ∷ rest)) refl
      (equal (cond_pairs subject F c ++ (cond_pairs subject F d ++ point_pairs barrier subject F rest)) ((cond_pairs subject F c ++ cond_pairs subject F d) ++ point_pairs barrier subject F rest)
      (sym (append_assoc (cond_pairs subject F c) (cond_pairs subject F d) (point_pairs barrier subject F rest)))))
  cond_step (Disjunction n c m d) rest q (inr (inr h)) F = absurd h

  stmt_step : (at : Node) (st : StmtKind) (rest q : Point) → IsOneWay (ways_of at.id st) rest q → (F : List Cut) → Stepped F (Do (record { node = at; kind = st }) ∷ rest) q
  stmt_step at (Set x e) rest q (inr h) F = absurd h
  stmt_step at (Set x e) rest q (inl k) F =
      moved F (Do (record { node = at; kind = Set x e }) ∷ rest) q ((map See (reads_of e.node e.kind) ++ See at.id ∷ Behind at.id ∷ []) ++ rest) k
      (keeps F (Do (record { node = at; kind = Set x e }) ∷ rest) ((map See (reads_of e.node e.kind) ++ See at.id ∷ Behind at.id ∷ []) ++ rest) refl
      (λ x' h. set-listed F (barrier_pairs barrier F at.id) (site_pairs subject F at.id) (expr_pairs subject F e.node e.kind) (point_pairs barrier subject (onward barrier F at.id (Set x e)) rest) (sites barrier subject F (reads_of e.node e.kind)) (reads-listed barrier subject F e.node e.kind) x'
      (pairwise (sites barrier subject F (reads_of e.node e.kind)) (site_pairs subject F at.id ++ point_pairs barrier subject F (Behind at.id ∷ rest)) (sites barrier subject F (reads_of e.node e.kind)) (site_pairs subject F at.id ++ (barrier_pairs barrier F at.id ++ point_pairs barrier subject (onward barrier F at.id (Set x e)) rest))
      (same (sites barrier subject F (reads_of e.node e.kind)))
      (pairwise (site_pairs subject F at.id) (point_pairs barrier subject F (Behind at.id ∷ rest)) (site_pairs subject F at.id) (barrier_pairs barrier F at.id ++ point_pairs barrier subject (onward barrier F at.id (Set x e)) rest) (same (site_pairs subject F at.id)) (simple-listed F at.id (Set x e) rest (in-left F [])))
      x' (seen barrier subject F (reads_of e.node e.kind) (See at.id ∷ Behind at.id ∷ []) rest x' h))))
  stmt_step at (Put x i e) rest q (inr h) F = absurd h
  stmt_step at (Put x i e) rest q (inl k) F =
      let E = index_pairs subject F i ++ expr_pairs subject F e.node e.kind in
      let ns = index_reads i ++ reads_of e.node e.kind in
      moved F (Do (record { node = at; kind = Put x i e }) ∷ rest) q ((map See ns ++ See at.id ∷ Behind at.id ∷ []) ++ rest) k
      (keeps F (Do (record { node = at; kind = Put x i e }) ∷ rest) ((map See ns ++ See at.id ∷ Behind at.id ∷ []) ++ rest) refl
      (λ x' h. set-listed F (barrier_pairs barrier F at.id) (site_pairs subject F at.id) E (point_pairs barrier subject (onward barrier F at.id (Put x i e)) rest) (sites barrier subject F ns)
      (two-sites barrier subject F (index_reads i) (reads_of e.node e.kind) (index_pairs subject F i) (expr_pairs subject F e.node e.kind) (index-listed barrier subject F i) (reads-listed barrier subject F e.node e.kind)) x'
      (pairwise (sites barrier subject F ns) (site_pairs subject F at.id ++ point_pairs barrier subject F (Behind at.id ∷ rest)) (sites barrier subject F ns) (site_pairs subject F at.id ++ (barrier_pairs barrier F at.id ++ point_pairs barrier subject (onward barrier F at.id (Put x i e)) rest))
      (same (sites barrier subject F ns))
      (pairwise (site_pairs subject F at.id) (point_pairs barrier subject F (Behind at.id ∷ rest)) (site_pairs subject F at.id) (barrier_pairs barrier F at.id ++ point_pairs barrier subject (onward barrier F at.id (Put x i e)) rest) (same (site_pairs subject F at.id)) (simple-listed F at.id (Put x i e) rest (in-left F [])))
      x' (seen barrier subject F ns (See at.id ∷ Behind at.id ∷ []) rest x' h))))
  stmt_step at (If' test a yes_ b no_) rest q (inl k) F =
      let Y = block_pairs barrier subject F yes_ in
      let N = block_pairs barrier subject F no_ in
      moved F (Do (record { node = at; kind = If' test a yes_ b no_ }) ∷ rest) q (Judge test ∷ ((map Do (block yes_) ++ Behind at.id ∷ []) ++ rest)) k
      (keeps F (Do (record { node = at; kind = If' test a yes_ b no_ }) ∷ rest) (Judge test ∷ ((map Do (block yes_) ++ Behind at.id ∷ []) ++ rest)) refl
      (part-listed F at test (block yes_) rest [] Y N (If' test a yes_ b no_)
      (λ x h. early Y Y N (same Y) x (equal (list_pairs barrier subject F (block yes_)) Y (row-pairs barrier subject yes_ F) x h))
      (λ x h. part-leaves F (block_exits barrier yes_) (block_exits barrier no_) (block_passes barrier yes_) (block_passes barrier no_) x (equal (behind_list barrier F (block yes_)) (behind_block barrier F yes_) (row-behind barrier subject yes_ F) x h))))
  stmt_step at (If' test a yes_ b no_) rest q (inr (inl k)) F =
      let Y = block_pairs barrier subject F yes_ in
      let N = block_pairs barrier subject F no_ in
      moved F (Do (record { node = at; kind = If' test a yes_ b no_ }) ∷ rest) q (Judge test ∷ ((map Do (block no_) ++ Behind at.id ∷ []) ++ rest)) k
      (keeps F (Do (record { node = at; kind = If' test a yes_ b no_ }) ∷ rest) (Judge test ∷ ((map Do (block no_) ++ Behind at.id ∷ []) ++ rest)) refl
      (part-listed F at test (block no_) rest [] Y N (If' test a yes_ b no_)
      (λ x h. late N Y N (same N) x (equal (list_pairs barrier subject F (block no_)) N (row-pairs barrier subject no_ F) x h))
      (λ x h. other-leaves F (block_exits barrier yes_) (block_exits barrier no_) (block_passes barrier yes_) (block_passes barrier no_) x (equal (behind_list barrier F (block no_)) (behind_block barrier F no_) (row-behind barrier subject no_ F) x h))))
  stmt_step at (If' test a yes_ b no_) rest q (inr (inr h)) F = absurd h
  stmt_step at (For' x lo hi a body) rest q (inr h) F = absurd h
  stmt_step at (For' x lo hi a body) rest q (inl k) F =
      let ns = reads_of lo.node lo.kind ++ reads_of hi.node hi.kind in
      let L = expr_pairs subject F lo.node lo.kind in
      let H = expr_pairs subject F hi.node hi.kind in
      moved F (Do (record { node = at; kind = For' x lo hi a body }) ∷ rest) q ((map See ns ++ Enter at.id None (block body) ∷ []) ++ rest) k
      (keeps F (Do (record { node = at; kind = For' x lo hi a body }) ∷ rest) ((map See ns ++ Enter at.id None (block body) ∷ []) ++ rest) refl
      (λ x' h. loop-listed F at.id body L H (point_pairs barrier subject (onward barrier F at.id (For' x lo hi a body)) rest) (sites barrier subject F ns) (point_pairs barrier subject (on barrier subject at.id (cut.Exit at.id ∷ [])) rest)
      (two-sites barrier subject F (reads_of lo.node lo.kind) (reads_of hi.node hi.kind) L H (reads-listed barrier subject F lo.node lo.kind) (reads-listed barrier subject F hi.node hi.kind))
      (more-point barrier subject rest (on barrier subject at.id (cut.Exit at.id ∷ [])) (onward barrier F at.id (For' x lo hi a body)) (on-onward at.id (For' x lo hi a body) F (cut.Exit at.id ∷ []) (same (cut.Exit at.id ∷ [])))) x'
      (seen barrier subject F ns (Enter at.id None (block body) ∷ []) rest x' h)))
  stmt_step at (While' test a body) rest q (inr h) F = absurd h
  stmt_step at (While' test a body) rest q (inl k) F =
      moved F (Do (record { node = at; kind = While' test a body }) ∷ rest) q (Enter at.id (Some test) (block body) ∷ rest) k
      (keeps F (Do (record { node = at; kind = While' test a body }) ∷ rest) (Enter at.id (Some test) (block body) ∷ rest) refl
      (while-listed F at.id test body (point_pairs barrier subject (onward barrier F at.id (While' test a body)) rest) (point_pairs barrier subject (on barrier subject at.id (cut.Exit at.id ∷ [])) rest)
      (more-point barrier subject rest (on barrier subject at.id (cut.Exit at.id ∷ [])) (onward barrier F at.id (While' test a body)) (on-onward at.id (While' test a body) F (cut.Exit at.id ∷ []) (same (cut.Exit at.id ∷ []))))))
  stmt_step at (Hand x role) rest q (inr h) F = absurd h
  stmt_step at (Hand x role) rest q (inl k) F =
      let B = barrier_pairs barrier F at.id in
      let S = site_pairs subject F at.id in
      let R = point_pairs barrier subject (onward barrier F at.id (Hand x role)) rest in
      moved F (Do (record { node = at; kind = Hand x role }) ∷ rest) q (See at.id ∷ Behind at.id ∷ rest) k
      (keeps F (Do (record { node = at; kind = Hand x role }) ∷ rest) (See at.id ∷ Behind at.id ∷ rest) refl
      (both S (point_pairs barrier subject F (Behind at.id ∷ rest)) ((B ++ S) ++ R) (early S (B ++ S) R (late S B S (same S)))
      (λ x' h. pairwise B R (B ++ S) R (early B B S (same B)) (same R) x' (simple-listed F at.id (Hand x role) rest (in-left F []) x' h))))
  stmt_step at Skip rest q (inr h) F = absurd h
  stmt_step at Skip rest q (inl k) F = moved F (Do (record { node = at; kind = Skip }) ∷ rest) q (Behind at.id ∷ rest) k (keeps F (Do (record { node = at; kind = Skip }) ∷ rest) (Behind at.id ∷ rest) refl (simple-listed F at.id Skip rest (in-left F [])))

  pub one_step : (p q : Point) → Next p q → (F : List Cut) → Stepped F p q
  one_step [] q h F = absurd h
  one_step (Begin ∷ rest) q (inl k) F = moved F (Begin ∷ rest) q rest k ((cut.Start ∷ []), same (point_pairs barrier subject (cut.Start ∷ []) rest), (λ h. absurd (some-none h)), (λ c h. inl (sym (some-same h))))
  one_step (Begin ∷ rest) q (inr h) F = absurd h
  one_step (Do st ∷ rest) q h F = stmt_step st.node st.kind rest q h F
  one_step (Behind n ∷ rest) q (inl k) F = moved F (Behind n ∷ rest) q rest k (on barrier subject n F, late (point_pairs barrier subject (on barrier subject n F) rest) (barrier_pairs barrier F n) (point_pairs barrier subject (on barrier subject n F) rest) (same (point_pairs barrier subject (on barrier subject n F) rest)), kept-behind n F (barrier n.0), begun-behind n F (barrier n.0))
  one_step (Behind n ∷ rest) q (inr h) F = absurd h
  one_step (Enter n test body ∷ rest) q (inl k) F =
      let inside = turn_pairs barrier subject n test body (point_pairs barrier subject (on barrier subject n (cut.Exit n ∷ [])) rest) in
      moved F (Enter n test body ∷ rest) q (Test n test body ∷ rest) k (keeps F (Enter n test body ∷ rest) (Test n test body ∷ rest) refl (late inside (each F (Entry n)) inside (same inside)))
  one_step (Enter n test body ∷ rest) q (inr h) F = absurd h
  one_step (Test n None body ∷ rest) q (inl k) F =
      moved F (Test n None body ∷ rest) q ((map Do body ++ Turn n None body ∷ []) ++ rest) k
      ((cut.Head n ∷ []), turned n None body (point_pairs barrier subject (on barrier subject n (cut.Exit n ∷ [])) rest) (point_pairs barrier subject (cut.Head n ∷ []) ((map Do body ++ Turn n None body ∷ []) ++ rest)) (done barrier subject (cut.Head n ∷ []) body (Turn n None body ∷ []) rest), (λ h. absurd (some-none h)), (λ c h. inl (sym (some-same h))))
  one_step (Test n None body ∷ rest) q (inr (inl k)) F =
      moved F (Test n None body ∷ rest) q (Exit n ∷ rest) k
      ((cut.Head n ∷ []), left n None body (point_pairs barrier subject (on barrier subject n (cut.Exit n ∷ [])) rest), (λ h. absurd (some-none h)), (λ c h. inl (sym (some-same h))))
  one_step (Test n None body ∷ rest) q (inr (inr h)) F = absurd h
  one_step (Test n (Some t) body ∷ rest) q (inl k) F =
      let T = cond_pairs subject (cut.Head n ∷ []) t.kind in
      moved F (Test n (Some t) body ∷ rest) q (Judge t ∷ ((map Do body ++ Turn n (Some t) body ∷ []) ++ rest)) k (
        (cut.Head n ∷ []),
        both T (point_pairs barrier subject (cut.Head n ∷ []) ((map Do body ++ Turn n (Some t) body ∷ []) ++ rest)) (turn_pairs barrier subject n (Some t) body (point_pairs barrier subject (on barrier subject n (cut.Exit n ∷ [])) rest))
            (in-left T _) (turned n (Some t) body (point_pairs barrier subject (on barrier subject n (cut.Exit n ∷ [])) rest) (point_pairs barrier subject (cut.Head n ∷ []) ((map Do body ++ Turn n (Some t) body ∷ []) ++ rest)) (done barrier subject (cut.Head n ∷ []) body (Turn n (Some t) body ∷ []) rest)),
        (λ h. absurd (some-none h)),
        (λ c h. inl (sym (some-same h))),
      )
  one_step (Test n (Some t) body ∷ rest) q (inr (inl k)) F =
      let T = cond_pairs subject (cut.Head n ∷ []) t.kind in
      moved F (Test n (Some t) body ∷ rest) q (Judge t ∷ Exit n ∷ rest) k
      ((cut.Head n ∷ []), both T (exit_pairs barrier subject n (point_pairs barrier subject (on barrier subject n (cut.Exit n ∷ [])) rest)) (turn_pairs barrier subject n (Some t) body (point_pairs barrier subject (on barrier subject n (cut.Exit n ∷ [])) rest)) (in-left T _) (left n (Some t) body (point_pairs barrier subject (on barrier subject n (cut.Exit n ∷ [])) rest)), (λ h. absurd (some-none h)), (λ c h. inl (sym (some-same h))))
  one_step (Test n (Some t) body ∷ rest) q (inr (inr h)) F = absurd h
  one_step (Turn n test body ∷ rest) q (inl k) F =
      let inside = turn_pairs barrier subject n test body (point_pairs barrier subject (on barrier subject n (cut.Exit n ∷ [])) rest) in
      moved F (Turn n test body ∷ rest) q (Test n test body ∷ rest) k (keeps F (Turn n test body ∷ rest) (Test n test body ∷ rest) refl (late inside (each F (Keep n)) inside (same inside)))
  one_step (Turn n test body ∷ rest) q (inr h) F = absurd h
  one_step (Exit n ∷ rest) q (inl k) F = moved F (Exit n ∷ rest) q (Behind n ∷ rest) k ((cut.Exit n ∷ []), same (exit_pairs barrier subject n (point_pairs barrier subject (on barrier subject n (cut.Exit n ∷ [])) rest)), (λ h. absurd (some-none h)), (λ c h. inl (sym (some-same h))))
  one_step (Exit n ∷ rest) q (inr h) F = absurd h
  one_step (Judge c ∷ rest) q (inl k) F = moved F (Judge c ∷ rest) q (Decide c.kind ∷ rest) k (keeps F (Judge c ∷ rest) (Decide c.kind ∷ rest) refl (same (cond_pairs subject F c.kind ++ point_pairs barrier subject F rest)))
  one_step (Judge c ∷ rest) q (inr h) F = absurd h
  one_step (Decide c ∷ rest) q h F = cond_step c rest q h F
  one_step (See n ∷ rest) q (inl k) F = moved F (See n ∷ rest) q rest k (keeps F (See n ∷ rest) rest refl (late (point_pairs barrier subject F rest) (site_pairs subject F n) (point_pairs barrier subject F rest) (same (point_pairs barrier subject F rest))))
  one_step (See n ∷ rest) q (inr h) F = absurd h
