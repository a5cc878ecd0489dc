-- Each label of a condition stands at a node of the walk of its pair.
use Rattle.std.proofs.Common.{◌≡◌, ℕ, List, [], ◌∷◌, ◌++◌, map, Bool, true, Option, Some, None, refl, sym, ◌∙◌, ap, subst, inl, inr, ◌⊎◌, if◌then◌else◌}
use Rattle.std.specs.List.{AllByRecursion}
use Rattle.ac_tree.specs.declared.node.Node.{Node}
use Rattle.ac_tree.specs.declared.node.NodeId.{NodeId}
use Rattle.ac_tree.specs.declared.path.Cut.{Cut}
use Rattle.ac_tree.specs.declared.path.Cut.TheVariants.{Start, Head, Exit, After}
use Rattle.ac_tree.specs.declared.path.Target.{Target}
use Rattle.ac_tree.specs.declared.policy.PolicyName.{PolicyName}
use Rattle.ac_tree.specs.declared.program.Cond.{Cond}
use Rattle.ac_tree.specs.declared.program.Expr.{Expr}
use Rattle.ac_tree.specs.declared.program.ItemKind.{ItemKind}
use Rattle.ac_tree.specs.declared.program.ItemKind.TheVariants.{Const, InputScalar, InputArray, VarScalar, VarArray}
use Rattle.ac_tree.specs.declared.program.Program.{Program}
use Rattle.ac_tree.specs.declared.program.Stmt.{Stmt}
use Rattle.ac_tree.specs.declared.program.StmtKind.{StmtKind, Row_of-Stmt, end_of-Stmt, more_of-Stmt, Set, Put, If', For', While', Hand, Skip}
use Rattle.ac_tree.specs.Preorder.{IsNumbered}
use Rattle.ac_run.specs.Declarations.{NameBytes}
use Rattle.ac_flow.specs.Cuts.{cuts_of, has_barrier, has_place}
use Rattle.ac_flow.specs.Listed.{IsListed}
use Rattle.ac_flow.specs.Pairs.{is_subject}
use Rattle.ac_flow.specs.Paths.{IsPointOf, first, next, Reaches}
use Rattle.ac_flow.specs.Points.{Do, Behind, Exit as Leave, Judge, Decide, Test, Turn, Point, Next, block, beginning, cut_at}
use Rattle.ac_flow.proofs.PairsReached.{listed-reached}
use Rattle.ac_flow.proofs.Within.{in-left, in-right}
use Rattle.ac_walk.specs.Walks.{walk_of}
use Rattle.ac_walk.specs.Walks.{is_input}
use Rattle.ac_visits.specs.Visits.{Has, HasInside, BlockHas, BelongsTo, IsVisited, input, around, own, aim}
use Rattle.ac_visits.proofs.Walked.{visited_named}
use Rattle.ac_logic.specs.declared.condition.Annotation.{Annotation}
use Rattle.ac_logic.specs.declared.condition.Condition.{Condition}
use Rattle.ac_logic.specs.declared.formula.Change.{Change}
use Rattle.ac_logic.specs.declared.formula.Formula.{Formula}
use Rattle.ac_logic.specs.declared.label.Label.{Label}
use Rattle.ac_logic.specs.declared.label.LabelKind.TheVariants as label
use Rattle.ac_logic.specs.Labels.{labels_of}
use Rattle.ac_policy.specs.declared.site.Site.{Site}
use Rattle.ac_policy.specs.Laws.{LawForm}
use Rattle.ac_policy.specs.Sites.{expr_sites, cond_sites, stmt_sites, block_sites, list_sites, sites_of}
use Rattle.ac_conditions.proofs.ConditionsFit.{bare_part}
use Rattle.ac_conditions.proofs.Barriers.{barriers_of}
use Rattle.ac_conditions.proofs.BarriersOfCuts.{barriers_of_places}
use Rattle.ac_conditions.proofs.HypothesesFit.{IsBare, AllFit, fit_append, all_labelled, implied_fit, ranges_fit, body_fits, test_fits, exit_fits, left_fits}
use Rattle.ac_conditions.proofs.LabelsFit.{AreUnlabelled, test_bare, Fit, FitIf, conjoined_fits, under_fits}
use Rattle.ac_conditions.proofs.NodesMarked.{needed_marked}
use Rattle.ac_conditions.proofs.PairsOfConditions.{conditions_paired}
use Rattle.ac_conditions.proofs.Parts.{pairs_in}
use Rattle.ac_conditions.specs.AllConditions.{all_conditions}
use Rattle.ac_conditions.specs.Conditions.{condition, barrier_condition, conditions, block_conditions, list_conditions, conditions_at}
use Rattle.ac_conditions.specs.Goals.{under, cond_goal}
use Rattle.ac_conditions.specs.Hypotheses.{in_body, at_for_test, at_for_exit, at_while_exit, invariants, assumed}
use Rattle.ac_conditions.specs.KindsFit.{is_input_kind}
use Rattle.ac_conditions.specs.Marked.{needed_nodes}
use Rattle.ac_conditions.specs.Part.{Part, is_any, part_of, places_of}
use Rattle.ac_conditions.specs.Preconditions.{past_barrier, for_keep, while_keep, before_block, before_list, for_head, while_head}
use Rattle.ac_conditions.specs.Ranges.{ranges}
use Rattle.ac_conditions.specs.Statements.{AreBehindStatements}
use Rattle.ac_conditions.specs.Tests.{formula_of}
use Rattle.ac_labels.specs.Opened.{hidden, formula_shape, formula_child}
use Rattle.ac_labels.proofs.ByTarget.{of_all}
use Rattle.ac_labels.proofs.OnWays.{Stands, Bare, none_stands, stands_back, cond_stands, for_keep_stands, while_keep_stands, past_stands, stmt_stands, block_stands}
use Rattle.ac_labels.proofs.PastStatements.{turn_point, exit_point, yes_point, no_point, for_point, while_point, past_stmt}
use Rattle.ac_labels.proofs.Ways.{here, on, judge_way, met_visited}

is_an_input : (k : ItemKind) → is_input_kind k ≡ true → is_input k ≡ true
is_an_input (InputScalar lo hi) h = refl
is_an_input (InputArray extents lo hi) h = refl
is_an_input (Const value) h = cc
is_an_input VarScalar h = cc
is_an_input (VarArray extents) h = cc

first_or_inside : {k : _} (at : Node) (st : StmtKind) (more : Row_of-Stmt k) (s : Stmt) → (s ≡ record { node = at; kind = st }) ⊎ HasInside st s → BlockHas (more_of-Stmt at st more) s
first_or_inside at st more s (inl e) = inl e
first_or_inside at st more s (inr h) = inr (inl h)

first_or_inner : (st : Stmt) (sts : List Stmt) (s : Stmt) → (s ≡ st) ⊎ HasInside st.kind s → Has (st ∷ sts) s
first_or_inner st sts s (inl e) = inl e
first_or_inner st sts s (inr h) = inr (inl h)

module _ (barrier : ℕ → Bool) (p : Program) (q : PolicyName) (part : Part) (t : Target) (bare : IsBare p part) (barriers : (n : NodeId) → barrier n.0 ≡ is_any (part.behind n)) where
  -- at a node that the paths from a cut to the target visit
  abbrev IsAlong : Cut → Label → Type 0
  IsAlong c l = IsVisited p barrier c t l.node

  abbrev AllAlong : List Condition → Type 0
  AllAlong cs = AllByRecursion (λ x. Fit (IsAlong x.pair.cut) x.formula) cs

  along_append : (cs ds : List Condition) → AllAlong cs → AllAlong ds → AllAlong (cs ++ ds)
  along_append [] ds h k = k
  along_append (c ∷ cs) ds h k = (h.0, along_append cs ds h.1 k)

  -- a path formula at a point behind a cut
  cut_along : (c : Cut) (from to : Point) (o : Option Formula) → IsPointOf p from → cut_at barrier from ≡ Some c → Next from to → Stands barrier p part t to o → FitIf (IsAlong c) o
  cut_along c from to None a e h s = tt
  cut_along c from to (Some f) a e h s = λ l i. elim (s.1 l i) [
    | inl m ↦ met_visited barrier p t c from to l.node a e h m
    | inr at ↦ subst (λ (n : NodeId). IsVisited p barrier c t n) (sym at) aim
  ]

  one_along : (c : Cut) (hs : List Formula) (path : Option Formula) → AllFit (IsAlong c) hs → FitIf (IsAlong c) path → AllAlong (condition p q part t c hs path)
  one_along c hs None h k = tt
  one_along c hs (Some f) h k = (implied_fit (IsAlong c) hs f h k, tt)

  -- Hypotheses that hold at each cut of a statement: their labels are along the paths from there.
  abbrev Given : List Formula → (Stmt → Type 0) → Type 0
  Given hs inner = (s : Stmt) → inner s → (c : Cut) → BelongsTo c s.node.id → AllFit (IsAlong c) hs

  -- a statement and what stands in it
  abbrev Here : Stmt → Stmt → Type 0
  Here st s = (s ≡ st) ⊎ HasInside st.kind s

  headers_given : (loop : Stmt) (hs : List Formula) (x : NameBytes) (lo hi : Expr) (inner : Stmt → Type 0) → Given hs inner → ((s : Stmt) → inner s → (c : Cut) → BelongsTo c s.node.id → IsVisited p barrier c t loop.node.id) →
      Given (hs ++ in_body p part loop.node.id x lo hi ∷ []) inner
  headers_given loop hs x lo hi inner g v s i c b =
      fit_append (IsAlong c) hs (in_body p part loop.node.id x lo hi ∷ []) (g s i c b) (body_fits (IsAlong c) p part bare loop.node.id x lo hi (v s i c b), tt)

  barred_along : (n : NodeId) (hs facts : List Formula) (rest : Point) (behind : Option Formula) → facts ≡ part.behind n → AllFit (IsAlong (After n)) hs → IsPointOf p (Behind n ∷ rest) → Stands barrier p part t rest behind →
      AllAlong (barrier_condition p q part t n hs facts behind)
  barred_along n hs [] rest behind e h a s = tt
  barred_along n hs (f ∷ fs) rest behind e h a s =
      one_along (After n) (hs ++ assumed n (f ∷ fs)) behind
      (fit_append (IsAlong (After n)) hs (assumed n (f ∷ fs)) h (all_labelled (IsAlong (After n)) label.Assumed n (f ∷ fs) (own n refl) (subst (λ (gs : List Formula). AreUnlabelled gs) (sym e) (bare.behinds n))))
      (cut_along (After n) (Behind n ∷ rest) rest behind a (ap (λ b. if b then Some (After n) else None) (barriers n ∙ ap is_any (sym e))) (inl refl) s)

  for_along : {k : _} (n : NodeId) (x : NameBytes) (hi : Expr) (body : Row_of-Stmt k) (rest : Point) → Bare barrier p part t (block_sites p body) → IsPointOf p (Test n None (block body) ∷ rest) → FitIf (IsAlong (Head n)) (for_head p part t n x hi body)
  unfolding hidden formula_shape formula_child
  for_along n x hi body rest b a =
      let turn : Point = (map Do (block body) ++ Turn n None (block body) ∷ []) ++ rest in
      under_fits (IsAlong (Head n)) label.Test n _ (before_block p part t body (for_keep p part t n x)) (own n refl) refl
      (cut_along (Head n) (Test n None (block body) ∷ rest) turn (before_block p part t body (for_keep p part t n x)) a refl (inl refl)
      (block_stands barrier p part t bare barriers body (Turn n None (block body) ∷ []) rest (for_keep p part t n x) b (for_keep_stands barrier p part t bare barriers n x None (block body) rest)))

  while_along : {k : _} (n : NodeId) (test : Cond) (body : Row_of-Stmt k) (rest : Point) → Bare barrier p part t (cond_sites p test.kind ++ block_sites p body) → IsPointOf p (Test n (Some test) (block body) ∷ rest) →
      FitIf (IsAlong (Head n)) (while_head p part t n test body)
  while_along n test body rest b a =
      let from : Point = Test n (Some test) (block body) ∷ rest in
      let turn : Point = (map Do (block body) ++ Turn n (Some test) (block body) ∷ []) ++ rest in
      conjoined_fits (IsAlong (Head n)) (cond_goal part.need t p test.kind) (under label.Test n (formula_of p test.kind) (before_block p part t body (while_keep p part t n)))
      (cut_along (Head n) from (Judge test ∷ turn) (cond_goal part.need t p test.kind) a refl (inl refl)
      (stands_back barrier p part t (Judge test ∷ turn) (Decide test.kind ∷ turn) (cond_goal part.need t p test.kind) (on refl (inl refl) here)
      (cond_stands barrier p part t test.kind turn (λ s i. b s (in-left (cond_sites p test.kind) (block_sites p body) s i)))))
      (under_fits (IsAlong (Head n)) label.Test n (formula_of p test.kind) (before_block p part t body (while_keep p part t n)) (own n refl) (test_bare p test.kind)
      (cut_along (Head n) from (Judge test ∷ turn) (before_block p part t body (while_keep p part t n)) a refl (inl refl)
      (stands_back barrier p part t (Judge test ∷ turn) turn (before_block p part t body (while_keep p part t n)) (judge_way barrier test turn)
      (block_stands barrier p part t bare barriers body (Turn n (Some test) (block body) ∷ []) rest (while_keep p part t n) (λ s i. b s (in-right (cond_sites p test.kind) (block_sites p body) s i)) (while_keep_stands barrier p part t bare barriers n (Some test) (block body) rest)))))

  -- a statement of the program at a point, with hypotheses, and the formula behind it
  record Lies (hs : List Formula) (st : Stmt) (rest : Point) (behind : Option Formula) : Type 0 where
    point : IsPointOf p (Do st ∷ rest)
    inside : (s : Stmt) → Here st s → Has p.body s
    given : Given hs (Here st)
    sites : Bare barrier p part t (stmt_sites p st.node.id st.kind)
    path : Stands barrier p part t (Behind st.node.id ∷ rest) behind

  -- the same of a block
  record BlockLies {k : _} (hs : List Formula) (row : Row_of-Stmt k) (after rest : Point) (behind : Option Formula) : Type 0 where
    point : IsPointOf p ((map Do (block row) ++ after) ++ rest)
    inside : (s : Stmt) → BlockHas row s → Has p.body s
    given : Given hs (BlockHas row)
    sites : Bare barrier p part t (block_sites p row)
    path : Stands barrier p part t (after ++ rest) behind

  exit_along : (n : NodeId) (rest : Point) (behind : Option Formula) → IsPointOf p (Leave n ∷ rest) → Stands barrier p part t (Behind n ∷ rest) behind → FitIf (IsAlong (Exit n)) behind
  exit_along n rest behind a s = cut_along (Exit n) (Leave n ∷ rest) (Behind n ∷ rest) behind a refl (inl refl) s

  mutual
    stmt_along : (hs : List Formula) (at : Node) (st : StmtKind) (rest : Point) (behind : Option Formula) (bs : List Condition) → Lies hs (record { node = at; kind = st }) rest behind → AllAlong bs → AllAlong (conditions p q part t hs at.id st behind bs)
    stmt_along hs at (Set x e) rest behind bs h b = b
    stmt_along hs at (Put x i e) rest behind bs h b = b
    stmt_along hs at (If' c i y j z) rest behind bs h b =
        let st : Stmt = record { node = at; kind = If' c i y j z } in
        let yes_lies : BlockLies hs y (Behind at.id ∷ []) rest behind = record {
          point = yes_point p at c i j y z rest h.point;
          inside = λ s k. h.inside s (inr (inl k));
          given = λ s k. h.given s (inr (inl k));
          sites = λ s k. h.sites s (in-right (cond_sites p c.kind) (block_sites p y ++ block_sites p z) s (in-left (block_sites p y) (block_sites p z) s k));
          path = h.path;
        } in
        let no_lies : BlockLies hs z (Behind at.id ∷ []) rest behind = record {
          point = no_point p at c i j y z rest h.point;
          inside = λ s k. h.inside s (inr (inr k));
          given = λ s k. h.given s (inr (inr k));
          sites = λ s k. h.sites s (in-right (cond_sites p c.kind) (block_sites p y ++ block_sites p z) s (in-right (block_sites p y) (block_sites p z) s k));
          path = h.path;
        } in
        along_append bs (block_conditions p q part t hs y behind ++ block_conditions p q part t hs z behind) b
        (along_append (block_conditions p q part t hs y behind) (block_conditions p q part t hs z behind) (block_along hs y (Behind at.id ∷ []) rest behind yes_lies) (block_along hs z (Behind at.id ∷ []) rest behind no_lies))
    stmt_along hs at (For' x lo hi i body) rest behind bs h b =
        let n : NodeId = at.id in
        let st : Stmt = record { node = at; kind = For' x lo hi i body } in
        let lows : List Site = expr_sites p lo.node.id lo.kind in
        let highs : List Site = expr_sites p hi.node.id hi.kind in
        let tested : IsPointOf p (Test n None (block body) ∷ rest) = for_point p at x lo hi i body rest h.point in
        let sites : Bare barrier p part t (block_sites p body) = λ s k. h.sites s (in-right lows (highs ++ block_sites p body) s (in-right highs (block_sites p body) s k)) in
        let hs2 : List Formula = hs ++ in_body p part n x lo hi ∷ [] in
        let body_lies : BlockLies hs2 body (Turn n None (block body) ∷ []) rest (for_keep p part t n x) = record {
          point = turn_point p n None (block body) rest tested;
          inside = λ s k. h.inside s (inr k);
          given = headers_given st hs x lo hi (BlockHas body) (λ s k. h.given s (inr k)) (λ s k c g. around st s (h.inside st (inl refl)) refl k g);
          sites = sites;
          path = for_keep_stands barrier p part t bare barriers n x None (block body) rest;
        } in
        let first_cut : List Condition = condition p q part t (Head n) (hs ++ (at_for_test p part n x lo ∷ invariants p part n)) (for_head p part t n x hi body) in
        let last_cut : List Condition = condition p q part t (Exit n) (hs ++ (at_for_exit p part n x lo hi ∷ invariants p part n)) behind in
        let inner : List Condition = block_conditions p q part t hs2 body (for_keep p part t n x) in
        along_append first_cut (last_cut ++ (bs ++ inner))
        (one_along (Head n) (hs ++ (at_for_test p part n x lo ∷ invariants p part n)) (for_head p part t n x hi body)
        (fit_append (IsAlong (Head n)) hs (at_for_test p part n x lo ∷ invariants p part n) (h.given st (inl refl) (Head n) refl)
        (test_fits (IsAlong (Head n)) p part bare n x lo (own n refl), all_labelled (IsAlong (Head n)) label.Invariant n (part.invariant n) (own n refl) (bare.kept n)))
        (for_along n x hi body rest sites tested))
        (along_append last_cut (bs ++ inner)
        (one_along (Exit n) (hs ++ (at_for_exit p part n x lo hi ∷ invariants p part n)) behind
        (fit_append (IsAlong (Exit n)) hs (at_for_exit p part n x lo hi ∷ invariants p part n) (h.given st (inl refl) (Exit n) refl)
        (exit_fits (IsAlong (Exit n)) p part bare n x lo hi (own n refl), all_labelled (IsAlong (Exit n)) label.Invariant n (part.invariant n) (own n refl) (bare.kept n)))
        (exit_along n rest behind (exit_point p n None (block body) rest tested) h.path))
        (along_append bs inner b (block_along hs2 body (Turn n None (block body) ∷ []) rest (for_keep p part t n x) body_lies)))
    stmt_along hs at (While' c i body) rest behind bs h b =
        let n : NodeId = at.id in
        let st : Stmt = record { node = at; kind = While' c i body } in
        let tested : IsPointOf p (Test n (Some c) (block body) ∷ rest) = while_point p at c i body rest h.point in
        let body_lies : BlockLies hs body (Turn n (Some c) (block body) ∷ []) rest (while_keep p part t n) = record {
          point = turn_point p n (Some c) (block body) rest tested;
          inside = λ s k. h.inside s (inr k);
          given = λ s k. h.given s (inr k);
          sites = λ s k. h.sites s (in-right (cond_sites p c.kind) (block_sites p body) s k);
          path = while_keep_stands barrier p part t bare barriers n (Some c) (block body) rest;
        } in
        let first_cut : List Condition = condition p q part t (Head n) (hs ++ invariants p part n) (while_head p part t n c body) in
        let last_cut : List Condition = condition p q part t (Exit n) (hs ++ (at_while_exit p part n c ∷ invariants p part n)) behind in
        let inner : List Condition = block_conditions p q part t hs body (while_keep p part t n) in
        along_append first_cut (last_cut ++ (bs ++ inner))
        (one_along (Head n) (hs ++ invariants p part n) (while_head p part t n c body)
        (fit_append (IsAlong (Head n)) hs (invariants p part n) (h.given st (inl refl) (Head n) refl) (all_labelled (IsAlong (Head n)) label.Invariant n (part.invariant n) (own n refl) (bare.kept n)))
        (while_along n c body rest h.sites tested))
        (along_append last_cut (bs ++ inner)
        (one_along (Exit n) (hs ++ (at_while_exit p part n c ∷ invariants p part n)) behind
        (fit_append (IsAlong (Exit n)) hs (at_while_exit p part n c ∷ invariants p part n) (h.given st (inl refl) (Exit n) refl)
        (left_fits (IsAlong (Exit n)) p part bare n c (own n refl), all_labelled (IsAlong (Exit n)) label.Invariant n (part.invariant n) (own n refl) (bare.kept n)))
        (exit_along n rest behind (exit_point p n (Some c) (block body) rest tested) h.path))
        (along_append bs inner b (block_along hs body (Turn n (Some c) (block body) ∷ []) rest (while_keep p part t n) body_lies)))
    stmt_along hs at (Hand x role) rest behind bs h b = b
    stmt_along hs at Skip rest behind bs h b = b

    block_along : {k : _} (hs : List Formula) (row : Row_of-Stmt k) (after rest : Point) (behind : Option Formula) → BlockLies hs row after rest behind → AllAlong (block_conditions p q part t hs row behind)
    block_along hs end_of-Stmt after rest behind h = tt
    block_along hs (more_of-Stmt at st more) after rest behind h =
        let n : NodeId = at.id in
        let stmt : Stmt = record { node = at; kind = st } in
        let left : Point = (map Do (block more) ++ after) ++ rest in
        let formula : Option Formula = before_block p part t more behind in
        let fewer : Bare barrier p part t (block_sites p more) = λ s k. h.sites s (in-right (stmt_sites p n st) (block_sites p more) s k) in
        let stands : Stands barrier p part t left formula = block_stands barrier p part t bare barriers more after rest behind fewer h.path in
        let past : IsPointOf p (Behind n ∷ left) = past_stmt p at st left h.point in
        let here_lies : Lies hs stmt left (past_barrier t n (part.behind n) formula) = record {
          point = h.point;
          inside = λ s k. h.inside s (first_or_inside at st more s k);
          given = λ s k. h.given s (first_or_inside at st more s k);
          sites = λ s k. h.sites s (in-left (stmt_sites p n st) (block_sites p more) s k);
          path = past_stands barrier p part t bare barriers n left formula stands;
        } in
        let more_lies : BlockLies hs more after rest behind = record {
          point = next past (inl refl);
          inside = λ s k. h.inside s (inr (inr k));
          given = λ s k. h.given s (inr (inr k));
          sites = fewer;
          path = h.path;
        } in
        along_append (conditions p q part t hs n st (past_barrier t n (part.behind n) formula) (barrier_condition p q part t n hs (part.behind n) formula)) (block_conditions p q part t hs more behind)
        (stmt_along hs at st left (past_barrier t n (part.behind n) formula) (barrier_condition p q part t n hs (part.behind n) formula) here_lies (barred_along n hs (part.behind n) left formula refl (h.given stmt (inl refl) (After n) refl) past stands))
        (block_along hs more after rest behind more_lies)

  list_stands : (sts : List Stmt) → Bare barrier p part t (list_sites p sts) → Stands barrier p part t (map Do sts) (before_list p part t sts None)
  list_stands [] b = none_stands barrier p part t []
  list_stands (st ∷ sts) b =
      stmt_stands barrier p part t bare barriers st.node st.kind (map Do sts) (past_barrier t st.node.id (part.behind st.node.id) (before_list p part t sts None)) (λ s k. b s (in-left (stmt_sites p st.node.id st.kind) (list_sites p sts) s k))
      (past_stands barrier p part t bare barriers st.node.id (map Do sts) (before_list p part t sts None) (list_stands sts (λ s k. b s (in-right (stmt_sites p st.node.id st.kind) (list_sites p sts) s k))))

  list_along : (hs : List Formula) (sts : List Stmt) → IsPointOf p (map Do sts) → ((s : Stmt) → Has sts s → Has p.body s) → Given hs (Has sts) → Bare barrier p part t (list_sites p sts) → AllAlong (list_conditions p q part t hs sts None)
  list_along hs [] a inside given b = tt
  list_along hs (st ∷ sts) a inside given b =
      let n : NodeId = st.node.id in
      let formula : Option Formula = before_list p part t sts None in
      let fewer : Bare barrier p part t (list_sites p sts) = λ s k. b s (in-right (stmt_sites p n st.kind) (list_sites p sts) s k) in
      let stands : Stands barrier p part t (map Do sts) formula = list_stands sts fewer in
      let past : IsPointOf p (Behind n ∷ map Do sts) = past_stmt p st.node st.kind (map Do sts) a in
      let here_lies : Lies hs st (map Do sts) (past_barrier t n (part.behind n) formula) = record {
        point = a;
        inside = λ s k. inside s (first_or_inner st sts s k);
        given = λ s k. given s (first_or_inner st sts s k);
        sites = λ s k. b s (in-left (stmt_sites p n st.kind) (list_sites p sts) s k);
        path = past_stands barrier p part t bare barriers n (map Do sts) formula stands;
      } in
      along_append (conditions p q part t hs n st.kind (past_barrier t n (part.behind n) formula) (barrier_condition p q part t n hs (part.behind n) formula)) (list_conditions p q part t hs sts None)
      (stmt_along hs st.node st.kind (map Do sts) (past_barrier t n (part.behind n) formula) (barrier_condition p q part t n hs (part.behind n) formula) here_lies
      (barred_along n hs (part.behind n) (map Do sts) formula refl (given st (inl refl) (After n) refl) past stands))
      (list_along hs sts (next past (inl refl)) (λ s k. inside s (inr (inr k))) (λ s k. given s (inr (inr k))) fewer)

  inputs_along : (c : Cut) → AllFit (IsAlong c) (ranges p p.items)
  inputs_along c = ranges_fit (IsAlong c) p p.items (λ d i e. input d i (is_an_input d.kind e))

  pub target_along : AllAlong (conditions_at p q part t)
  target_along =
      let hs : List Formula = ranges p p.items in
      along_append (condition p q part t Start hs (before_list p part t p.body None)) (list_conditions p q part t hs p.body None)
      (one_along Start hs (before_list p part t p.body None) (inputs_along Start) (cut_along Start (beginning p) (map Do p.body) (before_list p part t p.body None) first refl (inl refl) (list_stands p.body bare.needs)))
      (list_along hs p.body (next first (inl refl)) (λ s k. k) (λ s k c g. inputs_along c) bare.needs)

pair_listed : (cs : List Condition) (c : Condition) → IsListed cs c → IsListed (pairs_in cs) c.pair
pair_listed [] c h = absurd h
pair_listed (d ∷ cs) c (inl e) = inl (ap (λ (x : Condition). x.pair) e)
pair_listed (d ∷ cs) c (inr h) = inr (pair_listed cs c h)

pub labels_walked : (p : Program) (q : PolicyName) (need : Site → Option Formula) (effect : Site → List Change) (known : NameBytes → Option Formula) (annotations : List Annotation) → IsNumbered p → LawForm need effect known →
    AreBehindStatements p (places_of annotations) → ((a : Annotation) → IsListed annotations a → labels_of a.formula ≡ []) → (c : Condition) → IsListed (all_conditions p q need effect known annotations) c → (l : Label) → IsListed (labels_of c.formula) l →
    IsListed (walk_of p (cuts_of (has_place (places_of annotations)) p) c.pair) l.node
labels_walked p q need effect known annotations numbered law behind bare c i l j =
    let part : Part = part_of need effect known annotations in
    let cuts : List Cut = cuts_of (has_place (places_of annotations)) p in
    let barriers : (n : NodeId) → has_barrier cuts n.0 ≡ is_any (part.behind n) = λ n. barriers_of_places p (places_of annotations) behind n.0 ∙ barriers_of n annotations in
    let subject : ℕ → Bool = is_subject (needed_nodes need (sites_of p)) in
    let reached : Reaches p (has_barrier cuts) c.pair.cut c.pair.target =
    (listed-reached p (has_barrier cuts) subject c.pair.cut c.pair.target (conditions_paired p q part (has_barrier cuts) subject barriers (needed_marked p need numbered) c.pair.cut c.pair.target (pair_listed (all_conditions p q need effect known annotations) c i))).0 in
    let visited : (l : Label) → IsListed (labels_of c.formula) l → IsVisited p (has_barrier cuts) c.pair.cut c.pair.target l.node =
    of_all (λ t x. (l : Label) → IsListed (labels_of x.formula) l → IsVisited p (has_barrier cuts) x.pair.cut t l.node) p q part
    (λ t. target_along (has_barrier cuts) p q part t (bare_part p need effect known annotations law bare) barriers) c i in
    visited_named p cuts c.pair.cut c.pair.target numbered reached l.node (visited l j)
