-- Each label of each condition fits its kind, by recursion over the tree.
use Rattle.std.proofs.Common.{◌≡◌, suc, List, [], ◌∷◌, ◌++◌, Bool, true, false, Option, Some, None, refl, sym, ◌∙◌, subst, arith, inl, inr, if◌then◌else◌, Contains}
use Rattle.std.specs.List.{AllByRecursion}
use Rattle.ac_tree.specs.declared.node.NodeId.{NodeId}
use Rattle.ac_tree.specs.declared.path.Cut.{Cut}
use Rattle.ac_tree.specs.declared.path.Cut.TheVariants.{Start, Head, Exit, After}
use Rattle.ac_tree.specs.declared.path.Place.{Place}
use Rattle.ac_tree.specs.declared.path.Target.{Target}
use Rattle.ac_tree.specs.declared.policy.PolicyName.{PolicyName}
use Rattle.ac_tree.specs.declared.program.Expr.{Expr}
use Rattle.ac_tree.specs.declared.program.Program.{Program}
use Rattle.ac_tree.specs.declared.program.Stmt.{Stmt}
use Rattle.ac_tree.specs.declared.program.StmtKind.{StmtKind, Row_of-Stmt, end_of-Stmt, more_of-Stmt, Set, Put, If', For', While', Hand, Skip}
use Rattle.ac_run.specs.Declarations.{NameBytes}
use Rattle.ac_flow.specs.Leads.{is_entry, is_keep}
use Rattle.ac_flow.specs.Listed.{IsListed}
use Rattle.ac_flow.proofs.Within.{Sub, in-left, in-right}
use Rattle.ac_logic.specs.declared.condition.Annotation.{Annotation}
use Rattle.ac_logic.specs.declared.condition.Condition.{Condition}
use Rattle.ac_logic.specs.declared.formula.Change.{Change}
use Rattle.ac_logic.specs.declared.formula.Formula.{Formula}
use Rattle.ac_logic.specs.declared.label.Label.{Label}
use Rattle.ac_logic.specs.declared.label.LabelKind.TheVariants as label
use Rattle.ac_logic.specs.Labels.{labels_of}
use Rattle.ac_logic.specs.Patterns.{Negation as Not}
use Rattle.ac_logic.specs.Substitution.{formula_after}
use Rattle.ac_policy.specs.declared.site.Site.{Site}
use Rattle.ac_policy.specs.Laws.{LawForm, IsPlainIf}
use Rattle.ac_policy.specs.Sites.{scalar_write, expr_sites, index_sites, cond_sites, stmt_sites, block_sites, list_sites, sites_of}
use Rattle.ac_policy.specs.Terms.{term_of}
use Rattle.ac_policy.proofs.SiteFacts.{plain_sites}
use Rattle.ac_conditions.proofs.HypothesesFit.{IsBare, AllFit, fit_append, all_labelled, implied_fit, ranges_fit, body_fits, test_fits, exit_fits, left_fits}
use Rattle.ac_conditions.proofs.LabelsFit.{IsUnlabelled, AreUnlabelled, IsUnlabelledIf, test_bare, not_bare, joined_bare, labels_stay, Fit, FitIf, bare_fits, labelled_fits, conjoined_fits, under_fits, goal_fits, changed_fits, barrier_fits, site_fits, sites_fit, cond_fits}
use Rattle.ac_conditions.proofs.Parts.{split}
use Rattle.ac_conditions.specs.AllConditions.{all_conditions, at_each}
use Rattle.ac_conditions.specs.Conditions.{condition, barrier_condition, conditions, block_conditions, list_conditions, conditions_at}
use Rattle.ac_conditions.specs.Goals.{conjoined, under, site_goal, cond_goal}
use Rattle.ac_conditions.specs.Hypotheses.{in_body, at_for_test, at_for_exit, at_while_exit, invariants, assumed}
use Rattle.ac_conditions.specs.KindsFit.{own_picked, stmt_picked, block_picked, list_picked, is_any_statement, is_assignment, is_if, is_for, is_loop_statement, has_test, cond_lefts, stmt_lefts, block_lefts, list_lefts, FitsKind, KindFits}
use Rattle.ac_conditions.specs.Opened.{hidden, formula_shape, formula_child}
use Rattle.ac_conditions.specs.Part.{Part, facts_at, is_after, is_loop, part_of}
use Rattle.ac_conditions.specs.Targets.{list_targets}
use Rattle.ac_conditions.specs.Preconditions.{joined, past_barrier, element_write, role_use, scalar_changes, element_changes, before_changes, set_goal, put_goal, ends_goal, while_keep, for_entry, for_keep, before, before_block, before_list, for_head, while_head}
use Rattle.ac_conditions.specs.Ranges.{ranges}
use Rattle.ac_conditions.specs.Tests.{formula_of}

own_statement : (n : NodeId) (st : StmtKind) → IsListed (stmt_picked is_any_statement n st) n
own_statement n (Set x e) = inl refl
own_statement n (Put x at e) = inl refl
own_statement n (If' c i y j z) = inl refl
own_statement n (For' x a b i body) = inl refl
own_statement n (While' c i body) = inl refl
own_statement n (Hand x role) = inl refl
own_statement n Skip = inl refl

module _ (p : Program) (q : PolicyName) (part : Part) (t : Target) (bare : IsBare p part) where
  -- what stands in a part of the program stands in the program
  record Held (picked : (StmtKind → Bool) → List NodeId) (lefts : List NodeId) (sites : List Site) : Type 0 where
    picks : (test : StmtKind → Bool) → Sub (picked test) (list_picked test p.body)
    guards : Sub lefts (list_lefts p.body)
    accesses : Sub sites (sites_of p)

  abbrev HeldStmt : NodeId → StmtKind → Type 0
  HeldStmt n st = Held (λ test. stmt_picked test n st) (stmt_lefts st) (stmt_sites p n st)

  abbrev HeldBlock : {k : _} → Row_of-Stmt k → Type 0
  HeldBlock row = Held (λ test. block_picked test row) (block_lefts row) (block_sites p row)

  fewer : (picked more : (StmtKind → Bool) → List NodeId) (lefts lefts2 : List NodeId) (sites sites2 : List Site) → Held picked lefts sites → ((test : StmtKind → Bool) → Sub (more test) (picked test)) → Sub lefts2 lefts → Sub sites2 sites → Held more lefts2 sites2
  fewer picked more lefts lefts2 sites sites2 h f g e = record { picks = λ test x i. h.picks test x (f test x i); guards = λ x i. h.guards x (g x i); accesses = λ x i. h.accesses x (e x i) }

  changed_bare : (changes : List Change) (n : NodeId) → Fit (KindFits p) (formula_after changes (joined (part.invariant n)))
  changed_bare changes n = bare_fits (KindFits p) _ (labels_stay changes (joined (part.invariant n)) ∙ joined_bare (part.invariant n) (bare.kept n))

  goal_of : (n : NodeId) → Fit (KindFits p) (joined (part.invariant n))
  goal_of n = bare_fits (KindFits p) _ (joined_bare (part.invariant n) (bare.kept n))

  in_yes : {i j : _} (own : (StmtKind → Bool) → List NodeId) (cl : List NodeId) (cs : List Site) (y : Row_of-Stmt i) (z : Row_of-Stmt j) → Held (λ test. own test ++ (block_picked test y ++ block_picked test z)) (cl ++ (block_lefts y ++ block_lefts z)) (cs ++ (block_sites p y ++ block_sites p z)) → HeldBlock y
  in_yes own cl cs y z h = record {
    picks = λ test x k. h.picks test x (in-right (own test) (block_picked test y ++ block_picked test z) x (in-left (block_picked test y) (block_picked test z) x k));
    guards = λ x k. h.guards x (in-right cl (block_lefts y ++ block_lefts z) x (in-left (block_lefts y) (block_lefts z) x k));
    accesses = λ x k. h.accesses x (in-right cs (block_sites p y ++ block_sites p z) x (in-left (block_sites p y) (block_sites p z) x k));
  }

  in_no : {i j : _} (own : (StmtKind → Bool) → List NodeId) (cl : List NodeId) (cs : List Site) (y : Row_of-Stmt i) (z : Row_of-Stmt j) → Held (λ test. own test ++ (block_picked test y ++ block_picked test z)) (cl ++ (block_lefts y ++ block_lefts z)) (cs ++ (block_sites p y ++ block_sites p z)) → HeldBlock z
  in_no own cl cs y z h = record {
    picks = λ test x k. h.picks test x (in-right (own test) (block_picked test y ++ block_picked test z) x (in-right (block_picked test y) (block_picked test z) x k));
    guards = λ x k. h.guards x (in-right cl (block_lefts y ++ block_lefts z) x (in-right (block_lefts y) (block_lefts z) x k));
    accesses = λ x k. h.accesses x (in-right cs (block_sites p y ++ block_sites p z) x (in-right (block_sites p y) (block_sites p z) x k));
  }

  in_for : {i : _} (own : (StmtKind → Bool) → List NodeId) (lows highs : List Site) (body : Row_of-Stmt i) → Held (λ test. own test ++ block_picked test body) (block_lefts body) (lows ++ (highs ++ block_sites p body)) → HeldBlock body
  in_for own lows highs body h = record {
    picks = λ test x k. h.picks test x (in-right (own test) (block_picked test body) x k);
    guards = h.guards;
    accesses = λ x k. h.accesses x (in-right lows (highs ++ block_sites p body) x (in-right highs (block_sites p body) x k));
  }

  in_while : {i : _} (own : (StmtKind → Bool) → List NodeId) (cl : List NodeId) (cs : List Site) (body : Row_of-Stmt i) → Held (λ test. own test ++ block_picked test body) (cl ++ block_lefts body) (cs ++ block_sites p body) → HeldBlock body
  in_while own cl cs body h = record {
    picks = λ test x k. h.picks test x (in-right (own test) (block_picked test body) x k);
    guards = λ x k. h.guards x (in-right cl (block_lefts body) x k);
    accesses = λ x k. h.accesses x (in-right cs (block_sites p body) x k);
  }

  in_first : (n : NodeId) (st : StmtKind) {i : _} (rest : Row_of-Stmt i) → Held (λ test. stmt_picked test n st ++ block_picked test rest) (stmt_lefts st ++ block_lefts rest) (stmt_sites p n st ++ block_sites p rest) → HeldStmt n st
  in_first n st rest h =
      fewer (λ test. stmt_picked test n st ++ block_picked test rest) (λ test. stmt_picked test n st) (stmt_lefts st ++ block_lefts rest) (stmt_lefts st) (stmt_sites p n st ++ block_sites p rest) (stmt_sites p n st) h
      (λ test x k. in-left (stmt_picked test n st) (block_picked test rest) x k) (λ x k. in-left (stmt_lefts st) (block_lefts rest) x k) (λ x k. in-left (stmt_sites p n st) (block_sites p rest) x k)

  in_rest : (n : NodeId) (st : StmtKind) {i : _} (rest : Row_of-Stmt i) → Held (λ test. stmt_picked test n st ++ block_picked test rest) (stmt_lefts st ++ block_lefts rest) (stmt_sites p n st ++ block_sites p rest) → HeldBlock rest
  in_rest n st rest h =
      fewer (λ test. stmt_picked test n st ++ block_picked test rest) (λ test. block_picked test rest) (stmt_lefts st ++ block_lefts rest) (block_lefts rest) (stmt_sites p n st ++ block_sites p rest) (block_sites p rest) h
      (λ test x k. in-right (stmt_picked test n st) (block_picked test rest) x k) (λ x k. in-right (stmt_lefts st) (block_lefts rest) x k) (λ x k. in-right (stmt_sites p n st) (block_sites p rest) x k)

  list_first : (st : Stmt) (sts : List Stmt) → Held (λ test. list_picked test (st ∷ sts)) (list_lefts (st ∷ sts)) (list_sites p (st ∷ sts)) → HeldStmt st.node.id st.kind
  list_first st sts h =
      fewer (λ test. list_picked test (st ∷ sts)) (λ test. stmt_picked test st.node.id st.kind) (list_lefts (st ∷ sts)) (stmt_lefts st.kind) (list_sites p (st ∷ sts)) (stmt_sites p st.node.id st.kind) h
      (λ test x k. in-left (stmt_picked test st.node.id st.kind) (list_picked test sts) x k) (λ x k. in-left (stmt_lefts st.kind) (list_lefts sts) x k) (λ x k. in-left (stmt_sites p st.node.id st.kind) (list_sites p sts) x k)

  list_rest : (st : Stmt) (sts : List Stmt) → Held (λ test. list_picked test (st ∷ sts)) (list_lefts (st ∷ sts)) (list_sites p (st ∷ sts)) → Held (λ test. list_picked test sts) (list_lefts sts) (list_sites p sts)
  list_rest st sts h =
      fewer (λ test. list_picked test (st ∷ sts)) (λ test. list_picked test sts) (list_lefts (st ∷ sts)) (list_lefts sts) (list_sites p (st ∷ sts)) (list_sites p sts) h
      (λ test x k. in-right (stmt_picked test st.node.id st.kind) (list_picked test sts) x k) (λ x k. in-right (stmt_lefts st.kind) (list_lefts sts) x k) (λ x k. in-right (stmt_sites p st.node.id st.kind) (list_sites p sts) x k)

  ends_in : (A B R : List Site) → Sub (A ++ (B ++ R)) (sites_of p) → Sub (A ++ B) (sites_of p)
  ends_in A B R h x k = elim (split A B x k) [ inl l ↦ h x (in-left A (B ++ R) x l) | inr l ↦ h x (in-right A (B ++ R) x (in-left B R x l)) ]

  mutual
    before_fits : (n : NodeId) (st : StmtKind) (behind : Option Formula) → HeldStmt n st → FitIf (KindFits p) behind → FitIf (KindFits p) (before p part t n st behind)
    before_fits n (Set x e) behind h k =
        conjoined_fits (KindFits p) (set_goal p part t n x e) (before_changes n (scalar_changes p part n x (term_of p e.kind)) behind)
        (sites_fit p part.need t bare.needs (scalar_write n x ∷ expr_sites p e.node.id e.kind) h.accesses) (changed_fits (KindFits p) n (scalar_changes p part n x (term_of p e.kind)) behind (h.picks is_assignment n (inl refl)) k)
    before_fits n (Put x at e) behind h k =
        conjoined_fits (KindFits p) (put_goal p part t n x at e) (before_changes n (element_changes p part n x at (term_of p e.kind)) behind)
        (sites_fit p part.need t bare.needs (element_write p n x at ∷ (index_sites p at ++ expr_sites p e.node.id e.kind)) h.accesses) (changed_fits (KindFits p) n (element_changes p part n x at (term_of p e.kind)) behind (h.picks is_assignment n (inl refl)) k)
    before_fits n (If' c i y j z) behind h k =
        conjoined_fits (KindFits p) (cond_goal part.need t p c.kind) (conjoined (under label.Test n (formula_of p c.kind) (before_block p part t y behind)) (under label.Denied n (Not (formula_of p c.kind)) (before_block p part t z behind)))
        (cond_fits p part.need t bare.needs c.kind (λ x l. h.accesses x (in-left (cond_sites p c.kind) (block_sites p y ++ block_sites p z) x l)) (λ x l. h.guards x (in-left (cond_lefts c.kind) (block_lefts y ++ block_lefts z) x l)))
        (conjoined_fits (KindFits p) (under label.Test n (formula_of p c.kind) (before_block p part t y behind)) (under label.Denied n (Not (formula_of p c.kind)) (before_block p part t z behind))
        (under_fits (KindFits p) label.Test n (formula_of p c.kind) (before_block p part t y behind) (h.picks has_test n (inl refl)) (test_bare p c.kind) (block_fits y behind (in_yes (λ test. own_picked test n (If' c i y j z)) (cond_lefts c.kind) (cond_sites p c.kind) y z h) k))
        (under_fits (KindFits p) label.Denied n (Not (formula_of p c.kind)) (before_block p part t z behind) (h.picks is_if n (inl refl)) (not_bare (formula_of p c.kind) (test_bare p c.kind)) (block_fits z behind (in_no (λ test. own_picked test n (If' c i y j z)) (cond_lefts c.kind) (cond_sites p c.kind) y z h) k)))
    before_fits n (For' x a b i body) behind h k =
        conjoined_fits (KindFits p) (ends_goal p part t a b) (for_entry p part t n x a) (sites_fit p part.need t bare.needs (expr_sites p a.node.id a.kind ++ expr_sites p b.node.id b.kind) (ends_in (expr_sites p a.node.id a.kind) (expr_sites p b.node.id b.kind) (block_sites p body) h.accesses))
        (goal_fits (KindFits p) (is_entry t n) _ (labelled_fits (KindFits p) label.Entry n _ (h.picks is_loop_statement n (inl refl)) (changed_bare _ n)))
    before_fits n (While' c i body) behind h k = goal_fits (KindFits p) (is_entry t n) _ (labelled_fits (KindFits p) label.Entry n _ (h.picks is_loop_statement n (inl refl)) (goal_of n))
    before_fits n (Hand x role) behind h k = conjoined_fits (KindFits p) (site_goal part.need t (role_use p n x role)) behind (site_fits p part.need t bare.needs (role_use p n x role) (h.accesses (role_use p n x role) (inl refl))) k
    before_fits n Skip behind h k = k

    block_fits : {i : _} (row : Row_of-Stmt i) (behind : Option Formula) → HeldBlock row → FitIf (KindFits p) behind → FitIf (KindFits p) (before_block p part t row behind)
    block_fits end_of-Stmt behind h k = k
    block_fits (more_of-Stmt n st rest) behind h k =
        let g = in_first n.id st rest h in
        before_fits n.id st (past_barrier t n.id (part.behind n.id) (before_block p part t rest behind)) g
        (barrier_fits (KindFits p) t n.id (part.behind n.id) (before_block p part t rest behind) (g.picks is_any_statement n.id (own_statement n.id st)) (bare.behinds n.id) (block_fits rest behind (in_rest n.id st rest h) k))

  -- conditions
  abbrev CFit : List Condition → Type 0
  CFit cs = AllByRecursion (λ (c : Condition). Fit (KindFits p) c.formula) cs

  c_append : (cs ds : List Condition) → CFit cs → CFit ds → CFit (cs ++ ds)
  c_append [] ds h k = k
  c_append (c ∷ cs) ds h k = (h.0, c_append cs ds h.1 k)

  one_fits : (c : Cut) (hs : List Formula) (path : Option Formula) → AllFit (KindFits p) hs → FitIf (KindFits p) path → CFit (condition p q part t c hs path)
  one_fits c hs None h k = tt
  one_fits c hs (Some f) h k = (implied_fit (KindFits p) hs f h k, tt)

  barred_fits : (n : NodeId) (hs facts : List Formula) (behind : Option Formula) → FitsKind p label.Assumed n → AreUnlabelled facts → AllFit (KindFits p) hs → FitIf (KindFits p) behind → CFit (barrier_condition p q part t n hs facts behind)
  barred_fits n hs [] behind h b k l = tt
  barred_fits n hs (f ∷ fs) behind h b k l = one_fits (After n) (hs ++ assumed n (f ∷ fs)) behind (fit_append (KindFits p) hs (assumed n (f ∷ fs)) k (all_labelled (KindFits p) label.Assumed n (f ∷ fs) h b)) l

  kept_for : (n : NodeId) (x : NameBytes) → FitsKind p label.Keep n → FitIf (KindFits p) (for_keep p part t n x)
  kept_for n x h = goal_fits (KindFits p) (is_keep t n) _ (labelled_fits (KindFits p) label.Keep n _ h (changed_bare _ n))

  kept_while : (n : NodeId) → FitsKind p label.Keep n → FitIf (KindFits p) (while_keep p part t n)
  kept_while n h = goal_fits (KindFits p) (is_keep t n) _ (labelled_fits (KindFits p) label.Keep n _ h (goal_of n))

  head_for : {i : _} (n : NodeId) (x : NameBytes) (hi : Expr) (body : Row_of-Stmt i) → FitsKind p label.Test n → HeldBlock body → FitIf (KindFits p) (for_keep p part t n x) → FitIf (KindFits p) (for_head p part t n x hi body)
  unfolding hidden formula_shape formula_child
  head_for n x hi body h b k = under_fits (KindFits p) label.Test n _ (before_block p part t body (for_keep p part t n x)) h refl (block_fits body (for_keep p part t n x) b k)

  mutual
    stmt_c : (hs : List Formula) (n : NodeId) (st : StmtKind) (behind : Option Formula) (bs : List Condition) → HeldStmt n st → AllFit (KindFits p) hs → FitIf (KindFits p) behind → CFit bs → CFit (conditions p q part t hs n st behind bs)
    stmt_c hs n (Set x e) behind bs h a k b = b
    stmt_c hs n (Put x at e) behind bs h a k b = b
    stmt_c hs n (If' c i y j z) behind bs h a k b =
        c_append bs (block_conditions p q part t hs y behind ++ block_conditions p q part t hs z behind) b
        (c_append (block_conditions p q part t hs y behind) (block_conditions p q part t hs z behind) (block_c hs y behind (in_yes (λ test. own_picked test n (If' c i y j z)) (cond_lefts c.kind) (cond_sites p c.kind) y z h) a k) (block_c hs z behind (in_no (λ test. own_picked test n (If' c i y j z)) (cond_lefts c.kind) (cond_sites p c.kind) y z h) a k))
    stmt_c hs n (For' x lo hi i body) behind bs h a k b =
        let L = h.picks is_loop_statement n (inl refl) in
        let F = h.picks is_for n (inl refl) in
        let I = all_labelled (KindFits p) label.Invariant n (part.invariant n) L (bare.kept n) in
        let B = in_for (λ test. own_picked test n (For' x lo hi i body)) (expr_sites p lo.node.id lo.kind) (expr_sites p hi.node.id hi.kind) body h in
        let hs2 = hs ++ in_body p part n x lo hi ∷ [] in
        let C3 = block_conditions p q part t hs2 body (for_keep p part t n x) in
        let C2 = condition p q part t (Exit n) (hs ++ (at_for_exit p part n x lo hi ∷ invariants p part n)) behind in
        c_append (condition p q part t (Head n) (hs ++ (at_for_test p part n x lo ∷ invariants p part n)) (for_head p part t n x hi body)) (C2 ++ (bs ++ C3))
        (one_fits (Head n) _ (for_head p part t n x hi body) (fit_append (KindFits p) hs (at_for_test p part n x lo ∷ invariants p part n) a (test_fits (KindFits p) p part bare n x lo F, I)) (head_for n x hi body (h.picks has_test n (inl refl)) B (kept_for n x L)))
        (c_append C2 (bs ++ C3) (one_fits (Exit n) _ behind (fit_append (KindFits p) hs (at_for_exit p part n x lo hi ∷ invariants p part n) a (exit_fits (KindFits p) p part bare n x lo hi L, I)) k)
        (c_append bs C3 b (block_c hs2 body (for_keep p part t n x) B (fit_append (KindFits p) hs (in_body p part n x lo hi ∷ []) a (body_fits (KindFits p) p part bare n x lo hi F, tt)) (kept_for n x L))))
    stmt_c hs n (While' c i body) behind bs h a k b =
        let L = h.picks is_loop_statement n (inl refl) in
        let I = all_labelled (KindFits p) label.Invariant n (part.invariant n) L (bare.kept n) in
        let B = in_while (λ test. own_picked test n (While' c i body)) (cond_lefts c.kind) (cond_sites p c.kind) body h in
        let C3 = block_conditions p q part t hs body (while_keep p part t n) in
        let C2 = condition p q part t (Exit n) (hs ++ (at_while_exit p part n c ∷ invariants p part n)) behind in
        c_append (condition p q part t (Head n) (hs ++ invariants p part n) (while_head p part t n c body)) (C2 ++ (bs ++ C3))
        (one_fits (Head n) _ (while_head p part t n c body) (fit_append (KindFits p) hs (invariants p part n) a I)
        (conjoined_fits (KindFits p) (cond_goal part.need t p c.kind) (under label.Test n (formula_of p c.kind) (before_block p part t body (while_keep p part t n)))
        (cond_fits p part.need t bare.needs c.kind (λ x l. h.accesses x (in-left (cond_sites p c.kind) (block_sites p body) x l)) (λ x l. h.guards x (in-left (cond_lefts c.kind) (block_lefts body) x l)))
        (under_fits (KindFits p) label.Test n (formula_of p c.kind) (before_block p part t body (while_keep p part t n)) (h.picks has_test n (inl refl)) (test_bare p c.kind) (block_fits body (while_keep p part t n) B (kept_while n L)))))
        (c_append C2 (bs ++ C3) (one_fits (Exit n) _ behind (fit_append (KindFits p) hs (at_while_exit p part n c ∷ invariants p part n) a (left_fits (KindFits p) p part bare n c L, I)) k)
        (c_append bs C3 b (block_c hs body (while_keep p part t n) B a (kept_while n L))))
    stmt_c hs n (Hand x role) behind bs h a k b = b
    stmt_c hs n Skip behind bs h a k b = b

    block_c : {i : _} (hs : List Formula) (row : Row_of-Stmt i) (behind : Option Formula) → HeldBlock row → AllFit (KindFits p) hs → FitIf (KindFits p) behind → CFit (block_conditions p q part t hs row behind)
    block_c hs end_of-Stmt behind h a k = tt
    block_c hs (more_of-Stmt n st rest) behind h a k =
        let g = in_first n.id st rest h in
        let r = in_rest n.id st rest h in
        let R = before_block p part t rest behind in
        let S = g.picks is_any_statement n.id (own_statement n.id st) in
        let f = block_fits rest behind r k in
        c_append (conditions p q part t hs n.id st (past_barrier t n.id (part.behind n.id) R) (barrier_condition p q part t n.id hs (part.behind n.id) R)) (block_conditions p q part t hs rest behind)
        (stmt_c hs n.id st _ _ g a (barrier_fits (KindFits p) t n.id (part.behind n.id) R S (bare.behinds n.id) f) (barred_fits n.id hs (part.behind n.id) R S (bare.behinds n.id) a f)) (block_c hs rest behind r a k)

  list_before : (sts : List Stmt) → Held (λ test. list_picked test sts) (list_lefts sts) (list_sites p sts) → FitIf (KindFits p) (before_list p part t sts None)
  list_before [] h = tt
  list_before (st ∷ sts) h =
      let n = st.node.id in
      let g = list_first st sts h in
      before_fits n st.kind (past_barrier t n (part.behind n) (before_list p part t sts None)) g
      (barrier_fits (KindFits p) t n (part.behind n) (before_list p part t sts None) (g.picks is_any_statement n (own_statement n st.kind)) (bare.behinds n) (list_before sts (list_rest st sts h)))

  list_c : (hs : List Formula) (sts : List Stmt) → Held (λ test. list_picked test sts) (list_lefts sts) (list_sites p sts) → AllFit (KindFits p) hs → CFit (list_conditions p q part t hs sts None)
  list_c hs [] h a = tt
  list_c hs (st ∷ sts) h a =
      let n = st.node.id in
      let g = list_first st sts h in
      let r = list_rest st sts h in
      let R = before_list p part t sts None in
      let S = g.picks is_any_statement n (own_statement n st.kind) in
      let f = list_before sts r in
      c_append (conditions p q part t hs n st.kind (past_barrier t n (part.behind n) R) (barrier_condition p q part t n hs (part.behind n) R)) (list_conditions p q part t hs sts None)
      (stmt_c hs n st.kind _ _ g a (barrier_fits (KindFits p) t n (part.behind n) R S (bare.behinds n) f) (barred_fits n hs (part.behind n) R S (bare.behinds n) a f)) (list_c hs sts r a)

  pub target_fits : CFit (conditions_at p q part t)
  target_fits =
      let whole : Held (λ test. list_picked test p.body) (list_lefts p.body) (list_sites p p.body) = record { picks = λ test x i. i; guards = λ x i. i; accesses = λ x i. i } in
      let inputs = ranges_fit (KindFits p) p p.items (λ d i e. (d, i, e, refl)) in
      c_append (condition p q part t Start (ranges p p.items) (before_list p part t p.body None)) (list_conditions p q part t (ranges p p.items) p.body None)
      (one_fits Start (ranges p p.items) (before_list p part t p.body None) inputs (list_before p.body whole)) (list_c (ranges p p.items) p.body whole inputs)

each_fits : (p : Program) (q : PolicyName) (part : Part) → IsBare p part → (ts : List Target) → AllByRecursion (λ (c : Condition). Fit (KindFits p) c.formula) (at_each (conditions_at p q part) ts)
each_fits p q part bare [] = tt
each_fits p q part bare (t ∷ ts) = c_append p q part t bare (conditions_at p q part t) (at_each (conditions_at p q part) ts) (target_fits p q part t bare) (each_fits p q part bare ts)

of_all : (p : Program) (cs : List Condition) → AllByRecursion (λ (c : Condition). Fit (KindFits p) c.formula) cs → (c : Condition) → IsListed cs c → Fit (KindFits p) c.formula
of_all p [] h c i = absurd i
of_all p (d ∷ cs) h c (inl e) = subst (λ (x : Condition). Fit (KindFits p) x.formula) (sym e) h.0
of_all p (d ∷ cs) h c (inr i) = of_all p cs h.1 c i

facts_bare : (is_there : Place → Bool) (annotations : List Annotation) → ((a : Annotation) → IsListed annotations a → IsUnlabelled a.formula) → AreUnlabelled (facts_at is_there annotations)
facts_bare is_there [] h = tt
facts_bare is_there (a ∷ annotations) h = by (is_there a.place) (h a (inl refl)) (facts_bare is_there annotations (λ b i. h b (inr i)))
  where
    by : (b : Bool) → IsUnlabelled a.formula → AreUnlabelled (facts_at is_there annotations) → AreUnlabelled (if b then a.formula ∷ facts_at is_there annotations else facts_at is_there annotations)
    by true f fs = (f, fs)
    by false f fs = fs

contained : (ss : List Site) (s : Site) → IsListed ss s → Contains ss s
contained [] s h = absurd h
contained (x ∷ ss) s (inl e) = (0, omega arith, sym e)
contained (x ∷ ss) s (inr h) = let k = contained ss s h in (suc k.0, omega (arith, k.1), k.2)

plain_bare : (o : Option Formula) → IsPlainIf o → IsUnlabelledIf o
plain_bare None h = tt
plain_bare (Some f) h = h.unlabelled

-- the formulas of a policy that keeps the law on their form have no label, and neither have those of such annotations
pub bare_part : (p : Program) (need : Site → Option Formula) (effect : Site → List Change) (known : NameBytes → Option Formula) (annotations : List Annotation) → LawForm need effect known →
    ((a : Annotation) → IsListed annotations a → labels_of a.formula ≡ []) → IsBare p (part_of need effect known annotations)
bare_part p need effect known annotations law bare = record {
  needs = λ s h. plain_bare (need s) (law.needs s (plain_sites p s (contained (sites_of p) s h)));
  knows = λ x. plain_bare (known x) (law.knows x);
  kept = λ n. facts_bare (is_loop n) annotations bare;
  behinds = λ n. facts_bare (is_after n) annotations bare;
}

pub labels_fit : (p : Program) (q : PolicyName) (need : Site → Option Formula) (effect : Site → List Change) (known : NameBytes → Option Formula) (annotations : List Annotation) → LawForm need effect known →
    ((a : Annotation) → IsListed annotations a → labels_of a.formula ≡ []) → (c : Condition) → IsListed (all_conditions p q need effect known annotations) c → (l : Label) → IsListed (labels_of c.formula) l → KindFits p l
labels_fit p q need effect known annotations law bare c i =
    of_all p (all_conditions p q need effect known annotations) (each_fits p q (part_of need effect known annotations) (bare_part p need effect known annotations law bare) (list_targets p p.body)) c i
