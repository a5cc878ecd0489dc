-- Each condition aims at the label of its target: path formulas do, and hypotheses and changes leave it so.
use Rattle.std.proofs.Common.{◌≡◌, List, [], ◌∷◌, ◌++◌, Bool, true, false, Option, Some, None, refl, sym, ap, inl, inr, if◌then◌else◌}
use Rattle.std.specs.List.{AllByRecursion}
use Rattle.ac_tree.specs.declared.node.NodeId.{NodeId}
use Rattle.ac_tree.specs.declared.path.Cut.{Cut}
use Rattle.ac_tree.specs.declared.path.Cut.TheVariants.{Start, Head, Exit, After}
use Rattle.ac_tree.specs.declared.path.Target.{Target}
use Rattle.ac_tree.specs.declared.path.Target.TheVariants as target
use Rattle.ac_tree.specs.declared.policy.PolicyName.{PolicyName}
use Rattle.ac_tree.specs.declared.program.Cond.{Cond}
use Rattle.ac_tree.specs.declared.program.CondKind.{CondKind}
use Rattle.ac_tree.specs.declared.program.CondKind.TheVariants as cond
use Rattle.ac_tree.specs.declared.program.Expr.{Expr}
use Rattle.ac_tree.specs.declared.program.Program.{Program}
use Rattle.ac_tree.specs.declared.program.Stmt.{Stmt}
use Rattle.ac_tree.specs.declared.program.StmtKind.{StmtKind, Row_of-Stmt, end_of-Stmt, more_of-Stmt, Set, Put, If', For', While', Hand, Skip}
use Rattle.ac_tree.specs.Patterns.{Negation, Conjunction, Disjunction}
use Rattle.ac_run.specs.Declarations.{NameBytes}
use Rattle.ac_flow.specs.Leads.{is_site, is_entry, is_keep, is_barrier}
use Rattle.ac_flow.specs.Listed.{IsListed}
use Rattle.ac_logic.specs.Aim.{AimsAt}
use Rattle.ac_logic.specs.declared.condition.Annotation.{Annotation}
use Rattle.ac_logic.specs.declared.condition.Condition.{Condition}
use Rattle.ac_logic.specs.declared.formula.Change.{Change}
use Rattle.ac_logic.specs.declared.formula.Formula.{Formula, True, False, Le, Eq}
use Rattle.ac_logic.specs.declared.label.Label.{Label}
use Rattle.ac_logic.specs.declared.label.LabelKind.{LabelKind}
use Rattle.ac_logic.specs.declared.label.LabelKind.TheVariants as label
use Rattle.ac_logic.specs.Patterns.{Implication, Every, Labelled}
use Rattle.ac_logic.specs.Patterns.{Negation as Not}
use Rattle.ac_logic.specs.Patterns.{Conjunction as And}
use Rattle.ac_logic.specs.Patterns.{Disjunction as Or}
use Rattle.ac_logic.specs.Substitution.{formula_after}
use Rattle.ac_policy.specs.declared.site.Site.{Site}
use Rattle.ac_policy.specs.Sites.{expr_sites, index_sites, scalar_write}
use Rattle.ac_policy.specs.Terms.{term_of}
use Rattle.ac_conditions.proofs.TargetsCover.{same_target}
use Rattle.ac_conditions.specs.AllConditions.{all_conditions}
use Rattle.ac_conditions.specs.Conditions.{implied_by, condition, barrier_condition, conditions, block_conditions, list_conditions, conditions_at}
use Rattle.ac_conditions.specs.Goals.{conjoined, goal_if, under, labelled_need, site_goal, sites_goal, cond_goal}
use Rattle.ac_conditions.specs.Hypotheses.{in_body}
use Rattle.ac_conditions.specs.Part.{Part, part_of}
use Rattle.ac_conditions.specs.Preconditions.{joined, past_barrier, element_write, role_use, scalar_changes, element_changes, before_changes, set_goal, put_goal, ends_goal, while_keep, for_entry, for_keep, before, before_block, before_list, for_head, while_head}
use Rattle.ac_conditions.specs.Ranges.{ranges}
use Rattle.ac_conditions.specs.Tests.{labelled, formula_of}
use Rattle.ac_labels.proofs.ByTarget.{of_all}
use Rattle.ac_labels.specs.TargetLabels.{target_label}
use Rattle.ac_labels.specs.Opened.{hidden, cond_shape, cond_child, formula_shape, formula_child}

module _ (l : Label) where
  abbrev AimsIf : Option Formula → Type 0
  AimsIf None = Unit {0}
  AimsIf (Some f) = AimsAt l f

  changed_aims : (cs : List Change) (f : Formula) → AimsAt l f → AimsAt l (formula_after cs f)
  unfolding hidden formula_shape formula_child
  changed_aims cs True h = h
  changed_aims cs False h = h
  changed_aims cs (Le s t) h = h
  changed_aims cs (Eq s t) h = h
  changed_aims cs (Not f) h = h
  changed_aims cs (And f g) h = (changed_aims cs f h.0, changed_aims cs g h.1)
  changed_aims cs (Or f g) h = h
  changed_aims cs (Implication f g) h = changed_aims cs g h
  changed_aims cs (Every f) h = h
  changed_aims cs (Labelled m f) (inl e) = inl e
  changed_aims cs (Labelled m f) (inr h) = inr (changed_aims cs f h)

  implied_aims : (hs : List Formula) (f : Formula) → AimsAt l f → AimsAt l (implied_by hs f)
  unfolding hidden formula_shape formula_child
  implied_aims [] f h = h
  implied_aims (g ∷ hs) f h = implied_aims hs f h

  both_aim : (f g : Option Formula) → AimsIf f → AimsIf g → AimsIf (conjoined f g)
  unfolding hidden formula_shape formula_child
  both_aim None g h k = k
  both_aim (Some f) None h k = h
  both_aim (Some f) (Some g) h k = (h, k)

  premise_aims : (kind : LabelKind) (n : NodeId) (f : Formula) (g : Option Formula) → AimsIf g → AimsIf (under kind n f g)
  unfolding hidden formula_shape formula_child
  premise_aims kind n f None h = h
  premise_aims kind n f (Some g) h = h

  labelled_aims : (kind : LabelKind) (n : NodeId) (f : Formula) → l ≡ record { kind = kind; node = n } → AimsAt l (labelled kind n f)
  unfolding hidden formula_shape formula_child
  labelled_aims kind n f e = inl (sym e)

  change_aims : (n : NodeId) (changes : List Change) (g : Option Formula) → AimsIf g → AimsIf (before_changes n changes g)
  unfolding hidden formula_shape formula_child
  change_aims n changes None h = h
  change_aims n changes (Some g) h = inr (changed_aims changes g h)

  goal_aims : (kind : LabelKind) (n : NodeId) (f : Formula) (b : Bool) → (b ≡ true → l ≡ record { kind = kind; node = n }) → AimsIf (goal_if b (labelled kind n f))
  goal_aims kind n f true h = labelled_aims kind n f (h refl)
  goal_aims kind n f false h = tt

module _ (p : Program) (q : PolicyName) (part : Part) (t : Target) where
  abbrev Aims : Option Formula → Type 0
  Aims o = AimsIf (target_label t) o

  site_aims : (s : Site) → Aims (site_goal part.need t s)
  site_aims s = by (is_site t s.node) refl (part.need s)
    where
      by : (b : Bool) → is_site t s.node ≡ b → (o : Option Formula) → Aims (if b then labelled_need s.node o else None)
      by false e o = tt
      by true e None = tt
      by true e (Some f) = labelled_aims (target_label t) label.Need s.node f (ap target_label (same_target t (target.Site s.node) e))

  sites_aim : (ss : List Site) → Aims (sites_goal part.need t ss)
  sites_aim [] = tt
  sites_aim (s ∷ ss) = both_aim (target_label t) (site_goal part.need t s) (sites_goal part.need t ss) (site_aims s) (sites_aim ss)

  cond_aims : (c : CondKind) → Aims (cond_goal part.need t p c)
  unfolding hidden cond_shape cond_child formula_shape formula_child
  cond_aims cond.True = tt
  cond_aims cond.False = tt
  cond_aims (cond.Rel op a b) = sites_aim (expr_sites p a.node.id a.kind ++ expr_sites p b.node.id b.kind)
  cond_aims (Negation n c) = cond_aims c
  cond_aims (Conjunction n c m d) =
      both_aim (target_label t) (cond_goal part.need t p c) (under label.Guard n.id (formula_of p c) (cond_goal part.need t p d)) (cond_aims c) (premise_aims (target_label t) label.Guard n.id (formula_of p c) (cond_goal part.need t p d) (cond_aims d))
  cond_aims (Disjunction n c m d) =
      both_aim (target_label t) (cond_goal part.need t p c) (under label.Guard n.id (Not (formula_of p c)) (cond_goal part.need t p d)) (cond_aims c) (premise_aims (target_label t) label.Guard n.id (Not (formula_of p c)) (cond_goal part.need t p d) (cond_aims d))

  entry_aims : (n : NodeId) (f : Formula) → Aims (goal_if (is_entry t n) (labelled label.Entry n f))
  entry_aims n f = goal_aims (target_label t) label.Entry n f (is_entry t n) (λ e. ap target_label (same_target t (target.Entry n) e))

  keep_aims : (n : NodeId) (f : Formula) → Aims (goal_if (is_keep t n) (labelled label.Keep n f))
  keep_aims n f = goal_aims (target_label t) label.Keep n f (is_keep t n) (λ e. ap target_label (same_target t (target.Keep n) e))

  past_aims : (n : NodeId) (fs : List Formula) (behind : Option Formula) → Aims behind → Aims (past_barrier t n fs behind)
  past_aims n [] behind h = h
  past_aims n (f ∷ fs) behind h = goal_aims (target_label t) label.Barrier n (joined (f ∷ fs)) (is_barrier t n) (λ e. ap target_label (same_target t (target.Barrier n) e))

  mutual
    stmt_aims : (n : NodeId) (st : StmtKind) (behind : Option Formula) → Aims behind → Aims (before p part t n st behind)
    stmt_aims n (Set x e) behind h =
        both_aim (target_label t) (set_goal p part t n x e) (before_changes n (scalar_changes p part n x (term_of p e.kind)) behind) (sites_aim (scalar_write n x ∷ expr_sites p e.node.id e.kind))
        (change_aims (target_label t) n (scalar_changes p part n x (term_of p e.kind)) behind h)
    stmt_aims n (Put x i e) behind h =
        both_aim (target_label t) (put_goal p part t n x i e) (before_changes n (element_changes p part n x i (term_of p e.kind)) behind) (sites_aim (element_write p n x i ∷ (index_sites p i ++ expr_sites p e.node.id e.kind)))
        (change_aims (target_label t) n (element_changes p part n x i (term_of p e.kind)) behind h)
    stmt_aims n (If' c i y j z) behind h =
        let yes_part : Option Formula = before_block p part t y behind in
        let no_part : Option Formula = before_block p part t z behind in
        both_aim (target_label t) (cond_goal part.need t p c.kind) (conjoined (under label.Test n (formula_of p c.kind) yes_part) (under label.Denied n (Not (formula_of p c.kind)) no_part)) (cond_aims c.kind)
        (both_aim (target_label t) (under label.Test n (formula_of p c.kind) yes_part) (under label.Denied n (Not (formula_of p c.kind)) no_part)
        (premise_aims (target_label t) label.Test n (formula_of p c.kind) yes_part (block_aims y behind h)) (premise_aims (target_label t) label.Denied n (Not (formula_of p c.kind)) no_part (block_aims z behind h)))
    stmt_aims n (For' x lo hi i body) behind h = both_aim (target_label t) (ends_goal p part t lo hi) (for_entry p part t n x lo) (sites_aim (expr_sites p lo.node.id lo.kind ++ expr_sites p hi.node.id hi.kind)) (entry_aims n _)
    stmt_aims n (While' c i body) behind h = entry_aims n _
    stmt_aims n (Hand x role) behind h = both_aim (target_label t) (site_goal part.need t (role_use p n x role)) behind (site_aims (role_use p n x role)) h
    stmt_aims n Skip behind h = h

    block_aims : {k : _} (row : Row_of-Stmt k) (behind : Option Formula) → Aims behind → Aims (before_block p part t row behind)
    block_aims end_of-Stmt behind h = h
    block_aims (more_of-Stmt n st rest) behind h =
        stmt_aims n.id st (past_barrier t n.id (part.behind n.id) (before_block p part t rest behind)) (past_aims n.id (part.behind n.id) (before_block p part t rest behind) (block_aims rest behind h))

  list_aims : (sts : List Stmt) → Aims (before_list p part t sts None)
  list_aims [] = tt
  list_aims (st ∷ sts) =
      stmt_aims st.node.id st.kind (past_barrier t st.node.id (part.behind st.node.id) (before_list p part t sts None)) (past_aims st.node.id (part.behind st.node.id) (before_list p part t sts None) (list_aims sts))

  for_aims : {k : _} (n : NodeId) (x : NameBytes) (hi : Expr) (body : Row_of-Stmt k) → Aims (for_head p part t n x hi body)
  for_aims n x hi body = premise_aims (target_label t) label.Test n _ (before_block p part t body (for_keep p part t n x)) (block_aims body (for_keep p part t n x) (keep_aims n _))

  while_aims : {k : _} (n : NodeId) (test : Cond) (body : Row_of-Stmt k) → Aims (while_head p part t n test body)
  while_aims n test body =
      both_aim (target_label t) (cond_goal part.need t p test.kind) (under label.Test n (formula_of p test.kind) (before_block p part t body (while_keep p part t n))) (cond_aims test.kind)
      (premise_aims (target_label t) label.Test n (formula_of p test.kind) (before_block p part t body (while_keep p part t n)) (block_aims body (while_keep p part t n) (keep_aims n _)))

  -- the conditions
  abbrev AllAim : List Condition → Type 0
  AllAim cs = AllByRecursion (λ (x : Condition). AimsAt (target_label t) x.formula) cs

  aim_append : (cs ds : List Condition) → AllAim cs → AllAim ds → AllAim (cs ++ ds)
  aim_append [] ds h k = k
  aim_append (c ∷ cs) ds h k = (h.0, aim_append cs ds h.1 k)

  one_aims : (c : Cut) (hs : List Formula) (path : Option Formula) → Aims path → AllAim (condition p q part t c hs path)
  one_aims c hs None h = tt
  one_aims c hs (Some f) h = (implied_aims (target_label t) hs f h, tt)

  barrier_aims : (n : NodeId) (hs facts : List Formula) (behind : Option Formula) → Aims behind → AllAim (barrier_condition p q part t n hs facts behind)
  barrier_aims n hs [] behind h = tt
  barrier_aims n hs (f ∷ fs) behind h = one_aims (After n) _ behind h

  mutual
    stmt_all : (hs : List Formula) (n : NodeId) (st : StmtKind) (behind : Option Formula) (bs : List Condition) → Aims behind → AllAim bs → AllAim (conditions p q part t hs n st behind bs)
    stmt_all hs n (Set x e) behind bs h k = k
    stmt_all hs n (Put x i e) behind bs h k = k
    stmt_all hs n (If' c i y j z) behind bs h k =
        aim_append bs (block_conditions p q part t hs y behind ++ block_conditions p q part t hs z behind) k
        (aim_append (block_conditions p q part t hs y behind) (block_conditions p q part t hs z behind) (block_all hs y behind h) (block_all hs z behind h))
    stmt_all hs n (For' x lo hi i body) behind bs h k =
        aim_append (condition p q part t (Head n) _ (for_head p part t n x hi body)) _ (one_aims (Head n) _ (for_head p part t n x hi body) (for_aims n x hi body))
        (aim_append (condition p q part t (Exit n) _ behind) _ (one_aims (Exit n) _ behind h)
        (aim_append bs (block_conditions p q part t (hs ++ in_body p part n x lo hi ∷ []) body (for_keep p part t n x)) k (block_all (hs ++ in_body p part n x lo hi ∷ []) body (for_keep p part t n x) (keep_aims n _))))
    stmt_all hs n (While' c i body) behind bs h k =
        aim_append (condition p q part t (Head n) _ (while_head p part t n c body)) _ (one_aims (Head n) _ (while_head p part t n c body) (while_aims n c body))
        (aim_append (condition p q part t (Exit n) _ behind) _ (one_aims (Exit n) _ behind h) (aim_append bs (block_conditions p q part t hs body (while_keep p part t n)) k (block_all hs body (while_keep p part t n) (keep_aims n _))))
    stmt_all hs n (Hand x role) behind bs h k = k
    stmt_all hs n Skip behind bs h k = k

    block_all : {k : _} (hs : List Formula) (row : Row_of-Stmt k) (behind : Option Formula) → Aims behind → AllAim (block_conditions p q part t hs row behind)
    block_all hs end_of-Stmt behind h = tt
    block_all hs (more_of-Stmt n st rest) behind h =
        let formula : Option Formula = before_block p part t rest behind in
        let aims : Aims formula = block_aims rest behind h in
        aim_append (conditions p q part t hs n.id st (past_barrier t n.id (part.behind n.id) formula) (barrier_condition p q part t n.id hs (part.behind n.id) formula)) (block_conditions p q part t hs rest behind)
        (stmt_all hs n.id st (past_barrier t n.id (part.behind n.id) formula) (barrier_condition p q part t n.id hs (part.behind n.id) formula) (past_aims n.id (part.behind n.id) formula aims)
        (barrier_aims n.id hs (part.behind n.id) formula aims)) (block_all hs rest behind h)

  list_all : (hs : List Formula) (sts : List Stmt) → AllAim (list_conditions p q part t hs sts None)
  list_all hs [] = tt
  list_all hs (st ∷ sts) =
      let n : NodeId = st.node.id in
      let formula : Option Formula = before_list p part t sts None in
      aim_append (conditions p q part t hs n st.kind (past_barrier t n (part.behind n) formula) (barrier_condition p q part t n hs (part.behind n) formula)) (list_conditions p q part t hs sts None)
      (stmt_all hs n st.kind (past_barrier t n (part.behind n) formula) (barrier_condition p q part t n hs (part.behind n) formula) (past_aims n (part.behind n) formula (list_aims sts)) (barrier_aims n hs (part.behind n) formula (list_aims sts)))
      (list_all hs sts)

  pub target_aims : AllAim (conditions_at p q part t)
  target_aims =
      aim_append (condition p q part t Start (ranges p p.items) (before_list p part t p.body None)) (list_conditions p q part t (ranges p p.items) p.body None)
      (one_aims Start (ranges p p.items) (before_list p part t p.body None) (list_aims p.body)) (list_all (ranges p p.items) p.body)

pub condition_aims : (p : Program) (q : PolicyName) (need : Site → Option Formula) (effect : Site → List Change) (known : NameBytes → Option Formula) (annotations : List Annotation) (c : Condition) →
    IsListed (all_conditions p q need effect known annotations) c → AimsAt (target_label c.pair.target) c.formula
condition_aims p q need effect known annotations c i =
    let part : Part = part_of need effect known annotations in of_all (λ t x. AimsAt (target_label t) x.formula) p q part (λ t. target_aims p q part t) c i
