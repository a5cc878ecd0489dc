-- No condition aims at anything but the listed targets.
use Rattle.std.proofs.Common.{◌≡◌, ◌⊎◌, ℕ, nat_eq, List, [], ◌∷◌, ◌++◌, Bool, true, false, Option, None, refl, sym, subst, inl, inr, rules, if◌then◌else◌}
use Rattle.std.specs.List.{AllByRecursion}
use Rattle.std.proofs.lemmas.Bool.{false≢true}
use Rattle.ac_tree.specs.declared.node.NodeId.{NodeId}
use Rattle.ac_tree.specs.declared.path.Cut.{Cut}
use Rattle.ac_tree.specs.declared.path.Cut.TheVariants.{Start, Head, Exit, After}
use Rattle.ac_tree.specs.declared.path.Target.{Target}
use Rattle.ac_tree.specs.declared.path.Target.TheVariants as target
use Rattle.ac_tree.specs.declared.policy.PolicyName.{PolicyName}
use Rattle.ac_tree.specs.declared.program.CondKind.{CondKind}
use Rattle.ac_tree.specs.declared.program.CondKind.TheVariants.{True, False, Rel}
use Rattle.ac_tree.specs.declared.program.Program.{Program}
use Rattle.ac_tree.specs.declared.program.Stmt.{Stmt}
use Rattle.ac_tree.specs.declared.program.StmtKind.{StmtKind, Row_of-Stmt, end_of-Stmt, more_of-Stmt, Set, Put, If', For', While', Hand, Skip}
use Rattle.ac_tree.specs.Patterns.{Negation, Conjunction, Disjunction}
use Rattle.ac_flow.specs.Leads.{is_site, is_entry, is_keep, is_barrier}
use Rattle.ac_logic.specs.declared.condition.Condition.{Condition}
use Rattle.ac_logic.specs.declared.formula.Formula.{Formula}
use Rattle.ac_logic.specs.declared.label.LabelKind.{LabelKind}
use Rattle.ac_logic.specs.declared.label.LabelKind.TheVariants as label
use Rattle.ac_logic.specs.Patterns.{Negation as Not}
use Rattle.ac_policy.specs.declared.site.Site.{Site}
use Rattle.ac_policy.specs.Sites.{expr_sites, index_sites, cond_sites, scalar_write}
use Rattle.ac_policy.specs.Terms.{term_of}
use Rattle.ac_conditions.specs.AllConditions.{at_each}
use Rattle.ac_conditions.specs.Conditions.{condition, barrier_condition, conditions, block_conditions, list_conditions, conditions_at}
use Rattle.ac_conditions.specs.Goals.{conjoined, goal_if, under, labelled_need, site_goal, sites_goal, cond_goal}
use Rattle.ac_conditions.specs.Opened.{hidden, cond_shape, cond_child, formula_shape, formula_child}
use Rattle.ac_conditions.specs.Part.{Part}
use Rattle.ac_conditions.specs.Preconditions.{past_barrier, before_changes, element_write, role_use, scalar_changes, element_changes, for_entry, for_keep, while_keep, set_goal, put_goal, ends_goal, before, before_block, before_list, for_head, while_head}
use Rattle.ac_conditions.specs.Ranges.{ranges}
use Rattle.ac_conditions.specs.Targets.{site_targets, stmt_targets, block_targets, list_targets}
use Rattle.ac_conditions.specs.Tests.{formula_of}

abbrev pub is_same : Target → Target → Bool
is_same t (target.Entry n) = is_entry t n
is_same t (target.Keep n) = is_keep t n
is_same t (target.Barrier n) = is_barrier t n
is_same t (target.Site n) = is_site t n

-- the target is none of these
abbrev pub Apart : Target → List Target → Type 0
Apart t [] = Unit {0}
Apart t (u ∷ us) = (is_same t u ≡ false) × Apart t us

pub apart-append : (t : Target) (us vs : List Target) → Apart t (us ++ vs) → Apart t us × Apart t vs
apart-append t [] vs h = (tt, h)
apart-append t (u ∷ us) vs h = let k = apart-append t us vs h.1 in ((h.0, k.0), k.1)

apart-sites : (t : Target) (xs ys : List Site) → Apart t (site_targets (xs ++ ys)) → Apart t (site_targets xs) × Apart t (site_targets ys)
apart-sites t [] ys h = (tt, h)
apart-sites t (x ∷ xs) ys h = let k = apart-sites t xs ys h.1 in ((h.0, k.0), k.1)

no_goal : (b : Bool) (f : Formula) → b ≡ false → goal_if b f ≡ None
no_goal true f h = absurd (false≢true (sym h))
no_goal false f h = refl

none_conjoined : (f g : Option Formula) → f ≡ None → g ≡ None → conjoined f g ≡ None
unfolding hidden formula_shape formula_child
none_conjoined f g h k = λ i. conjoined (h i) (k i)

none_under : (kind : LabelKind) (n : NodeId) (f : Formula) (g : Option Formula) → g ≡ None → under kind n f g ≡ None
unfolding hidden formula_shape formula_child
none_under kind n f g h = λ i. under kind n f (h i)

module _ (p : Program) (q : PolicyName) (part : Part) (t : Target) where
  site_none : (s : Site) → is_site t s.node ≡ false → site_goal part.need t s ≡ None
  site_none s h = λ i. if h i then labelled_need s.node (part.need s) else None

  sites_none : (sites : List Site) → Apart t (site_targets sites) → sites_goal part.need t sites ≡ None
  sites_none [] h = refl
  sites_none (s ∷ rest) h = none_conjoined (site_goal part.need t s) (sites_goal part.need t rest) (site_none s h.0) (sites_none rest h.1)

  cond_none : (c : CondKind) → Apart t (site_targets (cond_sites p c)) → cond_goal part.need t p c ≡ None
  unfolding hidden cond_shape cond_child formula_shape formula_child
  cond_none True h = refl
  cond_none False h = refl
  cond_none (Rel op a b) h = sites_none (expr_sites p a.node.id a.kind ++ expr_sites p b.node.id b.kind) h
  cond_none (Negation n c) h = cond_none c h
  cond_none (Conjunction n c m d) h =
      let g = apart-sites t (cond_sites p c) (cond_sites p d) h in
      none_conjoined (cond_goal part.need t p c) _ (cond_none c g.0) (none_under label.Guard n.id (formula_of p c) (cond_goal part.need t p d) (cond_none d g.1))
  cond_none (Disjunction n c m d) h =
      let g = apart-sites t (cond_sites p c) (cond_sites p d) h in
      none_conjoined (cond_goal part.need t p c) _ (cond_none c g.0) (none_under label.Guard n.id (Not (formula_of p c)) (cond_goal part.need t p d) (cond_none d g.1))

  pub none_past : (n : NodeId) (fs : List Formula) (behind : Option Formula) → is_barrier t n ≡ false → behind ≡ None → past_barrier t n fs behind ≡ None
  none_past n [] behind h e = e
  none_past n (f ∷ fs) behind h e = no_goal (is_barrier t n) _ h

  -- the barrier of a statement is among its targets
  pub apart_barrier : (n : NodeId) (k : StmtKind) → Apart t (stmt_targets p n k) → is_barrier t n ≡ false
  apart_barrier n (Set x e) h = h.0
  apart_barrier n (Put x at e) h = h.0
  apart_barrier n (If' test _ y _ z) h = h.0
  apart_barrier n (While' test _ body) h = h.1.1.0
  apart_barrier n (For' x lo hi _ body) h = h.1.1.0
  apart_barrier n (Hand x role) h = h.0
  apart_barrier n Skip h = h.0

  mutual
    pub before_none : (n : NodeId) (k : StmtKind) (behind : Option Formula) → Apart t (stmt_targets p n k) → behind ≡ None → before p part t n k behind ≡ None
    before_none n (Set x e) behind h f =
        none_conjoined (set_goal p part t n x e) _ (sites_none (scalar_write n x ∷ expr_sites p e.node.id e.kind) h.1) (λ i. before_changes n (scalar_changes p part n x (term_of p e.kind)) (f i))
    before_none n (Put x at e) behind h f =
        none_conjoined (put_goal p part t n x at e) _ (sites_none (element_write p n x at ∷ (index_sites p at ++ expr_sites p e.node.id e.kind)) h.1) (λ i. before_changes n (element_changes p part n x at (term_of p e.kind)) (f i))
    before_none n (If' test _ y _ z) behind h f =
        let g = apart-append t (site_targets (cond_sites p test.kind)) (block_targets p y ++ block_targets p z) h.1 in
        let k = apart-append t (block_targets p y) (block_targets p z) g.1 in
        let a = none_block y behind k.0 f in
        let b = none_block z behind k.1 f in
        none_conjoined (cond_goal part.need t p test.kind) _ (cond_none test.kind g.0) (none_conjoined _ _ (none_under label.Test n (formula_of p test.kind) _ a) (none_under label.Denied n (Not (formula_of p test.kind)) _ b))
    before_none n (While' test _ body) behind h f = no_goal (is_entry t n) _ h.0
    before_none n (For' x lo hi _ body) behind h f =
        let g = apart-append t (site_targets (expr_sites p lo.node.id lo.kind ++ expr_sites p hi.node.id hi.kind)) (block_targets p body) h.1.1.1 in
        none_conjoined (ends_goal p part t lo hi) (for_entry p part t n x lo) (sites_none (expr_sites p lo.node.id lo.kind ++ expr_sites p hi.node.id hi.kind) g.0) (no_goal (is_entry t n) _ h.0)
    before_none n (Hand x role) behind h f = none_conjoined (site_goal part.need t (role_use p n x role)) behind (site_none (role_use p n x role) h.1.0) f
    before_none n Skip behind h f = f

    none_block : {k : _} (row : Row_of-Stmt k) (behind : Option Formula) → Apart t (block_targets p row) → behind ≡ None → before_block p part t row behind ≡ None
    none_block end_of-Stmt behind h f = f
    none_block (more_of-Stmt n st rest) behind h f =
        let g = apart-append t (stmt_targets p n.id st) (block_targets p rest) h in
        before_none n.id st _ g.0 (none_past n.id (part.behind n.id) _ (apart_barrier n.id st g.0) (none_block rest behind g.1 f))

  none_list : (sts : List Stmt) (behind : Option Formula) → Apart t (list_targets p sts) → behind ≡ None → before_list p part t sts behind ≡ None
  none_list [] behind h f = f
  none_list (st ∷ sts) behind h f =
      let g = apart-append t (stmt_targets p st.node.id st.kind) (list_targets p sts) h in
      before_none st.node.id st.kind _ g.0 (none_past st.node.id (part.behind st.node.id) _ (apart_barrier st.node.id st.kind g.0) (none_list sts behind g.1 f))

  no_condition : (c : Cut) (hs : List Formula) (path : Option Formula) → path ≡ None → condition p q part t c hs path ≡ []
  no_condition c hs path f = λ i. condition p q part t c hs (f i)

  pub no_barrier_condition : (n : NodeId) (hs fs : List Formula) (behind : Option Formula) → behind ≡ None → barrier_condition p q part t n hs fs behind ≡ []
  no_barrier_condition n hs [] behind f = refl
  no_barrier_condition n hs (g ∷ gs) behind f = no_condition (After n) _ behind f

  nothing_joined : (cs ds : List Condition) → cs ≡ [] → ds ≡ [] → cs ++ ds ≡ []
  nothing_joined cs ds h k = λ i. h i ++ k i

  mutual
    pub none_aims_in : (hs : List Formula) (n : NodeId) (k : StmtKind) (behind : Option Formula) (barrier : List Condition) → Apart t (stmt_targets p n k) → behind ≡ None → barrier ≡ [] → conditions p q part t hs n k behind barrier ≡ []
    none_aims_in hs n (Set x e) behind barrier h f r = r
    none_aims_in hs n (Put x at e) behind barrier h f r = r
    none_aims_in hs n (If' test _ y _ z) behind barrier h f r =
        let g = apart-append t (site_targets (cond_sites p test.kind)) (block_targets p y ++ block_targets p z) h.1 in
        let k = apart-append t (block_targets p y) (block_targets p z) g.1 in
        nothing_joined barrier _ r (nothing_joined (block_conditions p q part t hs y behind) (block_conditions p q part t hs z behind) (none_aims_block hs y behind k.0 f) (none_aims_block hs z behind k.1 f))
    none_aims_in hs n (While' test _ body) behind barrier h f r =
        let g = apart-append t (site_targets (cond_sites p test.kind)) (block_targets p body) h.1.1.1 in
        let kept : while_keep p part t n ≡ None = no_goal (is_keep t n) _ h.1.0 in
        let head : while_head p part t n test body ≡ None = none_conjoined (cond_goal part.need t p test.kind) _ (cond_none test.kind g.0) (none_under label.Test n (formula_of p test.kind) _ (none_block body _ g.1 kept)) in
        nothing_joined _ _ (no_condition (Head n) _ _ head) (nothing_joined _ _ (no_condition (Exit n) _ behind f) (nothing_joined barrier _ r (none_aims_block hs body _ g.1 kept)))
    none_aims_in hs n (For' x lo hi _ body) behind barrier h f r =
        let g = apart-append t (site_targets (expr_sites p lo.node.id lo.kind ++ expr_sites p hi.node.id hi.kind)) (block_targets p body) h.1.1.1 in
        let kept : for_keep p part t n x ≡ None = no_goal (is_keep t n) _ h.1.0 in
        let head : for_head p part t n x hi body ≡ None = none_under label.Test n _ _ (none_block body _ g.1 kept) in
        nothing_joined _ _ (no_condition (Head n) _ _ head) (nothing_joined _ _ (no_condition (Exit n) _ behind f) (nothing_joined barrier _ r (none_aims_block _ body _ g.1 kept)))
    none_aims_in hs n (Hand x role) behind barrier h f r = r
    none_aims_in hs n Skip behind barrier h f r = r

    none_aims_block : {k : _} (hs : List Formula) (row : Row_of-Stmt k) (behind : Option Formula) → Apart t (block_targets p row) → behind ≡ None → block_conditions p q part t hs row behind ≡ []
    none_aims_block hs end_of-Stmt behind h f = refl
    none_aims_block hs (more_of-Stmt n st rest) behind h f =
        let g = apart-append t (stmt_targets p n.id st) (block_targets p rest) h in
        let b = none_block rest behind g.1 f in
        nothing_joined _ _ (none_aims_in hs n.id st _ _ g.0 (none_past n.id (part.behind n.id) _ (apart_barrier n.id st g.0) b) (no_barrier_condition n.id hs (part.behind n.id) _ b)) (none_aims_block hs rest behind g.1 f)

  none_aims_list : (hs : List Formula) (sts : List Stmt) (behind : Option Formula) → Apart t (list_targets p sts) → behind ≡ None → list_conditions p q part t hs sts behind ≡ []
  none_aims_list hs [] behind h f = refl
  none_aims_list hs (st ∷ sts) behind h f =
      let g = apart-append t (stmt_targets p st.node.id st.kind) (list_targets p sts) h in
      let b = none_list sts behind g.1 f in
      nothing_joined _ _ (none_aims_in hs st.node.id st.kind _ _ g.0 (none_past st.node.id (part.behind st.node.id) _ (apart_barrier st.node.id st.kind g.0) b) (no_barrier_condition st.node.id hs (part.behind st.node.id) _ b)) (none_aims_list hs sts behind g.1 f)

  pub none_aims : Apart t (list_targets p p.body) → conditions_at p q part t ≡ []
  none_aims h = nothing_joined _ _ (no_condition Start (ranges p p.items) _ (none_list p.body None h refl)) (none_aims_list (ranges p p.items) p.body None h refl)

pub same_number : (n m : ℕ) → nat_eq n m ≡ true → n ≡ m
same_number n m h = search rules

pub same_target : (t u : Target) → is_same t u ≡ true → t ≡ u
same_target (target.Entry n) (target.Entry m) h = λ i. target.Entry (record { 0 = (same_number n.0 m.0 h) i })
same_target (target.Keep n) (target.Keep m) h = λ i. target.Keep (record { 0 = (same_number n.0 m.0 h) i })
same_target (target.Barrier n) (target.Barrier m) h = λ i. target.Barrier (record { 0 = (same_number n.0 m.0 h) i })
same_target (target.Site n) (target.Site m) h = λ i. target.Site (record { 0 = (same_number n.0 m.0 h) i })
same_target _ _ h = absurd (false≢true h)

all-append : (P : Condition → Type 0) (cs ds : List Condition) → AllByRecursion P (cs ++ ds) → AllByRecursion P cs × AllByRecursion P ds
all-append P [] ds h = (tt, h)
all-append P (c ∷ cs) ds h = let k = all-append P cs ds h.1 in ((h.0, k.0), k.1)

-- each target is in a list, or none of it
found_or_apart : (P : Condition → Type 0) (f : Target → List Condition) (us : List Target) → AllByRecursion P (at_each f us) → (t : Target) → AllByRecursion P (f t) ⊎ Apart t us
found_or_apart P f [] h t = inr tt
found_or_apart P f (u ∷ us) h t =
    let k = all-append P (f u) (at_each f us) h in
    by (is_same t u) refl k.0 (found_or_apart P f us k.1 t)
  where
    by : (b : Bool) → is_same t u ≡ b → AllByRecursion P (f u) → AllByRecursion P (f t) ⊎ Apart t us → AllByRecursion P (f t) ⊎ Apart t (u ∷ us)
    by true e a r = inl (subst (λ (v : Target). AllByRecursion P (f v)) (sym (same_target t u e)) a)
    by false e a (inl r) = inl r
    by false e a (inr r) = inr (e, r)

-- What is true of every condition of a program is true of those of every target.
pub covers : (p : Program) (q : PolicyName) (part : Part) (P : Condition → Type 0) → AllByRecursion P (at_each (conditions_at p q part) (list_targets p p.body)) → (t : Target) → AllByRecursion P (conditions_at p q part t)
covers p q part P h t = elim (found_or_apart P (conditions_at p q part) (list_targets p p.body) h t) [
  | inl a ↦ a
  | inr a ↦ subst (λ (cs : List Condition). AllByRecursion P cs) (sym (none_aims p q part t a)) tt
]
