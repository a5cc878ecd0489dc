-- Each subject site is the target of a condition: a path leads to it from the cut before it.
use Rattle.std.proofs.Common.{◌≡◌, ◌⊎◌, List, [], ◌∷◌, ◌++◌, true, false, Option, Some, None, is_some, refl, sym, ap, inl, inr, Contains}
use Rattle.std.specs.List.{AllByRecursion}
use Rattle.std.proofs.lemmas.Bool.{eq-eqb}
use Rattle.ac_tree.specs.declared.node.NodeId.{NodeId}
use Rattle.ac_tree.specs.declared.path.Cut.{Cut}
use Rattle.ac_tree.specs.declared.path.Cut.TheVariants.{Start, Head, Exit, After}
use Rattle.ac_tree.specs.declared.path.Pair.{Pair}
use Rattle.ac_tree.specs.declared.path.Target.{Target}
use Rattle.ac_tree.specs.declared.path.Target.TheVariants as target
use Rattle.ac_tree.specs.declared.policy.PolicyName.{PolicyName}
use Rattle.ac_tree.specs.declared.program.CondKind.{CondKind}
use Rattle.ac_tree.specs.declared.program.CondKind.TheVariants.{True, False, Rel}
use Rattle.ac_tree.specs.declared.program.Program.{Program}
use Rattle.ac_tree.specs.declared.program.Stmt.{Stmt}
use Rattle.ac_tree.specs.declared.program.StmtKind.{StmtKind, Row_of-Stmt, end_of-Stmt, more_of-Stmt, Set, Put, If', For', While', Hand, Skip}
use Rattle.ac_tree.specs.Patterns.{Negation, Conjunction, Disjunction}
use Rattle.ac_flow.specs.Leads.{is_site}
use Rattle.ac_flow.specs.Listed.{IsListed}
use Rattle.ac_logic.specs.declared.condition.Condition.{Condition}
use Rattle.ac_logic.specs.declared.formula.Formula.{Formula}
use Rattle.ac_logic.specs.declared.label.LabelKind.TheVariants as label
use Rattle.ac_logic.specs.Patterns.{Negation as Not}
use Rattle.ac_policy.specs.declared.site.Site.{Site}
use Rattle.ac_policy.specs.Sites.{expr_sites, index_sites, cond_sites, scalar_write, stmt_sites, block_sites, list_sites, sites_of}
use Rattle.ac_policy.specs.Terms.{term_of}
use Rattle.ac_policy.proofs.SiteFacts.{in_all}
use Rattle.ac_conditions.proofs.PairsOfConditions.{all_aim, to_each_target, not_apart}
use Rattle.ac_conditions.proofs.Parts.{IsThere, to_first, to_second, to_premise, to_change, to_site, pairs_in}
use Rattle.ac_conditions.specs.AllConditions.{part_conditions}
use Rattle.ac_conditions.specs.Conditions.{condition, barrier_condition, conditions, block_conditions, list_conditions, conditions_at}
use Rattle.ac_conditions.specs.Goals.{conjoined, under, site_goal, sites_goal, cond_goal}
use Rattle.ac_conditions.specs.Hypotheses.{in_body}
use Rattle.ac_conditions.specs.Opened.{hidden, cond_shape, cond_child, formula_shape, formula_child}
use Rattle.ac_conditions.specs.Part.{Part}
use Rattle.ac_conditions.specs.Preconditions.{past_barrier, element_write, role_use, scalar_changes, element_changes, for_entry, for_keep, while_keep, set_goal, put_goal, ends_goal, before, before_block, before_list, for_head, while_head}
use Rattle.ac_conditions.specs.Ranges.{ranges}
use Rattle.ac_conditions.specs.Targets.{list_targets}
use Rattle.ac_conditions.specs.Tests.{formula_of}

all_append : (P : Site → Type 0) (xs ys : List Site) → AllByRecursion P xs → AllByRecursion P ys → AllByRecursion P (xs ++ ys)
all_append P [] ys h k = k
all_append P (x ∷ xs) ys h k = (h.0, all_append P xs ys h.1 k)

all_parts : (P : Site → Type 0) (xs ys : List Site) → AllByRecursion P (xs ++ ys) → AllByRecursion P xs × AllByRecursion P ys
all_parts P [] ys h = (tt, h)
all_parts P (x ∷ xs) ys h = let k = all_parts P xs ys h.1 in ((h.0, k.0), k.1)

all_map : (P Q : Site → Type 0) (xs : List Site) → ((s : Site) → P s → Q s) → AllByRecursion P xs → AllByRecursion Q xs
all_map P Q [] f h = tt
all_map P Q (x ∷ xs) f h = (f x h.0, all_map P Q xs f h.1)

abbrev NonEmpty : List Condition → Type 0
NonEmpty [] = ⊥
NonEmpty (c ∷ cs) = Unit {0}

more_left : (cs ds : List Condition) → NonEmpty cs → NonEmpty (cs ++ ds)
more_left [] ds h = absurd h
more_left (c ∷ cs) ds h = tt

more_right : (cs ds : List Condition) → NonEmpty ds → NonEmpty (cs ++ ds)
more_right [] ds h = h
more_right (c ∷ cs) ds h = tt

module _ (p : Program) (q : PolicyName) (part : Part) (t : Target) where
  -- a path leads to the target, or one does from a cut inside
  abbrev Aimed : Option Formula → List Condition → Type 0
  Aimed path cs = IsThere path ⊎ NonEmpty cs

  one_there : (c : Cut) (hs : List Formula) (path : Option Formula) → IsThere path → NonEmpty (condition p q part t c hs path)
  one_there c hs None h = absurd h
  one_there c hs (Some f) h = tt

  barrier_there : (n : NodeId) (k : StmtKind) (hs : List Formula) (path : Option Formula) (bs : List Condition) → NonEmpty bs → NonEmpty (conditions p q part t hs n k path bs)
  barrier_there n (Set x e) hs path bs h = h
  barrier_there n (Put x at e) hs path bs h = h
  barrier_there n (If' test _ y _ z) hs path bs h = more_left bs _ h
  barrier_there n (For' x lo hi _ body) hs path bs h = more_right (condition p q part t (Head n) _ (for_head p part t n x hi body)) _ (more_right (condition p q part t (Exit n) _ path) _ (more_left bs _ h))
  barrier_there n (While' test _ body) hs path bs h = more_right (condition p q part t (Head n) _ (while_head p part t n test body)) _ (more_right (condition p q part t (Exit n) _ path) _ (more_left bs _ h))
  barrier_there n (Hand x role) hs path bs h = h
  barrier_there n Skip hs path bs h = h

  -- from behind a statement with its barrier
  stepping : (n : NodeId) (k : StmtKind) (hs facts : List Formula) (path : Option Formula) →
      (IsThere (past_barrier t n facts path) → Aimed (before p part t n k (past_barrier t n facts path)) (conditions p q part t hs n k (past_barrier t n facts path) (barrier_condition p q part t n hs facts path))) →
      IsThere path → Aimed (before p part t n k (past_barrier t n facts path)) (conditions p q part t hs n k (past_barrier t n facts path) (barrier_condition p q part t n hs facts path))
  stepping n k hs [] path f h = f h
  stepping n k hs (g ∷ gs) path f h = inr (barrier_there n k hs _ _ (one_there (After n) _ path h))

  front_there : (path : Option Formula) (front rest : List Condition) → Aimed path front → Aimed path (front ++ rest)
  front_there path front rest (inl h) = inl h
  front_there path front rest (inr h) = inr (more_left front rest h)

  rest_there : (path : Option Formula) (front rest : List Condition) (behind : Option Formula) → (IsThere behind → Aimed path front) → Aimed behind rest → Aimed path (front ++ rest)
  rest_there path front rest behind f (inl h) = front_there path front rest (f h)
  rest_there path front rest behind f (inr h) = inr (more_right front rest h)

  yes_there : (goal : Option Formula) (n : NodeId) (f g : Formula) (Y Z : Option Formula) (ys zs bs : List Condition) → Aimed Y ys → Aimed (conjoined goal (conjoined (under label.Test n f Y) (under label.Denied n g Z))) (bs ++ (ys ++ zs))
  yes_there goal n f g Y Z ys zs bs (inl h) = inl (to_second goal (conjoined (under label.Test n f Y) (under label.Denied n g Z)) (to_first (under label.Test n f Y) (under label.Denied n g Z) (to_premise label.Test n f Y h)))
  yes_there goal n f g Y Z ys zs bs (inr h) = inr (more_right bs (ys ++ zs) (more_left ys zs h))

  no_there : (goal : Option Formula) (n : NodeId) (f g : Formula) (Y Z : Option Formula) (ys zs bs : List Condition) → Aimed Z zs → Aimed (conjoined goal (conjoined (under label.Test n f Y) (under label.Denied n g Z))) (bs ++ (ys ++ zs))
  no_there goal n f g Y Z ys zs bs (inl h) = inl (to_second goal (conjoined (under label.Test n f Y) (under label.Denied n g Z)) (to_second (under label.Test n f Y) (under label.Denied n g Z) (to_premise label.Denied n g Z h)))
  no_there goal n f g Y Z ys zs bs (inr h) = inr (more_right bs (ys ++ zs) (more_right ys zs h))

  -- a path that leads on behind a statement leads there from before it, or from a cut inside
  mutual
    stmt_through : (n : NodeId) (k : StmtKind) (hs : List Formula) (path : Option Formula) (bs : List Condition) → IsThere path → Aimed (before p part t n k path) (conditions p q part t hs n k path bs)
    stmt_through n (Set x e) hs path bs h = inl (to_second (set_goal p part t n x e) _ (to_change n (scalar_changes p part n x (term_of p e.kind)) path h))
    stmt_through n (Put x at e) hs path bs h = inl (to_second (put_goal p part t n x at e) _ (to_change n (element_changes p part n x at (term_of p e.kind)) path h))
    stmt_through n (Hand x role) hs path bs h = inl (to_second (site_goal part.need t (role_use p n x role)) path h)
    stmt_through n Skip hs path bs h = inl h
    stmt_through n (If' test _ y _ z) hs path bs h =
        yes_there (cond_goal part.need t p test.kind) n (formula_of p test.kind) (Not (formula_of p test.kind)) (before_block p part t y path) (before_block p part t z path) (block_conditions p q part t hs y path) (block_conditions p q part t hs z path) bs (block_through y hs path h)
    stmt_through n (For' x lo hi _ body) hs path bs h = inr (more_right (condition p q part t (Head n) _ (for_head p part t n x hi body)) _ (more_left (condition p q part t (Exit n) _ path) _ (one_there (Exit n) _ path h)))
    stmt_through n (While' test _ body) hs path bs h = inr (more_right (condition p q part t (Head n) _ (while_head p part t n test body)) _ (more_left (condition p q part t (Exit n) _ path) _ (one_there (Exit n) _ path h)))

    block_through : {a : _} (row : Row_of-Stmt a) (hs : List Formula) (path : Option Formula) → IsThere path → Aimed (before_block p part t row path) (block_conditions p q part t hs row path)
    block_through end_of-Stmt hs path h = inl h
    block_through (more_of-Stmt n st rest) hs path h =
        rest_there _ _ _ (before_block p part t rest path) (stepping n.id st hs (part.behind n.id) (before_block p part t rest path) (λ g. stmt_through n.id st hs _ _ g)) (block_through rest hs path h)

  -- a site at the target, at which the policy needs something
  abbrev Wanted : Site → Type 0
  Wanted s = (is_site t s.node ≡ true) × (is_some (part.need s) ≡ true)

  goals_there : (xs : List Site) → AllByRecursion (λ s. Wanted s → IsThere (sites_goal part.need t xs)) xs
  goals_there [] = tt
  goals_there (x ∷ xs) = (
    (λ w. to_first (site_goal part.need t x) (sites_goal part.need t xs) (to_site part.need (λ n. false) Start t x w.0 w.1)),
    all_map (λ s. Wanted s → IsThere (sites_goal part.need t xs)) (λ s. Wanted s → IsThere (sites_goal part.need t (x ∷ xs))) xs (λ s f w. to_second (site_goal part.need t x) (sites_goal part.need t xs) (f w)) (goals_there xs),
  )

  cond_there : (d : CondKind) → AllByRecursion (λ s. Wanted s → IsThere (cond_goal part.need t p d)) (cond_sites p d)
  unfolding hidden cond_shape cond_child formula_shape formula_child
  cond_there True = tt
  cond_there False = tt
  cond_there (Rel op a b) = goals_there (expr_sites p a.node.id a.kind ++ expr_sites p b.node.id b.kind)
  cond_there (Negation n d) = cond_there d
  cond_there (Conjunction n d l e) =
      let g = under label.Guard n.id (formula_of p d) (cond_goal part.need t p e) in
      all_append (λ s. Wanted s → IsThere (conjoined (cond_goal part.need t p d) g)) (cond_sites p d) (cond_sites p e)
      (all_map (λ s. Wanted s → IsThere (cond_goal part.need t p d)) _ (cond_sites p d) (λ s f w. to_first (cond_goal part.need t p d) g (f w)) (cond_there d))
      (all_map (λ s. Wanted s → IsThere (cond_goal part.need t p e)) _ (cond_sites p e) (λ s f w. to_second (cond_goal part.need t p d) g (to_premise label.Guard n.id (formula_of p d) (cond_goal part.need t p e) (f w))) (cond_there e))
  cond_there (Disjunction n d l e) =
      let g = under label.Guard n.id (Not (formula_of p d)) (cond_goal part.need t p e) in
      all_append (λ s. Wanted s → IsThere (conjoined (cond_goal part.need t p d) g)) (cond_sites p d) (cond_sites p e)
      (all_map (λ s. Wanted s → IsThere (cond_goal part.need t p d)) _ (cond_sites p d) (λ s f w. to_first (cond_goal part.need t p d) g (f w)) (cond_there d))
      (all_map (λ s. Wanted s → IsThere (cond_goal part.need t p e)) _ (cond_sites p e) (λ s f w. to_second (cond_goal part.need t p d) g (to_premise label.Guard n.id (Not (formula_of p d)) (cond_goal part.need t p e) (f w))) (cond_there e))

  -- the body of a loop
  loop_there : {a : _} (n : NodeId) (body : Row_of-Stmt a) (head kept : Option Formula) (first inside : List Formula) (exit bs : List Condition) → (IsThere (before_block p part t body kept) → IsThere head) →
      Aimed (before_block p part t body kept) (block_conditions p q part t inside body kept) → NonEmpty (condition p q part t (Head n) first head ++ (exit ++ (bs ++ block_conditions p q part t inside body kept)))
  loop_there n body head kept first inside exit bs into (inl h) = more_left (condition p q part t (Head n) first head) _ (one_there (Head n) first head (into h))
  loop_there n body head kept first inside exit bs into (inr h) = more_right (condition p q part t (Head n) first head) _ (more_right exit _ (more_right bs (block_conditions p q part t inside body kept) h))

  mutual
    stmt_there : (n : NodeId) (k : StmtKind) (hs : List Formula) (path : Option Formula) (bs : List Condition) → AllByRecursion (λ s. Wanted s → Aimed (before p part t n k path) (conditions p q part t hs n k path bs)) (stmt_sites p n k)
    stmt_there n (Set x e) hs path bs =
        let xs = scalar_write n x ∷ expr_sites p e.node.id e.kind in
        all_map (λ s. Wanted s → IsThere (sites_goal part.need t xs)) _ xs (λ s f w. inl (to_first (set_goal p part t n x e) _ (f w))) (goals_there xs)
    stmt_there n (Put x at e) hs path bs =
        let xs = element_write p n x at ∷ (index_sites p at ++ expr_sites p e.node.id e.kind) in
        all_map (λ s. Wanted s → IsThere (sites_goal part.need t xs)) _ xs (λ s f w. inl (to_first (put_goal p part t n x at e) _ (f w))) (goals_there xs)
    stmt_there n (Hand x role) hs path bs = ((λ w. inl (to_first (site_goal part.need t (role_use p n x role)) path (to_site part.need (λ k. false) Start t (role_use p n x role) w.0 w.1))), tt)
    stmt_there n Skip hs path bs = tt
    stmt_there n (If' test i y j z) hs path bs =
        let F = formula_of p test.kind in
        let Y = before_block p part t y path in
        let Z = before_block p part t z path in
        let ys = block_conditions p q part t hs y path in
        let zs = block_conditions p q part t hs z path in
        let goal = cond_goal part.need t p test.kind in
        all_append _ (cond_sites p test.kind) (block_sites p y ++ block_sites p z)
        (all_map (λ s. Wanted s → IsThere goal) _ (cond_sites p test.kind) (λ s f w. inl (to_first goal _ (f w))) (cond_there test.kind))
        (all_append _ (block_sites p y) (block_sites p z)
        (all_map (λ s. Wanted s → Aimed Y ys) _ (block_sites p y) (λ s f w. yes_there goal n F (Not F) Y Z ys zs bs (f w)) (block_there y hs path))
        (all_map (λ s. Wanted s → Aimed Z zs) _ (block_sites p z) (λ s f w. no_there goal n F (Not F) Y Z ys zs bs (f w)) (block_there z hs path)))
    stmt_there n (For' x lo hi i body) hs path bs =
        let los = expr_sites p lo.node.id lo.kind in
        let his = expr_sites p hi.node.id hi.kind in
        let kept = for_keep p part t n x in
        let hs2 = hs ++ in_body p part n x lo hi ∷ [] in
        let ends = all_parts (λ s. Wanted s → IsThere (sites_goal part.need t (los ++ his))) los his (goals_there (los ++ his)) in
        all_append _ los (his ++ block_sites p body)
        (all_map (λ s. Wanted s → IsThere (sites_goal part.need t (los ++ his))) _ los (λ s f w. inl (to_first (ends_goal p part t lo hi) (for_entry p part t n x lo) (f w))) ends.0)
        (all_append _ his (block_sites p body)
        (all_map (λ s. Wanted s → IsThere (sites_goal part.need t (los ++ his))) _ his (λ s f w. inl (to_first (ends_goal p part t lo hi) (for_entry p part t n x lo) (f w))) ends.1)
        (all_map (λ s. Wanted s → Aimed (before_block p part t body kept) (block_conditions p q part t hs2 body kept)) _ (block_sites p body)
        (λ s f w. inr (loop_there n body (for_head p part t n x hi body) kept _ hs2 _ bs (λ g. to_premise label.Test n _ (before_block p part t body kept) g) (f w))) (block_there body hs2 kept)))
    stmt_there n (While' test i body) hs path bs =
        let kept = while_keep p part t n in
        let goal = cond_goal part.need t p test.kind in
        let turn = under label.Test n (formula_of p test.kind) (before_block p part t body kept) in
        all_append _ (cond_sites p test.kind) (block_sites p body)
        (all_map (λ s. Wanted s → IsThere goal) _ (cond_sites p test.kind) (λ s f w. inr (more_left (condition p q part t (Head n) _ (while_head p part t n test body)) _ (one_there (Head n) _ (while_head p part t n test body) (to_first goal turn (f w))))) (cond_there test.kind))
        (all_map (λ s. Wanted s → Aimed (before_block p part t body kept) (block_conditions p q part t hs body kept)) _ (block_sites p body)
        (λ s f w. inr (loop_there n body (while_head p part t n test body) kept _ hs _ bs (λ g. to_second goal turn (to_premise label.Test n (formula_of p test.kind) (before_block p part t body kept) g)) (f w))) (block_there body hs kept))

    block_there : {a : _} (row : Row_of-Stmt a) (hs : List Formula) (path : Option Formula) → AllByRecursion (λ s. Wanted s → Aimed (before_block p part t row path) (block_conditions p q part t hs row path)) (block_sites p row)
    block_there end_of-Stmt hs path = tt
    block_there (more_of-Stmt n st rest) hs path =
        let R = before_block p part t rest path in
        let pb = past_barrier t n.id (part.behind n.id) R in
        let bs = barrier_condition p q part t n.id hs (part.behind n.id) R in
        let front = conditions p q part t hs n.id st pb bs in
        let more = block_conditions p q part t hs rest path in
        all_append _ (stmt_sites p n.id st) (block_sites p rest)
        (all_map (λ s. Wanted s → Aimed (before p part t n.id st pb) front) _ (stmt_sites p n.id st) (λ s f w. front_there (before p part t n.id st pb) front more (f w)) (stmt_there n.id st hs pb bs))
        (all_map (λ s. Wanted s → Aimed R more) _ (block_sites p rest) (λ s f w. rest_there (before p part t n.id st pb) front more R (stepping n.id st hs (part.behind n.id) R (λ g. stmt_through n.id st hs pb bs g)) (f w)) (block_there rest hs path))

  list_there : (sts : List Stmt) (hs : List Formula) (path : Option Formula) → AllByRecursion (λ s. Wanted s → Aimed (before_list p part t sts path) (list_conditions p q part t hs sts path)) (list_sites p sts)
  list_there [] hs path = tt
  list_there (st ∷ sts) hs path =
      let n = st.node.id in
      let R = before_list p part t sts path in
      let pb = past_barrier t n (part.behind n) R in
      let bs = barrier_condition p q part t n hs (part.behind n) R in
      let front = conditions p q part t hs n st.kind pb bs in
      let more = list_conditions p q part t hs sts path in
      all_append _ (stmt_sites p n st.kind) (list_sites p sts)
      (all_map (λ s. Wanted s → Aimed (before p part t n st.kind pb) front) _ (stmt_sites p n st.kind) (λ s f w. front_there (before p part t n st.kind pb) front more (f w)) (stmt_there n st.kind hs pb bs))
      (all_map (λ s. Wanted s → Aimed R more) _ (list_sites p sts) (λ s f w. rest_there (before p part t n st.kind pb) front more R (stepping n st.kind hs (part.behind n) R (λ g. stmt_through n st.kind hs pb bs g)) (f w)) (list_there sts hs path))

  site_there : (s : Site) → Contains (sites_of p) s → Wanted s → NonEmpty (conditions_at p q part t)
  site_there s h w = elim (in_all (λ z. Wanted z → Aimed (before_list p part t p.body None) (list_conditions p q part t (ranges p p.items) p.body None)) (sites_of p) s (list_there p.body (ranges p p.items) None) h w) [
    | inl g ↦ more_left (condition p q part t Start (ranges p p.items) (before_list p part t p.body None)) (list_conditions p q part t (ranges p p.items) p.body None) (one_there Start (ranges p p.items) (before_list p part t p.body None) g)
    | inr g ↦ more_right (condition p q part t Start (ranges p p.items) (before_list p part t p.body None)) (list_conditions p q part t (ranges p p.items) p.body None) g
  ]

-- the first of some conditions that all aim at a target
first_of : (t : Target) (cs : List Condition) → NonEmpty cs → AllByRecursion (λ (x : Condition). x.pair.target ≡ t) cs → (c : Cut) × IsListed (pairs_in cs) (record { cut = c; target = t })
first_of t [] h k = absurd h
first_of t (x ∷ cs) h k = (x.pair.cut, inl (ap (λ (v : Target). let y : Pair = record { cut = x.pair.cut; target = v } in y) (sym k.0)))

pub site_aimed_at : (p : Program) (q : PolicyName) (part : Part) (s : Site) → Contains (sites_of p) s → is_some (part.need s) ≡ true → (c : Cut) × IsListed (pairs_in (part_conditions p q part)) (record { cut = c; target = target.Site s.node })
site_aimed_at p q part s h needed =
    let t : Target = target.Site s.node in
    let found = first_of t (conditions_at p q part t) (site_there p q part t s h (eq-eqb s.node.0 s.node.0 refl, needed)) (all_aim p q part t) in
    (found.0, to_each_target p q part (list_targets p p.body) found.0 t (not_apart p q part found.0 t found.1) found.1)
