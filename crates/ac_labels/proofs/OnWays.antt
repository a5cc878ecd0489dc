-- Where there is a path formula at a point, control comes from there to the target, and each label stands at a node that it
-- enters on the way, or at the target's.
use Rattle.std.proofs.Common.{◌≡◌, ℕ, ℤ, List, [], ◌∷◌, ◌++◌, map, Bool, true, false, Option, Some, None, refl, sym, ◌∙◌, ap, subst, inl, inr, ◌⊎◌, if◌then◌else◌}
use Rattle.ac_tree.specs.declared.node.Node.{Node}
use Rattle.ac_tree.specs.declared.node.NodeId.{NodeId}
use Rattle.ac_tree.specs.declared.path.Cut.TheVariants as cut
use Rattle.ac_tree.specs.declared.path.Target.{Target}
use Rattle.ac_tree.specs.declared.path.Target.TheVariants as target
use Rattle.ac_tree.specs.declared.program.CondKind.{CondKind}
use Rattle.ac_tree.specs.declared.program.CondKind.TheVariants.{True, False, Rel}
use Rattle.ac_tree.specs.declared.program.Expr.{Expr}
use Rattle.ac_tree.specs.declared.program.ExprKind.{ExprKind}
use Rattle.ac_tree.specs.declared.program.ExprKind.TheVariants.{Num, Get, Read}
use Rattle.ac_tree.specs.declared.program.Index.{Index}
use Rattle.ac_tree.specs.declared.program.Program.{Program}
use Rattle.ac_tree.specs.declared.program.StmtKind.{StmtKind, Row_of-Stmt, end_of-Stmt, more_of-Stmt, Set, Put, If', For', While', Hand, Skip}
use Rattle.ac_tree.specs.Patterns.{Negative, Plus, Minus, Times, OneIndex, TwoIndexes, Negation, Conjunction, Disjunction}
use Rattle.ac_run.specs.Declarations.{NameBytes, constant_of}
use Rattle.ac_flow.specs.Leads.{is_site, is_entry, is_keep, is_barrier}
use Rattle.ac_flow.specs.Listed.{IsListed}
use Rattle.ac_flow.specs.Points.{Do, Behind, Enter, Turn, Judge, Decide, See, Point, reads_of, index_reads, block, target_at}
use Rattle.ac_flow.proofs.Within.{in-left, in-right}
use Rattle.ac_walk.specs.Walks.{target_node}
use Rattle.ac_logic.specs.declared.formula.Change.{Change}
use Rattle.ac_logic.specs.declared.formula.Formula.{Formula}
use Rattle.ac_logic.specs.declared.label.Label.{Label}
use Rattle.ac_logic.specs.declared.label.LabelKind.{LabelKind}
use Rattle.ac_logic.specs.declared.label.LabelKind.TheVariants as label
use Rattle.ac_logic.specs.Patterns.{Negation as Not}
use Rattle.ac_logic.specs.Substitution.{formula_after}
use Rattle.ac_policy.specs.declared.site.Site.{Site}
use Rattle.ac_policy.specs.Sites.{unless_constant, read_sites, expr_sites, index_sites, cond_sites, scalar_write, stmt_sites, block_sites}
use Rattle.ac_policy.specs.Terms.{term_of, first_index, second_index}
use Rattle.ac_conditions.proofs.HypothesesFit.{IsBare}
use Rattle.ac_conditions.proofs.LabelsFit.{IsUnlabelled, AreUnlabelled, IsUnlabelledIf, test_bare, not_bare, joined_bare, labels_stay, FitIf, bare_fits, labelled_fits, conjoined_fits, under_fits, changed_fits}
use Rattle.ac_conditions.proofs.Parts.{split}
use Rattle.ac_conditions.proofs.TargetsCover.{same_target}
use Rattle.ac_conditions.specs.Goals.{conjoined, goal_if, under, labelled_need, site_goal, sites_goal, cond_goal}
use Rattle.ac_conditions.specs.Part.{Part, is_any}
use Rattle.ac_conditions.specs.Preconditions.{joined, past_barrier, element_write, role_use, scalar_changes, element_changes, before_changes, set_goal, put_goal, ends_goal, while_entry, while_keep, for_entry, for_keep, before, before_block}
use Rattle.ac_conditions.specs.Tests.{labelled, formula_of}
use Rattle.ac_labels.specs.Opened.{hidden, expr_shape, expr_child, cond_shape, cond_child, formula_shape, formula_child}
use Rattle.ac_labels.proofs.Ways.{Way, here, on, way_on, seen_way, judge_way, way_to, way_among, Arrives, Meets}

-- a site in an expression is one of its reads

both_read : (xs ys : List Site) (ns ms : List NodeId) → ((s : Site) → IsListed xs s → IsListed ns s.node) → ((s : Site) → IsListed ys s → IsListed ms s.node) → (s : Site) → IsListed (xs ++ ys) s → IsListed (ns ++ ms) s.node
both_read xs ys ns ms f g s h = elim (split xs ys s h) [ inl i ↦ in-left ns ms s.node (f s i) | inr i ↦ in-right ns ms s.node (g s i) ]

module _ (p : Program) where
  unless_read : (o : Option ℤ) (s r : Site) → IsListed (unless_constant o r) s → s.node ≡ r.node
  unless_read (Some value) s r h = absurd h
  unless_read None s r (inl e) = ap (λ (x : Site). x.node) e
  unless_read None s r (inr h) = absurd h

  mutual
    unfolding hidden expr_shape expr_child

    expr_read : (n : Node) (e : ExprKind) (s : Site) → IsListed (expr_sites p n.id e) s → IsListed (reads_of n e) s.node
    expr_read n (Num k) s h = absurd h
    expr_read n (Get x) s h = inl (unless_read (constant_of p x) s _ h)
    expr_read n (Read x i) s h =
        elim (split (read_sites p n.id x (first_index p i) (second_index p i)) (index_sites p i) s h) [
          | inl k ↦ in-right (index_reads i) (n.id ∷ []) s.node (inl (unless_read (constant_of p x) s _ k))
          | inr k ↦ in-left (index_reads i) (n.id ∷ []) s.node (index_read i s k)
        ]
    expr_read n (Negative k a) s h = expr_read k a s h
    expr_read n (Plus k a m b) s h = both_read (expr_sites p k.id a) (expr_sites p m.id b) (reads_of k a) (reads_of m b) (λ r i. expr_read k a r i) (λ r i. expr_read m b r i) s h
    expr_read n (Minus k a m b) s h = both_read (expr_sites p k.id a) (expr_sites p m.id b) (reads_of k a) (reads_of m b) (λ r i. expr_read k a r i) (λ r i. expr_read m b r i) s h
    expr_read n (Times k a m b) s h = both_read (expr_sites p k.id a) (expr_sites p m.id b) (reads_of k a) (reads_of m b) (λ r i. expr_read k a r i) (λ r i. expr_read m b r i) s h

    index_read : (i : Index) (s : Site) → IsListed (index_sites p i) s → IsListed (index_reads i) s.node
    index_read (OneIndex k a) s h = expr_read k a s h
    index_read (TwoIndexes k a m b) s h = both_read (expr_sites p k.id a) (expr_sites p m.id b) (reads_of k a) (reads_of m b) (λ r i. expr_read k a r i) (λ r i. expr_read m b r i) s h

  two_read : (a b : Expr) (s : Site) → IsListed (expr_sites p a.node.id a.kind ++ expr_sites p b.node.id b.kind) s → IsListed (reads_of a.node a.kind ++ reads_of b.node b.kind) s.node
  two_read a b = both_read (expr_sites p a.node.id a.kind) (expr_sites p b.node.id b.kind) (reads_of a.node a.kind) (reads_of b.node b.kind) (expr_read a.node a.kind) (expr_read b.node b.kind)

  put_read : (i : Index) (e : Expr) (s : Site) → IsListed (index_sites p i ++ expr_sites p e.node.id e.kind) s → IsListed (index_reads i ++ reads_of e.node e.kind) s.node
  put_read i e = both_read (index_sites p i) (expr_sites p e.node.id e.kind) (index_reads i) (reads_of e.node e.kind) (index_read i) (expr_read e.node e.kind)

ends_listed : (lows highs more : List Site) (s : Site) → IsListed (lows ++ highs) s → IsListed (lows ++ (highs ++ more)) s
ends_listed lows highs more s h = elim (split lows highs s h) [ inl i ↦ in-left lows (highs ++ more) s i | inr i ↦ in-right lows (highs ++ more) s (in-left highs more s i) ]

module _ (barrier : ℕ → Bool) (p : Program) (part : Part) (t : Target) where
  -- at a node that control enters on its way to the target, or at the target's
  abbrev pub IsSeen : Point → Label → Type 0
  IsSeen q l = Meets barrier p t q l.node ⊎ (l.node ≡ target_node t)

  abbrev pub ArrivesIf : Point → Option Formula → Type 0
  ArrivesIf q None = Unit {0}
  ArrivesIf q (Some f) = Arrives barrier p t q

  abbrev pub Stands : Point → Option Formula → Type 0
  Stands q o = ArrivesIf q o × FitIf (IsSeen q) o

  pub none_stands : (q : Point) → Stands q None
  none_stands q = (tt, tt)

  -- a point from which control comes to another
  arrives_back : {q r : Point} → Way barrier q r → Arrives barrier p t r → Arrives barrier p t q
  arrives_back w a = (a.0, way_on barrier w a.1, a.2)

  seen_back : {q r : Point} (l : Label) → Way barrier q r → IsSeen r l → IsSeen q l
  seen_back l w (inl m) = inl (m.0, way_on barrier w m.1, m.2, m.3)
  seen_back l w (inr e) = inr e

  pub stands_back : (q r : Point) (o : Option Formula) → Way barrier q r → Stands r o → Stands q o
  stands_back q r None w h = (tt, tt)
  stands_back q r (Some f) w h = (arrives_back w h.0, λ l i. seen_back l w (h.1 l i))

  -- the parts of path formulas
  pub both_stand : (q : Point) (f g : Option Formula) → Stands q f → Stands q g → Stands q (conjoined f g)
  unfolding hidden formula_shape formula_child
  both_stand q None g h k = k
  both_stand q (Some f) None h k = h
  both_stand q (Some f) (Some g) h k = (h.0, conjoined_fits (IsSeen q) (Some f) (Some g) h.1 k.1)

  pub premise_stands : (q : Point) (kind : LabelKind) (n : NodeId) (f : Formula) (g : Option Formula) → IsUnlabelled f → (Arrives barrier p t q → IsSeen q (record { kind = kind; node = n })) → Stands q g → Stands q (under kind n f g)
  unfolding hidden formula_shape formula_child
  premise_stands q kind n f None b s h = (tt, tt)
  premise_stands q kind n f (Some g) b s h = (h.0, under_fits (IsSeen q) kind n f (Some g) (s h.0) b h.1)

  change_stands : (q : Point) (n : NodeId) (changes : List Change) (g : Option Formula) → (Arrives barrier p t q → IsSeen q (record { kind = label.Set; node = n })) → Stands q g → Stands q (before_changes n changes g)
  change_stands q n changes None s h = (tt, tt)
  change_stands q n changes (Some g) s h = (h.0, changed_fits (IsSeen q) n changes (Some g) (s h.0) h.1)

  goal_stands : (q : Point) (kind : LabelKind) (n : NodeId) (f : Formula) (b : Bool) → IsUnlabelled f → (b ≡ true → Arrives barrier p t q × (n ≡ target_node t)) → Stands q (goal_if b (labelled kind n f))
  goal_stands q kind n f false k h = (tt, tt)
  goal_stands q kind n f true k h = ((h refl).0, labelled_fits (IsSeen q) kind n f (inr (h refl).1) (bare_fits (IsSeen q) f k))

  -- control is at the target
  arrived : (q : Point) (u : Target) → target_at barrier q ≡ Some u → t ≡ u → Arrives barrier p t q × (target_node u ≡ target_node t)
  arrived q u h e = ((q, here, h ∙ ap Some (sym e)), ap target_node (sym e))

  -- sites that have no labels in their needs
  abbrev pub Bare : List Site → Type 0
  Bare ss = (s : Site) → IsListed ss s → IsUnlabelledIf (part.need s)

  -- control comes to each of some sites
  abbrev Ahead : Point → List Site → Type 0
  Ahead q ss = (s : Site) → IsListed ss s → (to : Point) × Way barrier q (See s.node ∷ to)

  site_stands : (q : Point) (s : Site) → IsUnlabelledIf (part.need s) → ((to : Point) × Way barrier q (See s.node ∷ to)) → Stands q (site_goal part.need t s)
  site_stands q s bare w = by (is_site t s.node) refl (part.need s) bare
    where
      by : (b : Bool) → is_site t s.node ≡ b → (o : Option Formula) → IsUnlabelledIf o → Stands q (if b then labelled_need s.node o else None)
      by false e o k = (tt, tt)
      by true e None k = (tt, tt)
      by true e (Some f) k =
          let same : t ≡ target.Site s.node = same_target t (target.Site s.node) e in
          (arrives_back w.1 (arrived (See s.node ∷ w.0) (target.Site s.node) refl same).0, labelled_fits (IsSeen q) label.Need s.node f (inr (ap target_node (sym same))) (bare_fits (IsSeen q) f k))

  sites_stand : (q : Point) (ss : List Site) → Bare ss → Ahead q ss → Stands q (sites_goal part.need t ss)
  sites_stand q [] bare w = (tt, tt)
  sites_stand q (s ∷ ss) bare w = both_stand q (site_goal part.need t s) (sites_goal part.need t ss) (site_stands q s (bare s (inl refl)) (w s (inl refl))) (sites_stand q ss (λ x i. bare x (inr i)) (λ x i. w x (inr i)))

  -- conditions: each left side is entered
  pub cond_stands : (c : CondKind) (rest : Point) → Bare (cond_sites p c) → Stands (Decide c ∷ rest) (cond_goal part.need t p c)
  unfolding hidden cond_shape cond_child expr_shape expr_child formula_shape formula_child
  cond_stands True rest bare = (tt, tt)
  cond_stands False rest bare = (tt, tt)
  cond_stands (Rel op a b) rest bare =
      sites_stand (Decide (Rel op a b) ∷ rest) (expr_sites p a.node.id a.kind ++ expr_sites p b.node.id b.kind) bare
      (λ s i. let w = way_among barrier (reads_of a.node a.kind ++ reads_of b.node b.kind) rest s.node (two_read p a b s i) in (w.0, on refl (inl refl) w.1))
  cond_stands (Negation n c) rest bare = stands_back (Decide (Negation n c) ∷ rest) (Decide c ∷ rest) (cond_goal part.need t p c) (on refl (inl refl) here) (cond_stands c rest bare)
  cond_stands (Conjunction n c m d) rest bare =
      let q : Point = Decide (Conjunction n c m d) ∷ rest in
      let left : Point = Judge (record { node = n; kind = c }) ∷ Decide d ∷ rest in
      let to_left : Way barrier q left = on refl (inr (inl refl)) here in
      both_stand q (cond_goal part.need t p c) (under label.Guard n.id (formula_of p c) (cond_goal part.need t p d))
      (stands_back q (Decide c ∷ Decide d ∷ rest) (cond_goal part.need t p c) (way_on barrier to_left (on refl (inl refl) here)) (cond_stands c (Decide d ∷ rest) (λ s i. bare s (in-left (cond_sites p c) (cond_sites p d) s i))))
      (stands_back q left (under label.Guard n.id (formula_of p c) (cond_goal part.need t p d)) to_left
      (premise_stands left label.Guard n.id (formula_of p c) (cond_goal part.need t p d) (test_bare p c) (λ a. inl (left, here, refl, a))
      (stands_back left (Decide d ∷ rest) (cond_goal part.need t p d) (judge_way barrier (record { node = n; kind = c }) (Decide d ∷ rest)) (cond_stands d rest (λ s i. bare s (in-right (cond_sites p c) (cond_sites p d) s i))))))
  cond_stands (Disjunction n c m d) rest bare =
      let q : Point = Decide (Disjunction n c m d) ∷ rest in
      let left : Point = Judge (record { node = n; kind = c }) ∷ Decide d ∷ rest in
      let to_left : Way barrier q left = on refl (inr (inl refl)) here in
      both_stand q (cond_goal part.need t p c) (under label.Guard n.id (Not (formula_of p c)) (cond_goal part.need t p d))
      (stands_back q (Decide c ∷ Decide d ∷ rest) (cond_goal part.need t p c) (way_on barrier to_left (on refl (inl refl) here)) (cond_stands c (Decide d ∷ rest) (λ s i. bare s (in-left (cond_sites p c) (cond_sites p d) s i))))
      (stands_back q left (under label.Guard n.id (Not (formula_of p c)) (cond_goal part.need t p d)) to_left
      (premise_stands left label.Guard n.id (Not (formula_of p c)) (cond_goal part.need t p d) (not_bare (formula_of p c) (test_bare p c)) (λ a. inl (left, here, refl, a))
      (stands_back left (Decide d ∷ rest) (cond_goal part.need t p d) (judge_way barrier (record { node = n; kind = c }) (Decide d ∷ rest)) (cond_stands d rest (λ s i. bare s (in-right (cond_sites p c) (cond_sites p d) s i))))))

  module _ (bare : IsBare p part) (barriers : (n : NodeId) → barrier n.0 ≡ is_any (part.behind n)) where
    invariant_bare : (changes : List Change) (n : NodeId) → IsUnlabelled (formula_after changes (joined (part.invariant n)))
    invariant_bare changes n = labels_stay changes (joined (part.invariant n)) ∙ joined_bare (part.invariant n) (bare.kept n)

    -- the goals of loops
    entry_stands : (n : NodeId) (test : _) (body : _) (rest : Point) (f : Formula) → IsUnlabelled f → Stands (Enter n test body ∷ rest) (goal_if (is_entry t n) (labelled label.Entry n f))
    entry_stands n test body rest f b = goal_stands (Enter n test body ∷ rest) label.Entry n f (is_entry t n) b (λ e. arrived (Enter n test body ∷ rest) (target.Entry n) refl (same_target t (target.Entry n) e))

    pub keep_stands : (n : NodeId) (test : _) (body : _) (rest : Point) (f : Formula) → IsUnlabelled f → Stands (Turn n test body ∷ rest) (goal_if (is_keep t n) (labelled label.Keep n f))
    keep_stands n test body rest f b = goal_stands (Turn n test body ∷ rest) label.Keep n f (is_keep t n) b (λ e. arrived (Turn n test body ∷ rest) (target.Keep n) refl (same_target t (target.Keep n) e))

    pub for_keep_stands : (n : NodeId) (x : NameBytes) (test : _) (body : _) (rest : Point) → Stands (Turn n test body ∷ rest) (for_keep p part t n x)
    for_keep_stands n x test body rest = keep_stands n test body rest _ (invariant_bare _ n)

    pub while_keep_stands : (n : NodeId) (test : _) (body : _) (rest : Point) → Stands (Turn n test body ∷ rest) (while_keep p part t n)
    while_keep_stands n test body rest = keep_stands n test body rest _ (joined_bare (part.invariant n) (bare.kept n))

    -- behind a statement
    pub past_stands : (n : NodeId) (rest : Point) (behind : Option Formula) → Stands rest behind → Stands (Behind n ∷ rest) (past_barrier t n (part.behind n) behind)
    past_stands n rest behind h = by (part.behind n) (barriers n) (bare.behinds n)
      where
        by : (fs : List Formula) → barrier n.0 ≡ is_any fs → AreUnlabelled fs → Stands (Behind n ∷ rest) (past_barrier t n fs behind)
        by [] e b = stands_back (Behind n ∷ rest) rest behind (on (ap (λ c. if c then Some (cut.After n) else None) e) (inl refl) here) h
        by (f ∷ fs) e b =
            goal_stands (Behind n ∷ rest) label.Barrier n (joined (f ∷ fs)) (is_barrier t n) (joined_bare (f ∷ fs) b)
            (λ i. arrived (Behind n ∷ rest) (target.Barrier n) (ap (λ c. if c then Some (target.Barrier n) else None) e) (same_target t (target.Barrier n) i))

    mutual
      pub stmt_stands : (at : Node) (st : StmtKind) (rest : Point) (behind : Option Formula) → Bare (stmt_sites p at.id st) → Stands (Behind at.id ∷ rest) behind → Stands (Do (record { node = at; kind = st }) ∷ rest) (before p part t at.id st behind)
      stmt_stands at (Set x e) rest behind b h =
          let q : Point = Do (record { node = at; kind = Set x e }) ∷ rest in
          let ns : List NodeId = reads_of e.node e.kind in
          let to_own : Way barrier q (See at.id ∷ Behind at.id ∷ rest) = on refl (inl refl) (seen_way barrier ns (See at.id ∷ Behind at.id ∷ []) rest) in
          both_stand q (set_goal p part t at.id x e) (before_changes at.id (scalar_changes p part at.id x (term_of p e.kind)) behind)
          (sites_stand q (scalar_write at.id x ∷ expr_sites p e.node.id e.kind) b (λ s i. elim i [
            | inl k ↦ (Behind at.id ∷ rest, subst (λ (n : NodeId). Way barrier q (See n ∷ Behind at.id ∷ rest)) (sym (ap (λ (r : Site). r.node) k)) to_own)
            | inr k ↦ (let w = way_to barrier ns (See at.id ∷ Behind at.id ∷ []) rest s.node (expr_read p e.node e.kind s k) in (w.0, on refl (inl refl) w.1))
          ]))
          (change_stands q at.id (scalar_changes p part at.id x (term_of p e.kind)) behind (λ a. inl (q, here, refl, a)) (stands_back q (Behind at.id ∷ rest) behind (way_on barrier to_own (on refl (inl refl) here)) h))
      stmt_stands at (Put x i e) rest behind b h =
          let q : Point = Do (record { node = at; kind = Put x i e }) ∷ rest in
          let ns : List NodeId = index_reads i ++ reads_of e.node e.kind in
          let to_own : Way barrier q (See at.id ∷ Behind at.id ∷ rest) = on refl (inl refl) (seen_way barrier ns (See at.id ∷ Behind at.id ∷ []) rest) in
          both_stand q (put_goal p part t at.id x i e) (before_changes at.id (element_changes p part at.id x i (term_of p e.kind)) behind)
          (sites_stand q (element_write p at.id x i ∷ (index_sites p i ++ expr_sites p e.node.id e.kind)) b (λ s j. elim j [
            | inl k ↦ (Behind at.id ∷ rest, subst (λ (n : NodeId). Way barrier q (See n ∷ Behind at.id ∷ rest)) (sym (ap (λ (r : Site). r.node) k)) to_own)
            | inr k ↦ (let w = way_to barrier ns (See at.id ∷ Behind at.id ∷ []) rest s.node (put_read p i e s k) in (w.0, on refl (inl refl) w.1))
          ]))
          (change_stands q at.id (element_changes p part at.id x i (term_of p e.kind)) behind (λ a. inl (q, here, refl, a)) (stands_back q (Behind at.id ∷ rest) behind (way_on barrier to_own (on refl (inl refl) here)) h))
      stmt_stands at (If' c i y j z) rest behind b h =
          let q : Point = Do (record { node = at; kind = If' c i y j z }) ∷ rest in
          let yes_rest : Point = (map Do (block y) ++ Behind at.id ∷ []) ++ rest in
          let no_rest : Point = (map Do (block z) ++ Behind at.id ∷ []) ++ rest in
          let yes_way : Way barrier q (Judge c ∷ yes_rest) = on refl (inl refl) here in
          let no_way : Way barrier q (Judge c ∷ no_rest) = on refl (inr (inl refl)) here in
          let yes_part : Option Formula = before_block p part t y behind in
          let no_part : Option Formula = before_block p part t z behind in
          both_stand q (cond_goal part.need t p c.kind) (conjoined (under label.Test at.id (formula_of p c.kind) yes_part) (under label.Denied at.id (Not (formula_of p c.kind)) no_part))
          (stands_back q (Decide c.kind ∷ yes_rest) (cond_goal part.need t p c.kind) (way_on barrier yes_way (on refl (inl refl) here)) (cond_stands c.kind yes_rest (λ s k. b s (in-left (cond_sites p c.kind) (block_sites p y ++ block_sites p z) s k))))
          (both_stand q (under label.Test at.id (formula_of p c.kind) yes_part) (under label.Denied at.id (Not (formula_of p c.kind)) no_part)
          (premise_stands q label.Test at.id (formula_of p c.kind) yes_part (test_bare p c.kind) (λ a. inl (q, here, refl, a))
          (stands_back q yes_rest yes_part (way_on barrier yes_way (judge_way barrier c yes_rest))
          (block_stands y (Behind at.id ∷ []) rest behind (λ s k. b s (in-right (cond_sites p c.kind) (block_sites p y ++ block_sites p z) s (in-left (block_sites p y) (block_sites p z) s k))) h)))
          (premise_stands q label.Denied at.id (Not (formula_of p c.kind)) no_part (not_bare (formula_of p c.kind) (test_bare p c.kind)) (λ a. inl (q, here, refl, a))
          (stands_back q no_rest no_part (way_on barrier no_way (judge_way barrier c no_rest))
          (block_stands z (Behind at.id ∷ []) rest behind (λ s k. b s (in-right (cond_sites p c.kind) (block_sites p y ++ block_sites p z) s (in-right (block_sites p y) (block_sites p z) s k))) h))))
      stmt_stands at (For' x lo hi i body) rest behind b h =
          let q : Point = Do (record { node = at; kind = For' x lo hi i body }) ∷ rest in
          let ns : List NodeId = reads_of lo.node lo.kind ++ reads_of hi.node hi.kind in
          let entered : Point = Enter at.id None (block body) ∷ rest in
          both_stand q (ends_goal p part t lo hi) (for_entry p part t at.id x lo)
          (sites_stand q (expr_sites p lo.node.id lo.kind ++ expr_sites p hi.node.id hi.kind) (λ s k. b s (ends_listed (expr_sites p lo.node.id lo.kind) (expr_sites p hi.node.id hi.kind) (block_sites p body) s k))
          (λ s k. let w = way_to barrier ns (Enter at.id None (block body) ∷ []) rest s.node (two_read p lo hi s k) in (w.0, on refl (inl refl) w.1)))
          (stands_back q entered (for_entry p part t at.id x lo) (on refl (inl refl) (seen_way barrier ns (Enter at.id None (block body) ∷ []) rest)) (entry_stands at.id None (block body) rest _ (invariant_bare _ at.id)))
      stmt_stands at (While' c i body) rest behind b h =
          stands_back (Do (record { node = at; kind = While' c i body }) ∷ rest) (Enter at.id (Some c) (block body) ∷ rest) (while_entry p part t at.id) (on refl (inl refl) here)
          (entry_stands at.id (Some c) (block body) rest _ (joined_bare (part.invariant at.id) (bare.kept at.id)))
      stmt_stands at (Hand x role) rest behind b h =
          let q : Point = Do (record { node = at; kind = Hand x role }) ∷ rest in
          let to_own : Way barrier q (See at.id ∷ Behind at.id ∷ rest) = on refl (inl refl) here in
          both_stand q (site_goal part.need t (role_use p at.id x role)) behind
          (site_stands q (role_use p at.id x role) (b (role_use p at.id x role) (inl refl)) (Behind at.id ∷ rest, to_own)) (stands_back q (Behind at.id ∷ rest) behind (way_on barrier to_own (on refl (inl refl) here)) h)
      stmt_stands at Skip rest behind b h = stands_back (Do (record { node = at; kind = Skip }) ∷ rest) (Behind at.id ∷ rest) behind (on refl (inl refl) here) h

      pub block_stands : {k : _} (row : Row_of-Stmt k) (after rest : Point) (behind : Option Formula) → Bare (block_sites p row) → Stands (after ++ rest) behind → Stands ((map Do (block row) ++ after) ++ rest) (before_block p part t row behind)
      block_stands end_of-Stmt after rest behind b h = h
      block_stands (more_of-Stmt at st more) after rest behind b h =
          let q : Point = (map Do (block more) ++ after) ++ rest in
          stmt_stands at st q (past_barrier t at.id (part.behind at.id) (before_block p part t more behind)) (λ s i. b s (in-left (stmt_sites p at.id st) (block_sites p more) s i))
          (past_stands at.id q (before_block p part t more behind) (block_stands more after rest behind (λ s i. b s (in-right (stmt_sites p at.id st) (block_sites p more) s i)) h))
