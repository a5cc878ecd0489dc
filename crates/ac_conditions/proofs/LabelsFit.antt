-- Each label of a condition fits its kind.
use Rattle.std.proofs.Common.{◌≡◌, List, [], ◌∷◌, ◌++◌, Bool, true, false, Option, Some, None, refl, sym, ◌∙◌, ap, subst, inl, inr, if◌then◌else◌}
use Rattle.ac_tree.specs.declared.node.NodeId.{NodeId}
use Rattle.ac_tree.specs.declared.path.Target.{Target}
use Rattle.ac_tree.specs.declared.program.CondKind.{CondKind}
use Rattle.ac_tree.specs.declared.program.CondKind.TheVariants as cond
use Rattle.ac_tree.specs.declared.program.Program.{Program}
use Rattle.ac_tree.specs.declared.program.RelOp.{RelOp}
use Rattle.ac_tree.specs.declared.program.RelOp.TheVariants as rel
use Rattle.ac_tree.specs.Patterns.{Negation, Conjunction, Disjunction}
use Rattle.ac_flow.specs.Leads.{is_site, is_barrier}
use Rattle.ac_flow.specs.Listed.{IsListed}
use Rattle.ac_flow.proofs.Within.{Sub, in-left, in-right}
use Rattle.ac_logic.specs.declared.formula.Change.{Change}
use Rattle.ac_logic.specs.declared.formula.Formula.{Formula, True, False, Le, Eq}
use Rattle.ac_logic.specs.declared.formula.Term.{Term}
use Rattle.ac_logic.specs.declared.label.Label.{Label}
use Rattle.ac_logic.specs.declared.label.LabelKind.{LabelKind}
use Rattle.ac_logic.specs.declared.label.LabelKind.TheVariants as label
use Rattle.ac_logic.specs.Labels.{labels_of}
use Rattle.ac_logic.specs.Patterns.{Implication, Every, Labelled}
use Rattle.ac_logic.specs.Patterns.{Negation as Not}
use Rattle.ac_logic.specs.Patterns.{Conjunction as And}
use Rattle.ac_logic.specs.Patterns.{Disjunction as Or}
use Rattle.ac_logic.specs.Substitution.{formula_after}
use Rattle.ac_policy.specs.declared.site.Site.{Site}
use Rattle.ac_policy.specs.Sites.{expr_sites, cond_sites, sites_of}
use Rattle.ac_policy.specs.Terms.{term_of}
use Rattle.ac_conditions.proofs.Parts.{split}
use Rattle.ac_conditions.specs.Goals.{conjoined, goal_if, under, labelled_need, site_goal, sites_goal, cond_goal}
use Rattle.ac_conditions.specs.KindsFit.{cond_lefts, list_lefts, KindFits}
use Rattle.ac_conditions.specs.Opened.{hidden, cond_shape, cond_child, formula_shape, formula_child, term_shape, term_child}
use Rattle.ac_conditions.specs.Preconditions.{joined_onto, joined, before_changes, past_barrier}
use Rattle.ac_conditions.specs.Tests.{labelled, relation, formula_of}

-- formulas without a label
abbrev pub IsUnlabelled : Formula → Type 0
IsUnlabelled f = labels_of f ≡ []

abbrev pub AreUnlabelled : List Formula → Type 0
AreUnlabelled [] = Unit {0}
AreUnlabelled (f ∷ fs) = IsUnlabelled f × AreUnlabelled fs

abbrev pub IsUnlabelledIf : Option Formula → Type 0
IsUnlabelledIf None = Unit {0}
IsUnlabelledIf (Some f) = IsUnlabelled f

pub none_joined : {X : Type 0} (xs ys : List X) → xs ≡ [] → ys ≡ [] → xs ++ ys ≡ []
none_joined {X = X} xs ys h k = ap (λ (l : List X). l ++ ys) h ∙ k

relation_bare : (op : RelOp) (s t : Term) → IsUnlabelled (relation op s t)
unfolding hidden formula_shape formula_child term_shape term_child
relation_bare rel.Eq s t = refl
relation_bare rel.Ne s t = refl
relation_bare rel.Lt s t = refl
relation_bare rel.Le s t = refl
relation_bare rel.Gt s t = refl
relation_bare rel.Ge s t = refl

pub test_bare : (p : Program) (c : CondKind) → IsUnlabelled (formula_of p c)
unfolding hidden cond_shape cond_child formula_shape formula_child
test_bare p cond.True = refl
test_bare p cond.False = refl
test_bare p (cond.Rel op a b) = relation_bare op (term_of p a.kind) (term_of p b.kind)
test_bare p (Negation n c) = test_bare p c
test_bare p (Conjunction n c m d) = none_joined (labels_of (formula_of p c)) (labels_of (formula_of p d)) (test_bare p c) (test_bare p d)
test_bare p (Disjunction n c m d) = none_joined (labels_of (formula_of p c)) (labels_of (formula_of p d)) (test_bare p c) (test_bare p d)

pub not_bare : (f : Formula) → IsUnlabelled f → IsUnlabelled (Not f)
unfolding hidden formula_shape formula_child
not_bare f h = h

onto_bare : (f : Formula) (fs : List Formula) → IsUnlabelled f → AreUnlabelled fs → IsUnlabelled (joined_onto f fs)
unfolding hidden formula_shape formula_child
onto_bare f [] h k = h
onto_bare f (g ∷ gs) h k = onto_bare (And f g) gs (none_joined (labels_of f) (labels_of g) h k.0) k.1

pub joined_bare : (fs : List Formula) → AreUnlabelled fs → IsUnlabelled (joined fs)
unfolding hidden formula_shape formula_child
joined_bare [] k = refl
joined_bare (f ∷ fs) k = onto_bare f fs k.0 k.1

-- changes leave labels
pub labels_stay : (cs : List Change) (f : Formula) → labels_of (formula_after cs f) ≡ labels_of f
unfolding hidden formula_shape formula_child
labels_stay cs True = refl
labels_stay cs False = refl
labels_stay cs (Le s t) = refl
labels_stay cs (Eq s t) = refl
labels_stay cs (Not f) = labels_stay cs f
labels_stay cs (And f g) = λ d. labels_stay cs f d ++ labels_stay cs g d
labels_stay cs (Or f g) = λ d. labels_stay cs f d ++ labels_stay cs g d
labels_stay cs (Implication f g) = λ d. labels_stay cs f d ++ labels_stay cs g d
labels_stay cs (Every f) = labels_stay cs f
labels_stay cs (Labelled l f) = λ d. l ∷ labels_stay cs f d

-- Each label of a formula fits, by its parts; what it is for a label to fit is left open.
module _ (fits : Label → Type 0) where
  abbrev pub Fit : Formula → Type 0
  Fit f = (l : Label) → IsListed (labels_of f) l → fits l

  abbrev pub FitIf : Option Formula → Type 0
  FitIf None = Unit {0}
  FitIf (Some f) = Fit f

  pub bare_fits : (f : Formula) → IsUnlabelled f → Fit f
  bare_fits f h l i = absurd (subst (λ (ls : List Label). IsListed ls l) h i)

  pub labelled_fits : (kind : LabelKind) (n : NodeId) (f : Formula) → fits (record { kind = kind; node = n }) → Fit f → Fit (labelled kind n f)
  unfolding hidden formula_shape formula_child
  labelled_fits kind n f h k l (inl e) = subst (λ (m : Label). fits m) (sym e) h
  labelled_fits kind n f h k l (inr i) = k l i

  pub implied_fits : (f g : Formula) → Fit f → Fit g → Fit (Implication f g)
  unfolding hidden formula_shape formula_child
  implied_fits f g h k l i = elim (split (labels_of f) (labels_of g) l i) [ inl j ↦ h l j | inr j ↦ k l j ]

  pub both_fit : (f g : Formula) → Fit f → Fit g → Fit (And f g)
  unfolding hidden formula_shape formula_child
  both_fit f g h k l i = elim (split (labels_of f) (labels_of g) l i) [ inl j ↦ h l j | inr j ↦ k l j ]

  pub conjoined_fits : (f g : Option Formula) → FitIf f → FitIf g → FitIf (conjoined f g)
  unfolding hidden formula_shape formula_child
  conjoined_fits None g h k = k
  conjoined_fits (Some f) None h k = h
  conjoined_fits (Some f) (Some g) h k = both_fit f g h k

  pub under_fits : (kind : LabelKind) (n : NodeId) (f : Formula) (g : Option Formula) → fits (record { kind = kind; node = n }) → IsUnlabelled f → FitIf g → FitIf (under kind n f g)
  unfolding hidden formula_shape formula_child
  under_fits kind n f None h b k = tt
  under_fits kind n f (Some g) h b k = implied_fits (labelled kind n f) g (labelled_fits kind n f h (bare_fits f b)) k

  pub goal_fits : (b : Bool) (f : Formula) → Fit f → FitIf (goal_if b f)
  goal_fits true f h = h
  goal_fits false f h = tt

  pub changed_fits : (n : NodeId) (changes : List Change) (g : Option Formula) → fits (record { kind = label.Set; node = n }) → FitIf g → FitIf (before_changes n changes g)
  changed_fits n changes None h k = tt
  changed_fits n changes (Some g) h k = labelled_fits label.Set n (formula_after changes g) h (subst (λ (ls : List Label). (l : Label) → IsListed ls l → fits l) (sym (labels_stay changes g)) k)

  pub barrier_fits : (t : Target) (n : NodeId) (fs : List Formula) (g : Option Formula) → fits (record { kind = label.Barrier; node = n }) → AreUnlabelled fs → FitIf g → FitIf (past_barrier t n fs g)
  barrier_fits t n [] g h b k = k
  barrier_fits t n (f ∷ fs) g h b k = goal_fits (is_barrier t n) _ (labelled_fits label.Barrier n (joined (f ∷ fs)) h (bare_fits (joined (f ∷ fs)) (joined_bare (f ∷ fs) b)))

-- The labels of goals fit their kinds, at sites of the program.
module _ (p : Program) (need : Site → Option Formula) (t : Target) (bare : (s : Site) → IsListed (sites_of p) s → IsUnlabelledIf (need s)) where
  pub site_fits : (s : Site) → IsListed (sites_of p) s → FitIf (KindFits p) (site_goal need t s)
  site_fits s h = by (is_site t s.node) (need s) (bare s h)
    where
      by : (b : Bool) (o : Option Formula) → IsUnlabelledIf o → FitIf (KindFits p) (if b then labelled_need s.node o else None)
      by true None k = tt
      by true (Some f) k = labelled_fits (KindFits p) label.Need s.node f (s, h, refl) (bare_fits (KindFits p) f k)
      by false o k = tt

  pub sites_fit : (ss : List Site) → Sub ss (sites_of p) → FitIf (KindFits p) (sites_goal need t ss)
  sites_fit [] f = tt
  sites_fit (s ∷ ss) f = conjoined_fits (KindFits p) (site_goal need t s) (sites_goal need t ss) (site_fits s (f s (inl refl))) (sites_fit ss (λ x h. f x (inr h)))

  pub cond_fits : (c : CondKind) → Sub (cond_sites p c) (sites_of p) → Sub (cond_lefts c) (list_lefts p.body) → FitIf (KindFits p) (cond_goal need t p c)
  unfolding hidden cond_shape cond_child formula_shape formula_child
  cond_fits cond.True f g = tt
  cond_fits cond.False f g = tt
  cond_fits (cond.Rel op a b) f g = sites_fit (expr_sites p a.node.id a.kind ++ expr_sites p b.node.id b.kind) f
  cond_fits (Negation n c) f g = cond_fits c f g
  cond_fits (Conjunction n c m d) f g =
      conjoined_fits (KindFits p) (cond_goal need t p c) (under label.Guard n.id (formula_of p c) (cond_goal need t p d))
      (cond_fits c (λ x h. f x (in-left (cond_sites p c) (cond_sites p d) x h)) (λ x h. g x (inr (in-left (cond_lefts c) (cond_lefts d) x h))))
      (under_fits (KindFits p) label.Guard n.id (formula_of p c) (cond_goal need t p d) (g n.id (inl refl)) (test_bare p c)
      (cond_fits d (λ x h. f x (in-right (cond_sites p c) (cond_sites p d) x h)) (λ x h. g x (inr (in-right (cond_lefts c) (cond_lefts d) x h)))))
  cond_fits (Disjunction n c m d) f g =
      conjoined_fits (KindFits p) (cond_goal need t p c) (under label.Guard n.id (Not (formula_of p c)) (cond_goal need t p d))
      (cond_fits c (λ x h. f x (in-left (cond_sites p c) (cond_sites p d) x h)) (λ x h. g x (inr (in-left (cond_lefts c) (cond_lefts d) x h))))
      (under_fits (KindFits p) label.Guard n.id (Not (formula_of p c)) (cond_goal need t p d) (g n.id (inl refl)) (not_bare (formula_of p c) (test_bare p c))
      (cond_fits d (λ x h. f x (in-right (cond_sites p c) (cond_sites p d) x h)) (λ x h. g x (inr (in-right (cond_lefts c) (cond_lefts d) x h)))))
