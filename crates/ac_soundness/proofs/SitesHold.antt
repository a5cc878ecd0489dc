-- Where the goals of sites hold for every target, the needs of the sites hold.
use Rattle.std.proofs.Common.{List, [], ◌∷◌, ◌++◌, Bool, Option, Some, None, refl, subst, if◌then◌else◌}
use Rattle.std.proofs.lemmas.Bool.{eq-eqb}
use Rattle.ac_tree.specs.declared.node.NodeId.{NodeId}
use Rattle.ac_tree.specs.declared.path.Target.{Target}
use Rattle.ac_tree.specs.declared.path.Target.TheVariants as target
use Rattle.ac_tree.specs.declared.program.CondKind.{CondKind}
use Rattle.ac_tree.specs.declared.program.CondKind.TheVariants.{True, False, Rel}
use Rattle.ac_tree.specs.declared.program.Program.{Program}
use Rattle.ac_tree.specs.Patterns.{Negation, Conjunction, Disjunction}
use Rattle.ac_logic.specs.declared.formula.Formula.{Formula}
use Rattle.ac_logic.specs.declared.label.LabelKind.TheVariants as label
use Rattle.ac_logic.specs.Meaning.{Valuation}
use Rattle.ac_logic.specs.Patterns.{Negation as Not}
use Rattle.ac_policy.specs.declared.site.Site.{Site}
use Rattle.ac_policy.specs.Laws.{HoldsIf}
use Rattle.ac_policy.specs.Sites.{expr_sites}
use Rattle.ac_conditions.specs.Goals.{labelled_need, site_goal, sites_goal, cond_goal, under}
use Rattle.ac_conditions.specs.Tests.{formula_of}
use Rattle.ac_soundness.proofs.PathsHold.{both_hold, from_under}
use Rattle.ac_soundness.specs.Needs.{NeedsHold, CondNeedsHold}
use Rattle.ac_soundness.specs.Opened.{hidden, cond_shape, cond_child, formula_shape, formula_child}

need_of_goal : (w : Valuation) (n : NodeId) (o : Option Formula) → HoldsIf w (labelled_need n o) → HoldsIf w o
unfolding hidden formula_shape formula_child
need_of_goal w n None h = tt
need_of_goal w n (Some f) h = h

module _ (need : Site → Option Formula) (w : Valuation) where
  pub site_holds : (s : Site) → ((t : Target) → HoldsIf w (site_goal need t s)) → HoldsIf w (need s)
  site_holds s h =
      need_of_goal w s.node (need s) (subst (λ (b : Bool). HoldsIf w (if b then labelled_need s.node (need s) else None)) (eq-eqb s.node.0 s.node.0 refl) (h (target.Site s.node)))

  pub sites_hold : (sites : List Site) → ((t : Target) → HoldsIf w (sites_goal need t sites)) → NeedsHold need w sites
  sites_hold [] h = tt
  sites_hold (s ∷ rest) h = let k = both_hold w (λ t. site_goal need t s) (λ t. sites_goal need t rest) h in (site_holds s k.0, sites_hold rest k.1)

  pub cond_holds : (p : Program) (c : CondKind) → ((t : Target) → HoldsIf w (cond_goal need t p c)) → CondNeedsHold need w p c
  unfolding hidden cond_shape cond_child formula_shape formula_child
  cond_holds p True h = tt
  cond_holds p False h = tt
  cond_holds p (Rel op a b) h = sites_hold (expr_sites p a.node.id a.kind ++ expr_sites p b.node.id b.kind) h
  cond_holds p (Negation n c) h = cond_holds p c h
  cond_holds p (Conjunction n c m d) h =
      let f = formula_of p c in
      let k = both_hold w (λ t. cond_goal need t p c) (λ t. under label.Guard n.id f (cond_goal need t p d)) h in
      (cond_holds p c k.0, λ j. cond_holds p d (λ t. from_under w label.Guard n.id f (cond_goal need t p d) (k.1 t) j))
  cond_holds p (Disjunction n c m d) h =
      let f = Not (formula_of p c) in
      let k = both_hold w (λ t. cond_goal need t p c) (λ t. under label.Guard n.id f (cond_goal need t p d)) h in
      (cond_holds p c k.0, λ j. cond_holds p d (λ t. from_under w label.Guard n.id f (cond_goal need t p d) (k.1 t) j))

  pub needs-append : (front back : List Site) → NeedsHold need w (front ++ back) → NeedsHold need w front × NeedsHold need w back
  needs-append [] back h = (tt, h)
  needs-append (s ∷ front) back h = let k = needs-append front back h.1 in ((h.0, k.0), k.1)
