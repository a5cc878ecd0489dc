-- Goals of sites, joined from the last, are those of the list of sites.
use Rattle.std.proofs.Common.{◌≡◌, List, [], ◌∷◌, ◌++◌, Option, Some, None, ℤ, refl, sym, ◌∙◌, ap}
use Rattle.ac_tree.specs.declared.node.NodeId.{NodeId}
use Rattle.ac_tree.specs.declared.path.Target.{Target}
use Rattle.ac_tree.specs.declared.program.Expr.{Expr}
use Rattle.ac_tree.specs.declared.program.ExprKind.{ExprKind}
use Rattle.ac_tree.specs.declared.program.ExprKind.TheVariants.{Num, Get, Read}
use Rattle.ac_tree.specs.declared.program.Index.{Index}
use Rattle.ac_tree.specs.declared.program.Program.{Program}
use Rattle.ac_tree.specs.Patterns.{Negative, Plus, Minus, Times, OneIndex, TwoIndexes}
use Rattle.ac_run.specs.Declarations.{NameBytes, constant_of}
use Rattle.ac_logic.specs.declared.formula.Formula.{Formula}
use Rattle.ac_policy.specs.declared.site.Site.{Site}
use Rattle.ac_policy.specs.declared.site.SiteKind.TheVariants as kind
use Rattle.ac_policy.specs.Sites.{site_at, scalar_write, read_sites, unless_constant, expr_sites, index_sites}
use Rattle.ac_policy.specs.Terms.{zero_term, first_index, second_index}
use Rattle.ac_conditions.specs.Goals.{conjoined, site_goal, sites_goal}
use Rattle.ac_conditions.specs.Preconditions.{element_write}
use Rattle.ac_preconditions.specs.Onto.{goals_onto, read_onto, expr_onto, index_onto}
use Rattle.ac_preconditions.specs.Opened.{hidden, expr_shape, expr_child}

module _ (need : Site → Option Formula) (t : Target) where
  goals_append : (xs ys : List Site) (later : Option Formula) → goals_onto need t (xs ++ ys) later ≡ goals_onto need t xs (goals_onto need t ys later)
  goals_append [] ys later = refl
  goals_append (s ∷ rest) ys later = ap (λ f. conjoined (site_goal need t s) f) (goals_append rest ys later)

  goals_alone : (xs : List Site) → goals_onto need t xs None ≡ sites_goal need t xs
  goals_alone [] = refl
  goals_alone (s ∷ rest) = ap (λ f. conjoined (site_goal need t s) f) (goals_alone rest)

  read_goal : (o : Option ℤ) (s : Site) (rest : List Site) (later : Option Formula) → read_onto need t o s (goals_onto need t rest later) ≡ goals_onto need t (unless_constant o s ++ rest) later
  read_goal None s rest later = refl
  read_goal (Some n) s rest later = refl

  module _ (p : Program) where
    both : (xs ys : List Site) (f : Option Formula → Option Formula) (g later : Option Formula) → ((h : Option Formula) → f h ≡ goals_onto need t xs h) → g ≡ goals_onto need t ys later →
        f g ≡ goals_onto need t (xs ++ ys) later
    both xs ys f g later h k = h g ∙ ap (λ w. goals_onto need t xs w) k ∙ sym (goals_append xs ys later)

    mutual
      unfolding hidden expr_shape expr_child

      expr_goals : (n : NodeId) (e : ExprKind) (later : Option Formula) → expr_onto need t p n e later ≡ goals_onto need t (expr_sites p n e) later
      expr_goals n (Num k) later = refl
      expr_goals n (Get x) later =
          read_goal (constant_of p x) (site_at n kind.Read x zero_term zero_term) [] later
          ∙ goals_append (read_sites p n x zero_term zero_term) [] later
      expr_goals n (Read x at) later =
          ap (λ w. read_onto need t (constant_of p x) (site_at n kind.Read x (first_index p at) (second_index p at)) w) (index_goals at later)
          ∙ read_goal (constant_of p x) (site_at n kind.Read x (first_index p at) (second_index p at)) (index_sites p at) later
      expr_goals n (Negative k a) later = expr_goals k.id a later
      expr_goals n (Plus k a m b) later = both (expr_sites p k.id a) (expr_sites p m.id b) (λ h. expr_onto need t p k.id a h) _ later (λ h. expr_goals k.id a h) (expr_goals m.id b later)
      expr_goals n (Minus k a m b) later = both (expr_sites p k.id a) (expr_sites p m.id b) (λ h. expr_onto need t p k.id a h) _ later (λ h. expr_goals k.id a h) (expr_goals m.id b later)
      expr_goals n (Times k a m b) later = both (expr_sites p k.id a) (expr_sites p m.id b) (λ h. expr_onto need t p k.id a h) _ later (λ h. expr_goals k.id a h) (expr_goals m.id b later)

      index_goals : (at : Index) (later : Option Formula) → index_onto need t p at later ≡ goals_onto need t (index_sites p at) later
      index_goals (OneIndex k a) later = expr_goals k.id a later
      index_goals (TwoIndexes k a m b) later = both (expr_sites p k.id a) (expr_sites p m.id b) (λ h. expr_onto need t p k.id a h) _ later (λ h. expr_goals k.id a h) (expr_goals m.id b later)

    -- of two expressions
    pub two_goals : (a b : Expr) → expr_onto need t p a.node.id a.kind (expr_onto need t p b.node.id b.kind None) ≡ sites_goal need t (expr_sites p a.node.id a.kind ++ expr_sites p b.node.id b.kind)
    two_goals a b =
        both (expr_sites p a.node.id a.kind) (expr_sites p b.node.id b.kind) (λ h. expr_onto need t p a.node.id a.kind h) (expr_onto need t p b.node.id b.kind None) None
        (λ h. expr_goals a.node.id a.kind h) (expr_goals b.node.id b.kind None)
        ∙ goals_alone (expr_sites p a.node.id a.kind ++ expr_sites p b.node.id b.kind)

    -- of an assignment
    pub set_goals : (n : NodeId) (x : NameBytes) (e : Expr) →
        conjoined (site_goal need t (scalar_write n x)) (expr_onto need t p e.node.id e.kind None) ≡ sites_goal need t (scalar_write n x ∷ expr_sites p e.node.id e.kind)
    set_goals n x e =
        ap (λ w. conjoined (site_goal need t (scalar_write n x)) w) (expr_goals e.node.id e.kind None ∙ goals_alone (expr_sites p e.node.id e.kind))

    pub put_goals : (n : NodeId) (x : NameBytes) (at : Index) (e : Expr) →
        conjoined (site_goal need t (element_write p n x at)) (index_onto need t p at (expr_onto need t p e.node.id e.kind None)) ≡ sites_goal need t (element_write p n x at ∷ (index_sites p at ++ expr_sites p e.node.id e.kind))
    put_goals n x at e =
        ap (λ w. conjoined (site_goal need t (element_write p n x at)) w)
        (both (index_sites p at) (expr_sites p e.node.id e.kind) (λ h. index_onto need t p at h) (expr_onto need t p e.node.id e.kind None) None (λ h. index_goals at h) (expr_goals e.node.id e.kind None)
        ∙ goals_alone (index_sites p at ++ expr_sites p e.node.id e.kind))
