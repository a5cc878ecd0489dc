-- No promise rests on this file: it says how the goals of sites are joined from the last to the first.
use Rattle.std.specs.Prelude.{List, [], ◌∷◌, ◌++◌, Option, Some, None, ℤ}
use Rattle.ac_tree.specs.declared.node.NodeId.{NodeId}
use Rattle.ac_tree.specs.declared.path.Target.{Target}
use Rattle.ac_tree.specs.declared.program.ExprKind.{ExprKind}
use Rattle.ac_tree.specs.declared.program.ExprKind.TheVariants.{Num, Get, Read}
use Rattle.ac_tree.specs.declared.program.Index.{Index}
use Rattle.ac_tree.specs.declared.program.Program.{Program}
use Rattle.ac_tree.specs.Patterns.{Negative, Plus, Minus, Times, OneIndex, TwoIndexes}
use Rattle.ac_run.specs.Declarations.{constant_of}
use Rattle.ac_logic.specs.declared.formula.Formula.{Formula}
use Rattle.ac_policy.specs.declared.site.Site.{Site}
use Rattle.ac_policy.specs.declared.site.SiteKind.TheVariants as kind
use Rattle.ac_policy.specs.Sites.{site_at}
use Rattle.ac_policy.specs.Terms.{zero_term, first_index, second_index}
use Rattle.ac_conditions.specs.Goals.{conjoined, site_goal}
use Rattle.ac_preconditions.specs.Opened.{hidden, expr_shape, expr_child}

module _ (need : Site → Option Formula) (t : Target) where
  -- the goals of some sites, before that of later ones
  abbrev pub goals_onto : List Site → Option Formula → Option Formula
  goals_onto [] later = later
  goals_onto (s ∷ rest) later = conjoined (site_goal need t s) (goals_onto rest later)

  -- the goal of a read, before that of later ones; a constant has none
  abbrev pub read_onto : Option ℤ → Site → Option Formula → Option Formula
  read_onto (Some value) s later = later
  read_onto None s later = conjoined (site_goal need t s) later

  module _ (p : Program) where
    abbrev mutual
      unfolding hidden expr_shape expr_child

      pub expr_onto : NodeId → ExprKind → Option Formula → Option Formula
      expr_onto n (Num k) later = later
      expr_onto n (Get x) later = read_onto (constant_of p x) (site_at n kind.Read x zero_term zero_term) later
      expr_onto n (Read x at) later = read_onto (constant_of p x) (site_at n kind.Read x (first_index p at) (second_index p at)) (index_onto at later)
      expr_onto n (Negative k a) later = expr_onto k.id a later
      expr_onto n (Plus k a m b) later = expr_onto k.id a (expr_onto m.id b later)
      expr_onto n (Minus k a m b) later = expr_onto k.id a (expr_onto m.id b later)
      expr_onto n (Times k a m b) later = expr_onto k.id a (expr_onto m.id b later)

      pub index_onto : Index → Option Formula → Option Formula
      index_onto (OneIndex k a) later = expr_onto k.id a later
      index_onto (TwoIndexes k a m b) later = expr_onto k.id a (expr_onto m.id b later)
