-- What is to be shown at a target, at the sites of a statement or of a test.
use Rattle.std.specs.Prelude.{Bool, true, false, if◌then◌else◌, List, [], ◌∷◌, ◌++◌, Option, Some, None}
use Rattle.ac_tree.specs.declared.node.NodeId.{NodeId}
use Rattle.ac_tree.specs.declared.path.Target.{Target}
use Rattle.ac_tree.specs.declared.program.CondKind.{CondKind}
use Rattle.ac_tree.specs.declared.program.CondKind.TheVariants.{True, False, Rel}
use Rattle.ac_tree.specs.declared.program.Program.{Program}
use Rattle.ac_tree.specs.Patterns.{Negation, Conjunction, Disjunction}
use Rattle.ac_flow.specs.Leads.{is_site}
use Rattle.ac_logic.specs.declared.formula.Formula.{Formula}
use Rattle.ac_logic.specs.declared.label.LabelKind.{LabelKind}
use Rattle.ac_logic.specs.declared.label.LabelKind.TheVariants as label
use Rattle.ac_logic.specs.Patterns.{Implication}
use Rattle.ac_logic.specs.Patterns.{Negation as Not}
use Rattle.ac_logic.specs.Patterns.{Conjunction as And}
use Rattle.ac_policy.specs.declared.site.Site.{Site}
use Rattle.ac_policy.specs.Sites.{expr_sites}
use Rattle.ac_conditions.specs.Opened.{hidden, cond_shape, cond_child, formula_shape, formula_child}
use Rattle.ac_conditions.specs.Tests.{labelled, formula_of}

-- Paths part and come together: where there is a formula for both, both are to hold.
abbrev pub conjoined : Option Formula → Option Formula → Option Formula
unfolding hidden formula_shape formula_child
conjoined None g = g
conjoined (Some f) None = Some f
conjoined (Some f) (Some g) = Some (And f g)

abbrev pub goal_if : Bool → Formula → Option Formula
goal_if true f = Some f
goal_if false f = None

-- under a labelled premise
abbrev pub under : LabelKind → NodeId → Formula → Option Formula → Option Formula
unfolding hidden formula_shape formula_child
under kind n f None = None
under kind n f (Some g) = Some (Implication (labelled kind n f) g)

abbrev pub labelled_need : NodeId → Option Formula → Option Formula
labelled_need n None = None
labelled_need n (Some f) = Some (labelled label.Need n f)

module _ (need : Site → Option Formula) (t : Target) where
  abbrev pub site_goal : Site → Option Formula
  site_goal s = if is_site t s.node then labelled_need s.node (need s) else None

  abbrev pub sites_goal : List Site → Option Formula
  sites_goal [] = None
  sites_goal (s ∷ rest) = conjoined (site_goal s) (sites_goal rest)

  -- A site in the right side of `and` is met only where the left side holds, one in that of `or` only where it fails.
  abbrev pub cond_goal : Program → CondKind → Option Formula
  unfolding hidden cond_shape cond_child formula_shape formula_child
  cond_goal p True = None
  cond_goal p False = None
  cond_goal p (Rel op a b) = sites_goal (expr_sites p a.node.id a.kind ++ expr_sites p b.node.id b.kind)
  cond_goal p (Negation n c) = cond_goal p c
  cond_goal p (Conjunction n c m d) = conjoined (cond_goal p c) (under label.Guard n.id (formula_of p c) (cond_goal p d))
  cond_goal p (Disjunction n c m d) = conjoined (cond_goal p c) (under label.Guard n.id (Not (formula_of p c)) (cond_goal p d))
