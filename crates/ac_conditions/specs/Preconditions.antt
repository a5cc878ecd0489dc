-- The path formula before a statement: its weakest precondition for one target, made backwards from what stands behind it up
-- to the next cut. There is none where no path leads to the target without passing a cut.
use Rattle.std.specs.Prelude.{List, [], ◌∷◌, ◌++◌, Option, Some, None}
use Rattle.ac_tree.specs.declared.node.NodeId.{NodeId}
use Rattle.ac_tree.specs.declared.path.Target.{Target}
use Rattle.ac_tree.specs.declared.program.Cond.{Cond}
use Rattle.ac_tree.specs.declared.program.Expr.{Expr}
use Rattle.ac_tree.specs.declared.program.Index.{Index}
use Rattle.ac_tree.specs.declared.program.Program.{Program}
use Rattle.ac_tree.specs.declared.program.Stmt.{Stmt}
use Rattle.ac_tree.specs.declared.program.StmtKind.{StmtKind, Row_of-Stmt, end_of-Stmt, more_of-Stmt, Set, Put, If', For', While', Hand, Skip}
use Rattle.ac_run.specs.Declarations.{NameBytes}
use Rattle.ac_flow.specs.Leads.{is_entry, is_keep, is_barrier}
use Rattle.ac_logic.specs.declared.formula.Change.{Change}
use Rattle.ac_logic.specs.declared.formula.Change.TheVariants as change
use Rattle.ac_logic.specs.declared.formula.Formula.{Formula, True, Le}
use Rattle.ac_logic.specs.declared.formula.Sym.TheVariants.{Value}
use Rattle.ac_logic.specs.declared.formula.Term.{Term}
use Rattle.ac_logic.specs.declared.label.LabelKind.TheVariants as label
use Rattle.ac_logic.specs.Patterns.{Scalar, Array, PutOf}
use Rattle.ac_logic.specs.Patterns.{Negation as Not}
use Rattle.ac_logic.specs.Patterns.{Conjunction as And}
use Rattle.ac_logic.specs.Substitution.{formula_after}
use Rattle.ac_policy.specs.declared.site.Site.{Site}
use Rattle.ac_policy.specs.declared.site.SiteKind.TheVariants as kind
use Rattle.ac_policy.specs.Sites.{site_at, scalar_write, expr_sites, index_sites}
use Rattle.ac_policy.specs.Terms.{zero_term, term_of, first_index, second_index}
use Rattle.ac_conditions.specs.Opened.{hidden, term_shape, term_child, array_shape, array_child, formula_shape, formula_child}
use Rattle.ac_conditions.specs.Goals.{conjoined, goal_if, under, site_goal, sites_goal, cond_goal}
use Rattle.ac_conditions.specs.Part.{Part}
use Rattle.ac_conditions.specs.Tests.{labelled, one_more, formula_of}

-- facts joined by `and` to the left, or `true`
abbrev pub joined_onto : Formula → List Formula → Formula
unfolding hidden formula_shape formula_child
joined_onto f [] = f
joined_onto f (g ∷ gs) = joined_onto (And f g) gs

abbrev pub joined : List Formula → Formula
joined [] = True
joined (f ∷ fs) = joined_onto f fs

-- the value of a scalar
abbrev pub variable : NameBytes → Term
variable x = Scalar (Value x)

-- before an assignment
abbrev pub before_changes : NodeId → List Change → Option Formula → Option Formula
before_changes n changes None = None
before_changes n changes (Some f) = Some (labelled label.Set n (formula_after changes f))

-- behind a statement: where a barrier stands there, a path ends at it
abbrev pub past_barrier : Target → NodeId → List Formula → Option Formula → Option Formula
past_barrier t n [] behind = behind
past_barrier t n (f ∷ fs) behind = goal_if (is_barrier t n) (labelled label.Barrier n (joined (f ∷ fs)))

module _ (p : Program) where
  abbrev pub element_write : NodeId → NameBytes → Index → Site
  element_write n x at = site_at n kind.Write x (first_index p at) (second_index p at)

  abbrev pub role_use : NodeId → NameBytes → NameBytes → Site
  role_use n x role = site_at n (kind.Hand role) x zero_term zero_term

  module _ (part : Part) where
    -- What a write changes, value and shadow at once. That of the variable of a `for` has the node of the `for`.
    abbrev pub scalar_changes : NodeId → NameBytes → Term → List Change
    scalar_changes n x value = change.Scalar (Value x) value ∷ part.effect (scalar_write n x)

    abbrev pub element_changes : NodeId → NameBytes → Index → Term → List Change
    unfolding hidden term_shape term_child array_shape array_child
    element_changes n x at value =
        change.Array (Value x) (PutOf (Array (Value x)) (first_index p at) (second_index p at) value) ∷ part.effect (element_write n x at)

    module _ (t : Target) where
      -- the goals of a loop: its invariant holds where it is entered, and again after a turn
      abbrev pub while_entry : NodeId → Option Formula
      while_entry n = goal_if (is_entry t n) (labelled label.Entry n (joined (part.invariant n)))

      abbrev pub while_keep : NodeId → Option Formula
      while_keep n = goal_if (is_keep t n) (labelled label.Keep n (joined (part.invariant n)))

      abbrev pub for_entry : NodeId → NameBytes → Expr → Option Formula
      for_entry n x lo = goal_if (is_entry t n) (labelled label.Entry n (formula_after (scalar_changes n x (term_of p lo.kind)) (joined (part.invariant n))))

      abbrev pub for_keep : NodeId → NameBytes → Option Formula
      for_keep n x = goal_if (is_keep t n) (labelled label.Keep n (formula_after (scalar_changes n x (one_more (variable x))) (joined (part.invariant n))))

      abbrev pub set_goal : NodeId → NameBytes → Expr → Option Formula
      set_goal n x e = sites_goal part.need t (scalar_write n x ∷ expr_sites p e.node.id e.kind)

      abbrev pub put_goal : NodeId → NameBytes → Index → Expr → Option Formula
      put_goal n x at e = sites_goal part.need t (element_write n x at ∷ (index_sites p at ++ expr_sites p e.node.id e.kind))

      abbrev pub ends_goal : Expr → Expr → Option Formula
      ends_goal lo hi = sites_goal part.need t (expr_sites p lo.node.id lo.kind ++ expr_sites p hi.node.id hi.kind)

      abbrev mutual
        pub before : NodeId → StmtKind → Option Formula → Option Formula
        before n (Set x e) behind = conjoined (set_goal n x e) (before_changes n (scalar_changes n x (term_of p e.kind)) behind)
        before n (Put x at e) behind = conjoined (put_goal n x at e) (before_changes n (element_changes n x at (term_of p e.kind)) behind)
        before n (If' test _ yes_ _ no_) behind =
            conjoined (cond_goal part.need t p test.kind)
            (conjoined (under label.Test n (formula_of p test.kind) (before_block yes_ behind)) (under label.Denied n (Not (formula_of p test.kind)) (before_block no_ behind)))
        before n (For' x lo hi _ body) behind = conjoined (ends_goal lo hi) (for_entry n x lo)
        before n (While' test _ body) behind = while_entry n
        before n (Hand x role) behind = conjoined (site_goal part.need t (role_use n x role)) behind
        before n Skip behind = behind

        pub before_block : {k : _} → Row_of-Stmt k → Option Formula → Option Formula
        before_block end_of-Stmt behind = behind
        before_block (more_of-Stmt n st rest) behind = before n.id st (past_barrier t n.id (part.behind n.id) (before_block rest behind))

      -- the same of a list of statements
      abbrev pub before_list : List Stmt → Option Formula → Option Formula
      before_list [] behind = behind
      before_list (st ∷ rest) behind = before st.node.id st.kind (past_barrier t st.node.id (part.behind st.node.id) (before_list rest behind))

      -- from the head of a loop into its body; the sites of the test of a `while` are judged at each test
      abbrev pub for_head : {k : _} → NodeId → NameBytes → Expr → Row_of-Stmt k → Option Formula
      for_head n x hi body = under label.Test n (Le (variable x) (term_of p hi.kind)) (before_block body (for_keep n x))

      abbrev pub while_head : {k : _} → NodeId → Cond → Row_of-Stmt k → Option Formula
      while_head n test body = conjoined (cond_goal part.need t p test.kind) (under label.Test n (formula_of p test.kind) (before_block body (while_keep n)))
