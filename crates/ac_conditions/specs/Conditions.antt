-- The verification conditions of one target: at each cut from which a path leads there, the hypotheses of the cut, each
-- implying the next, and then the path formula. They stand in the order of the cuts: by node, and Head, Exit, After at one node.
use Rattle.std.specs.Prelude.{List, [], ◌∷◌, ◌++◌, Option, Some, None}
use Rattle.ac_tree.specs.declared.node.NodeId.{NodeId}
use Rattle.ac_tree.specs.declared.path.Cut.{Cut}
use Rattle.ac_tree.specs.declared.path.Cut.TheVariants.{Start, Head, Exit, After}
use Rattle.ac_tree.specs.declared.path.Target.{Target}
use Rattle.ac_tree.specs.declared.policy.PolicyName.{PolicyName}
use Rattle.ac_tree.specs.declared.program.Program.{Program}
use Rattle.ac_tree.specs.declared.program.Stmt.{Stmt}
use Rattle.ac_tree.specs.declared.program.StmtKind.{StmtKind, Row_of-Stmt, end_of-Stmt, more_of-Stmt, Set, Put, If', For', While', Hand, Skip}
use Rattle.ac_logic.specs.declared.condition.Condition.{Condition}
use Rattle.ac_logic.specs.declared.formula.Formula.{Formula}
use Rattle.ac_logic.specs.Meaning.{Valuation, Holds}
use Rattle.ac_logic.specs.Patterns.{Implication}
use Rattle.ac_conditions.specs.Opened.{hidden, formula_shape, formula_child}
use Rattle.ac_conditions.specs.Hypotheses.{in_body, at_for_test, at_for_exit, at_while_exit, invariants, assumed}
use Rattle.ac_conditions.specs.Part.{Part}
use Rattle.ac_conditions.specs.Preconditions.{past_barrier, before_block, before_list, for_head, while_head, for_keep, while_keep}
use Rattle.ac_conditions.specs.Ranges.{ranges}

abbrev pub implied_by : List Formula → Formula → Formula
unfolding hidden formula_shape formula_child
implied_by [] f = f
implied_by (h ∷ hs) f = Implication h (implied_by hs f)

-- a condition holds under every valuation
abbrev pub IsValid : Condition → Type 0
IsValid c = (w : Valuation) → Holds w c.formula

module _ (p : Program) (policy : PolicyName) (part : Part) (t : Target) where
  -- the condition of a cut, where a path leads from it to the target
  abbrev pub condition : Cut → List Formula → Option Formula → List Condition
  condition c hypotheses None = []
  condition c hypotheses (Some path) = record { policy = policy; pair = record { cut = c; target = t }; formula = implied_by hypotheses path } ∷ []

  abbrev pub barrier_condition : NodeId → List Formula → List Formula → Option Formula → List Condition
  barrier_condition n hypotheses [] behind = []
  barrier_condition n hypotheses (f ∷ fs) behind = condition (After n) (hypotheses ++ assumed n (f ∷ fs)) behind

  -- The cuts of a statement, of which that of a barrier comes from outside, and then the cuts in its blocks.
  abbrev mutual
    pub conditions : List Formula → NodeId → StmtKind → Option Formula → List Condition → List Condition
    conditions hypotheses n (Set x e) behind barrier = barrier
    conditions hypotheses n (Put x at e) behind barrier = barrier
    conditions hypotheses n (If' test _ yes_ _ no_) behind barrier = barrier ++ (block_conditions hypotheses yes_ behind ++ block_conditions hypotheses no_ behind)
    conditions hypotheses n (For' x lo hi _ body) behind barrier =
        condition (Head n) (hypotheses ++ (at_for_test p part n x lo ∷ invariants p part n)) (for_head p part t n x hi body)
        ++ (condition (Exit n) (hypotheses ++ (at_for_exit p part n x lo hi ∷ invariants p part n)) behind
        ++ (barrier ++ block_conditions (hypotheses ++ in_body p part n x lo hi ∷ []) body (for_keep p part t n x)))
    conditions hypotheses n (While' test _ body) behind barrier =
        condition (Head n) (hypotheses ++ invariants p part n) (while_head p part t n test body)
        ++ (condition (Exit n) (hypotheses ++ (at_while_exit p part n test ∷ invariants p part n)) behind
        ++ (barrier ++ block_conditions hypotheses body (while_keep p part t n)))
    conditions hypotheses n (Hand x role) behind barrier = barrier
    conditions hypotheses n Skip behind barrier = barrier

    pub block_conditions : {k : _} → List Formula → Row_of-Stmt k → Option Formula → List Condition
    block_conditions hypotheses end_of-Stmt behind = []
    block_conditions hypotheses (more_of-Stmt n st rest) behind =
        conditions hypotheses n.id st (past_barrier t n.id (part.behind n.id) (before_block p part t rest behind))
        (barrier_condition n.id hypotheses (part.behind n.id) (before_block p part t rest behind))
        ++ block_conditions hypotheses rest behind

  -- the same of a list of statements
  abbrev pub list_conditions : List Formula → List Stmt → Option Formula → List Condition
  list_conditions hypotheses [] behind = []
  list_conditions hypotheses (st ∷ rest) behind =
      conditions hypotheses st.node.id st.kind (past_barrier t st.node.id (part.behind st.node.id) (before_list p part t rest behind))
      (barrier_condition st.node.id hypotheses (part.behind st.node.id) (before_list p part t rest behind))
      ++ list_conditions hypotheses rest behind

  -- those of a program, at whose end no path goes on
  abbrev pub conditions_at : List Condition
  conditions_at = condition Start (ranges p p.items) (before_list p part t p.body None) ++ list_conditions (ranges p p.items) p.body None
