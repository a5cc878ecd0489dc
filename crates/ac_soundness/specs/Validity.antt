-- What the conditions say by recursion over the tree: at each cut the path formula holds wherever the hypotheses of the cut do.
use Rattle.std.specs.Prelude.{List, [], ◌∷◌, ◌++◌, Option, None}
use Rattle.ac_tree.specs.declared.node.NodeId.{NodeId}
use Rattle.ac_tree.specs.declared.path.Target.{Target}
use Rattle.ac_tree.specs.declared.program.Program.{Program}
use Rattle.ac_tree.specs.declared.program.Stmt.{Stmt}
use Rattle.ac_tree.specs.declared.program.StmtKind.{StmtKind, Row_of-Stmt, end_of-Stmt, more_of-Stmt, Set, Put, If', For', While', Hand, Skip}
use Rattle.ac_logic.specs.declared.formula.Formula.{Formula}
use Rattle.ac_logic.specs.Meaning.{Valuation, Holds}
use Rattle.ac_policy.specs.Laws.{HoldsIf}
use Rattle.ac_conditions.specs.Hypotheses.{in_body, at_for_test, at_for_exit, at_while_exit, invariants, assumed}
use Rattle.ac_conditions.specs.Part.{Part}
use Rattle.ac_conditions.specs.Preconditions.{past_barrier, before_block, before_list, for_head, while_head, for_keep, while_keep}
use Rattle.ac_conditions.specs.Ranges.{ranges}

abbrev pub AllHold : Valuation → List Formula → Type 0
AllHold w [] = Unit {0}
AllHold w (f ∷ fs) = Holds w f × AllHold w fs

-- what holds wherever the hypotheses do
abbrev pub Follows : List Formula → Option Formula → Type 0
Follows hypotheses path = (w : Valuation) → AllHold w hypotheses → HoldsIf w path

-- behind a barrier its facts are hypotheses; without one no path begins there
abbrev pub FollowsBehind : List Formula → NodeId → List Formula → Option Formula → Type 0
FollowsBehind hypotheses n [] behind = Unit {0}
FollowsBehind hypotheses n (f ∷ fs) behind = Follows (hypotheses ++ assumed n (f ∷ fs)) behind

module _ (p : Program) (part : Part) (t : Target) where
  abbrev mutual
    -- the cuts inside a statement, by what stands behind it
    pub Valid : List Formula → NodeId → StmtKind → Option Formula → Type 0
    Valid hypotheses n (Set x e) behind = Unit {0}
    Valid hypotheses n (Put x at e) behind = Unit {0}
    Valid hypotheses n (If' test _ yes_ _ no_) behind = ValidBlock hypotheses yes_ behind × ValidBlock hypotheses no_ behind
    Valid hypotheses n (For' x lo hi _ body) behind =
        Follows (hypotheses ++ (at_for_test p part n x lo ∷ invariants p part n)) (for_head p part t n x hi body)
        × Follows (hypotheses ++ (at_for_exit p part n x lo hi ∷ invariants p part n)) behind
        × ValidBlock (hypotheses ++ in_body p part n x lo hi ∷ []) body (for_keep p part t n x)
    Valid hypotheses n (While' test _ body) behind =
        Follows (hypotheses ++ invariants p part n) (while_head p part t n test body)
        × Follows (hypotheses ++ (at_while_exit p part n test ∷ invariants p part n)) behind
        × ValidBlock hypotheses body (while_keep p part t n)
    Valid hypotheses n (Hand x role) behind = Unit {0}
    Valid hypotheses n Skip behind = Unit {0}

    pub ValidBlock : {k : _} → List Formula → Row_of-Stmt k → Option Formula → Type 0
    ValidBlock hypotheses end_of-Stmt behind = Unit {0}
    ValidBlock hypotheses (more_of-Stmt n st rest) behind =
        Valid hypotheses n.id st (past_barrier t n.id (part.behind n.id) (before_block p part t rest behind))
        × FollowsBehind hypotheses n.id (part.behind n.id) (before_block p part t rest behind)
        × ValidBlock hypotheses rest behind

  abbrev pub ValidList : List Formula → List Stmt → Option Formula → Type 0
  ValidList hypotheses [] behind = Unit {0}
  ValidList hypotheses (st ∷ rest) behind =
      Valid hypotheses st.node.id st.kind (past_barrier t st.node.id (part.behind st.node.id) (before_list p part t rest behind))
      × FollowsBehind hypotheses st.node.id (part.behind st.node.id) (before_list p part t rest behind)
      × ValidList hypotheses rest behind

-- for every target of a program
abbrev pub AllValid : Program → Part → Type 0
AllValid p part = (t : Target) → Follows (ranges p p.items) (before_list p part t p.body None) × ValidList p part t (ranges p p.items) p.body None
