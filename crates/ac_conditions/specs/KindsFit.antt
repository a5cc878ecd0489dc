-- What a label may stand at, by its kind.
use Rattle.std.specs.Prelude.{◌≡◌, Bool, true, false, if◌then◌else◌, List, [], ◌∷◌, ◌++◌}
use Rattle.ac_tree.specs.declared.node.NodeId.{NodeId}
use Rattle.ac_tree.specs.declared.program.CondKind.{CondKind}
use Rattle.ac_tree.specs.declared.program.CondKind.TheVariants.{True, False, Rel}
use Rattle.ac_tree.specs.declared.program.Item.{Item}
use Rattle.ac_tree.specs.declared.program.ItemKind.{ItemKind}
use Rattle.ac_tree.specs.declared.program.ItemKind.TheVariants.{InputScalar, InputArray}
use Rattle.ac_tree.specs.declared.program.Program.{Program}
use Rattle.ac_tree.specs.declared.program.Stmt.{Stmt}
use Rattle.ac_tree.specs.declared.program.StmtKind.{StmtKind, Row_of-Stmt, end_of-Stmt, more_of-Stmt, Set, Put, If', For', While', Hand, Skip}
use Rattle.ac_tree.specs.Patterns.{Negation, Conjunction, Disjunction}
use Rattle.ac_flow.specs.Listed.{IsListed}
use Rattle.ac_logic.specs.declared.label.Label.{Label}
use Rattle.ac_logic.specs.declared.label.LabelKind.{LabelKind}
use Rattle.ac_logic.specs.declared.label.LabelKind.TheVariants as label
use Rattle.ac_policy.specs.declared.site.Site.{Site}
use Rattle.ac_policy.specs.Sites.{sites_of}
use Rattle.ac_conditions.specs.Opened.{hidden, cond_shape, cond_child}

-- the nodes of the statements that a test picks
module _ (picks : StmtKind → Bool) where
  abbrev pub own_picked : NodeId → StmtKind → List NodeId
  own_picked n st = if picks st then n ∷ [] else []

  abbrev mutual
    pub stmt_picked : NodeId → StmtKind → List NodeId
    stmt_picked n (If' test i yes_ j no_) = own_picked n (If' test i yes_ j no_) ++ (block_picked yes_ ++ block_picked no_)
    stmt_picked n (For' x lo hi i body) = own_picked n (For' x lo hi i body) ++ block_picked body
    stmt_picked n (While' test i body) = own_picked n (While' test i body) ++ block_picked body
    stmt_picked n (Set x e) = own_picked n (Set x e)
    stmt_picked n (Put x at e) = own_picked n (Put x at e)
    stmt_picked n (Hand x role) = own_picked n (Hand x role)
    stmt_picked n Skip = own_picked n Skip

    pub block_picked : {k : _} → Row_of-Stmt k → List NodeId
    block_picked end_of-Stmt = []
    block_picked (more_of-Stmt n st rest) = stmt_picked n.id st ++ block_picked rest

  abbrev pub list_picked : List Stmt → List NodeId
  list_picked [] = []
  list_picked (st ∷ rest) = stmt_picked st.node.id st.kind ++ list_picked rest

abbrev pub is_any_statement : StmtKind → Bool
is_any_statement st = true

abbrev pub is_assignment : StmtKind → Bool
is_assignment (Set x e) = true
is_assignment (Put x at e) = true
is_assignment _ = false

abbrev pub is_if : StmtKind → Bool
is_if (If' test _ yes_ _ no_) = true
is_if _ = false

abbrev pub is_for : StmtKind → Bool
is_for (For' x lo hi _ body) = true
is_for _ = false

abbrev pub is_loop_statement : StmtKind → Bool
is_loop_statement (For' x lo hi _ body) = true
is_loop_statement (While' test _ body) = true
is_loop_statement _ = false

abbrev pub has_test : StmtKind → Bool
has_test (If' test _ yes_ _ no_) = true
has_test (For' x lo hi _ body) = true
has_test (While' test _ body) = true
has_test _ = false

-- the left sides of each `and` and `or`
abbrev pub cond_lefts : CondKind → List NodeId
unfolding hidden cond_shape cond_child
cond_lefts True = []
cond_lefts False = []
cond_lefts (Rel op a b) = []
cond_lefts (Negation n c) = cond_lefts c
cond_lefts (Conjunction n c m d) = n.id ∷ (cond_lefts c ++ cond_lefts d)
cond_lefts (Disjunction n c m d) = n.id ∷ (cond_lefts c ++ cond_lefts d)

abbrev mutual
  pub stmt_lefts : StmtKind → List NodeId
  stmt_lefts (If' test _ yes_ _ no_) = cond_lefts test.kind ++ (block_lefts yes_ ++ block_lefts no_)
  stmt_lefts (For' x lo hi _ body) = block_lefts body
  stmt_lefts (While' test _ body) = cond_lefts test.kind ++ block_lefts body
  stmt_lefts (Set x e) = []
  stmt_lefts (Put x at e) = []
  stmt_lefts (Hand x role) = []
  stmt_lefts Skip = []

  pub block_lefts : {k : _} → Row_of-Stmt k → List NodeId
  block_lefts end_of-Stmt = []
  block_lefts (more_of-Stmt n st rest) = stmt_lefts st ++ block_lefts rest

abbrev pub list_lefts : List Stmt → List NodeId
list_lefts [] = []
list_lefts (st ∷ rest) = stmt_lefts st.kind ++ list_lefts rest

abbrev pub is_input_kind : ItemKind → Bool
is_input_kind (InputScalar lo hi) = true
is_input_kind (InputArray extents lo hi) = true
is_input_kind _ = false

abbrev pub IsInputAt : Program → NodeId → Type 0
IsInputAt p n = (d : Item) × IsListed p.items d × (is_input_kind d.kind ≡ true) × (d.node.id ≡ n)

abbrev pub IsSiteAt : Program → NodeId → Type 0
IsSiteAt p n = (s : Site) × IsListed (sites_of p) s × (s.node ≡ n)

abbrev pub IsAt : (StmtKind → Bool) → Program → NodeId → Type 0
IsAt picks p n = IsListed (list_picked picks p.body) n

abbrev pub FitsKind : Program → LabelKind → NodeId → Type 0
FitsKind p label.Range n = IsInputAt p n
FitsKind p label.Header n = IsAt is_for p n
FitsKind p label.Exit n = IsAt is_loop_statement p n
FitsKind p label.Invariant n = IsAt is_loop_statement p n
FitsKind p label.Assumed n = IsAt is_any_statement p n
FitsKind p label.Test n = IsAt has_test p n
FitsKind p label.Denied n = IsAt is_if p n
FitsKind p label.Guard n = IsListed (list_lefts p.body) n
FitsKind p label.Set n = IsAt is_assignment p n
FitsKind p label.Need n = IsSiteAt p n
FitsKind p label.Entry n = IsAt is_loop_statement p n
FitsKind p label.Keep n = IsAt is_loop_statement p n
FitsKind p label.Barrier n = IsAt is_any_statement p n

abbrev pub KindFits : Program → Label → Type 0
KindFits p l = FitsKind p l.kind l.node
