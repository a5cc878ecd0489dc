-- How control comes through statements: whether without passing a cut, and from which cuts inside. A list of cuts are those
-- from which control comes to a point without passing another.
use Rattle.std.specs.Prelude.{ℕ, Bool, true, false, ◌&&◌, ◌||◌, not, if◌then◌else◌, List, [], ◌∷◌, ◌++◌}
use Rattle.ac_tree.specs.declared.node.NodeId.{NodeId}
use Rattle.ac_tree.specs.declared.path.Cut.{Cut}
use Rattle.ac_tree.specs.declared.path.Cut.TheVariants.{Exit, After}
use Rattle.ac_tree.specs.declared.program.Stmt.{Stmt}
use Rattle.ac_tree.specs.declared.program.StmtKind.{StmtKind, Row_of-Stmt, end_of-Stmt, more_of-Stmt, Set, Put, If', For', While', Hand, Skip}

module _ (barrier : ℕ → Bool) where
  -- whether control comes through without passing a cut
  abbrev mutual
    pub passes : StmtKind → Bool
    passes (If' test _ yes_ _ no_) = block_passes yes_ || block_passes no_
    passes (For' x lo hi _ body) = false
    passes (While' test _ body) = false
    passes (Set x e) = true
    passes (Put x i e) = true
    passes (Hand x role) = true
    passes Skip = true

    pub block_passes : {k : _} → Row_of-Stmt k → Bool
    block_passes end_of-Stmt = true
    block_passes (more_of-Stmt n st rest) = (not (barrier n.id.0) && passes st) && block_passes rest

  -- whether control comes through a statement and leaves it
  abbrev pub goes_on : NodeId → StmtKind → Bool
  goes_on n st = not (barrier n.0) && passes st

  -- the cuts inside from which control comes to the end
  abbrev mutual
    pub exits : NodeId → StmtKind → List Cut
    exits n (If' test _ yes_ _ no_) = block_exits yes_ ++ block_exits no_
    exits n (For' x lo hi _ body) = Exit n ∷ []
    exits n (While' test _ body) = Exit n ∷ []
    exits n (Set x e) = []
    exits n (Put x i e) = []
    exits n (Hand x role) = []
    exits n Skip = []

    pub block_exits : {k : _} → Row_of-Stmt k → List Cut
    block_exits end_of-Stmt = []
    block_exits (more_of-Stmt n st rest) = (if block_passes rest then (if barrier n.id.0 then After n.id ∷ [] else exits n.id st) else []) ++ block_exits rest

  -- the cuts in a statement and behind it from which control leaves it
  abbrev pub leaving : NodeId → StmtKind → List Cut
  leaving n st = if barrier n.0 then After n ∷ [] else exits n st

  -- whether control comes through a list of statements
  abbrev pub list_passes : List Stmt → Bool
  list_passes [] = true
  list_passes (st ∷ rest) = goes_on st.node.id st.kind && list_passes rest

  -- the cuts from which control comes behind a statement, by those from which it comes to it
  abbrev pub behind : List Cut → NodeId → StmtKind → List Cut
  behind cuts n st = (if passes st then cuts else []) ++ exits n st

  -- and the cuts from which it leaves the statement
  abbrev pub onward : List Cut → NodeId → StmtKind → List Cut
  onward cuts n st = (if goes_on n st then cuts else []) ++ leaving n st

  -- and those from which it comes to the end of a block
  abbrev pub behind_block : {k : _} → List Cut → Row_of-Stmt k → List Cut
  behind_block cuts row = (if block_passes row then cuts else []) ++ block_exits row
