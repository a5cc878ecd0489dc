-- The places of a program at which an annotation may stand: each loop, and behind each statement.
use Rattle.std.specs.Prelude.{ℕ, nat_eq, Bool, false, List, [], ◌∷◌, ◌++◌}
use Rattle.std.specs.List.{list_any}
use Rattle.ac_tree.specs.declared.node.NodeId.{NodeId}
use Rattle.ac_tree.specs.declared.path.Place.{Place}
use Rattle.ac_tree.specs.declared.path.Place.TheVariants.{Loop, After}
use Rattle.ac_tree.specs.declared.program.Program.{Program}
use Rattle.ac_tree.specs.declared.program.Stmt.{Stmt}
use Rattle.ac_tree.specs.declared.program.StmtKind.{StmtKind, Row_of-Stmt, end_of-Stmt, more_of-Stmt, Set, Put, If', For', While', Hand, Skip}
use Rattle.ac_flow.specs.Cuts.{has_place}

abbrev mutual
  pub stmt_places : NodeId → StmtKind → List Place
  stmt_places n (If' test _ yes_ _ no_) = After n ∷ (block_places yes_ ++ block_places no_)
  stmt_places n (For' x lo hi _ body) = Loop n ∷ After n ∷ block_places body
  stmt_places n (While' test _ body) = Loop n ∷ After n ∷ block_places body
  stmt_places n (Set x e) = After n ∷ []
  stmt_places n (Put x i e) = After n ∷ []
  stmt_places n (Hand x role) = After n ∷ []
  stmt_places n Skip = After n ∷ []

  pub block_places : {k : _} → Row_of-Stmt k → List Place
  block_places end_of-Stmt = []
  block_places (more_of-Stmt n st rest) = stmt_places n.id st ++ block_places rest

-- the same of a list of statements
abbrev pub list_places : List Stmt → List Place
list_places [] = []
list_places (st ∷ rest) = stmt_places st.node.id st.kind ++ list_places rest

abbrev pub places_of : Program → List Place
places_of p = list_places p.body

abbrev pub is_loop : ℕ → Place → Bool
is_loop n (Loop m) = nat_eq m.0 n
is_loop n (After m) = false

-- whether a place is one of these
abbrev pub is_place : List Place → Place → Bool
is_place places (Loop n) = list_any (is_loop n.0) places
is_place places (After n) = has_place places n.0
