-- The statements of a program, and the places behind them.
use Rattle.std.specs.Prelude.{◌≡◌, ℕ, nat_eq, Bool, true, false, ◌||◌, List, [], ◌∷◌}
use Rattle.ac_tree.specs.declared.node.NodeId.{NodeId}
use Rattle.ac_tree.specs.declared.path.Place.{Place}
use Rattle.ac_tree.specs.declared.program.Program.{Program}
use Rattle.ac_tree.specs.declared.program.Stmt.{Stmt}
use Rattle.ac_tree.specs.declared.program.StmtKind.{StmtKind, Row_of-Stmt, end_of-Stmt, more_of-Stmt, Set, Put, If', For', While', Hand, Skip}
use Rattle.ac_flow.specs.Cuts.{has_place}

-- whether a statement, or one inside it, has the number
abbrev mutual
  pub is_in_stmt : ℕ → NodeId → StmtKind → Bool
  is_in_stmt k n (If' test _ yes_ _ no_) = nat_eq n.0 k || (is_in_block k yes_ || is_in_block k no_)
  is_in_stmt k n (For' x lo hi _ body) = nat_eq n.0 k || is_in_block k body
  is_in_stmt k n (While' test _ body) = nat_eq n.0 k || is_in_block k body
  is_in_stmt k n (Set x e) = nat_eq n.0 k
  is_in_stmt k n (Put x at e) = nat_eq n.0 k
  is_in_stmt k n (Hand x role) = nat_eq n.0 k
  is_in_stmt k n Skip = nat_eq n.0 k

  pub is_in_block : {a : _} → ℕ → Row_of-Stmt a → Bool
  is_in_block k end_of-Stmt = false
  is_in_block k (more_of-Stmt n st rest) = is_in_stmt k n.id st || is_in_block k rest

-- the same of a list of statements
abbrev pub is_in_list : ℕ → List Stmt → Bool
is_in_list k [] = false
is_in_list k (st ∷ rest) = is_in_stmt k st.node.id st.kind || is_in_list k rest

abbrev pub is_statement : Program → ℕ → Bool
is_statement p k = is_in_list k p.body

-- each place behind a node is behind a statement
abbrev pub AreBehindStatements : Program → List Place → Type 0
AreBehindStatements p places = (k : ℕ) → has_place places k ≡ true → is_statement p k ≡ true
