-- The cuts of a program in their order: by node, and Head, Exit, After at one node.
use Rattle.std.specs.Prelude.{ℕ, nat_eq, Bool, false, if◌then◌else◌, List, [], ◌∷◌, ◌++◌}
use Rattle.std.specs.List.{list_any}
use Rattle.ac_tree.specs.declared.node.NodeId.{NodeId}
use Rattle.ac_tree.specs.declared.path.Cut.{Cut}
use Rattle.ac_tree.specs.declared.path.Cut.TheVariants.{Start, Head, Exit, After}
use Rattle.ac_tree.specs.declared.path.Place.{Place}
use Rattle.ac_tree.specs.declared.path.Place.TheVariants as place
use Rattle.ac_tree.specs.declared.program.Program.{Program}
use Rattle.ac_tree.specs.declared.program.Stmt.{Stmt}
use Rattle.ac_tree.specs.declared.program.StmtKind.{StmtKind, Row_of-Stmt, end_of-Stmt, more_of-Stmt, Set, Put, If', For', While', Hand, Skip}

-- the statements that have a barrier behind them, by the places of annotations
abbrev pub is_after : ℕ → Place → Bool
is_after n (place.After m) = nat_eq m.0 n
is_after n (place.Loop m) = false

abbrev pub has_place : List Place → ℕ → Bool
has_place places n = list_any (is_after n) places

-- the same by the cuts
abbrev pub is_behind : ℕ → Cut → Bool
is_behind n (After m) = nat_eq m.0 n
is_behind n _ = false

abbrev pub has_barrier : List Cut → ℕ → Bool
has_barrier cuts n = list_any (is_behind n) cuts

module _ (barrier : ℕ → Bool) where
  abbrev pub after : NodeId → List Cut
  after n = if barrier n.0 then After n ∷ [] else []

  abbrev mutual
    pub stmt_cuts : NodeId → StmtKind → List Cut
    stmt_cuts n (If' test _ yes_ _ no_) = after n ++ (block_cuts yes_ ++ block_cuts no_)
    stmt_cuts n (For' x lo hi _ body) = Head n ∷ Exit n ∷ (after n ++ block_cuts body)
    stmt_cuts n (While' test _ body) = Head n ∷ Exit n ∷ (after n ++ block_cuts body)
    stmt_cuts n (Set x e) = after n
    stmt_cuts n (Put x i e) = after n
    stmt_cuts n (Hand x role) = after n
    stmt_cuts n Skip = after n

    pub block_cuts : {k : _} → Row_of-Stmt k → List Cut
    block_cuts end_of-Stmt = []
    block_cuts (more_of-Stmt n st rest) = stmt_cuts n.id st ++ block_cuts rest

  -- the same of a list of statements
  abbrev pub list_cuts : List Stmt → List Cut
  list_cuts [] = []
  list_cuts (st ∷ rest) = stmt_cuts st.node.id st.kind ++ list_cuts rest

  abbrev pub cuts_of : Program → List Cut
  cuts_of p = Start ∷ list_cuts p.body
