-- How control comes through lists of statements, as the code walks over them. No promise rests on this file.
use Rattle.std.specs.Prelude.{ℕ, Bool, ◌||◌, if◌then◌else◌, List, [], ◌∷◌, ◌++◌}
use Rattle.ac_tree.specs.declared.path.Cut.{Cut}
use Rattle.ac_tree.specs.declared.program.Stmt.{Stmt}
use Rattle.ac_flow.specs.Through.{list_passes, leaving}

module _ (barrier : ℕ → Bool) where
  -- the cuts inside from which control comes to the end
  abbrev pub list_exits : List Stmt → List Cut
  list_exits [] = []
  list_exits (st ∷ rest) = (if list_passes barrier rest then leaving barrier st.node.id st.kind else []) ++ list_exits rest

  -- the cuts from which control comes to the end, by those from which it comes to the list
  abbrev pub behind_list : List Cut → List Stmt → List Cut
  behind_list cuts sts = (if list_passes barrier sts then cuts else []) ++ list_exits sts

  -- and those from which it comes to the end of one part or the other
  abbrev pub joined : List Cut → List Stmt → List Stmt → List Cut
  joined cuts yes_ no_ = (if list_passes barrier yes_ || list_passes barrier no_ then cuts else []) ++ (list_exits yes_ ++ list_exits no_)
