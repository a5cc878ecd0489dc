-- Everything that a condition can aim at, in order: by node, and Entry, Keep, Barrier, Site at one node.
use Rattle.std.specs.Prelude.{List, [], ◌∷◌, ◌++◌, map}
use Rattle.ac_tree.specs.declared.node.NodeId.{NodeId}
use Rattle.ac_tree.specs.declared.path.Target.{Target}
use Rattle.ac_tree.specs.declared.path.Target.TheVariants.{Entry, Keep, Barrier, Site}
use Rattle.ac_tree.specs.declared.program.Program.{Program}
use Rattle.ac_tree.specs.declared.program.Stmt.{Stmt}
use Rattle.ac_tree.specs.declared.program.StmtKind.{StmtKind, Row_of-Stmt, end_of-Stmt, more_of-Stmt, Set, Put, If', For', While', Hand, Skip}
use Rattle.ac_policy.specs.declared.site.Site as policy_site
use Rattle.ac_policy.specs.Sites.{scalar_write, expr_sites, index_sites, cond_sites}
use Rattle.ac_conditions.specs.Preconditions.{element_write, role_use}

abbrev pub site_targets : List policy_site.Site → List Target
site_targets sites = map (λ s. Site s.node) sites

module _ (p : Program) where
  abbrev mutual
    pub stmt_targets : NodeId → StmtKind → List Target
    stmt_targets n (Set x e) = Barrier n ∷ site_targets (scalar_write n x ∷ expr_sites p e.node.id e.kind)
    stmt_targets n (Put x at e) = Barrier n ∷ site_targets (element_write p n x at ∷ (index_sites p at ++ expr_sites p e.node.id e.kind))
    stmt_targets n (If' test _ yes_ _ no_) = Barrier n ∷ (site_targets (cond_sites p test.kind) ++ (block_targets yes_ ++ block_targets no_))
    stmt_targets n (For' x lo hi _ body) =
        Entry n ∷ Keep n ∷ Barrier n ∷ (site_targets (expr_sites p lo.node.id lo.kind ++ expr_sites p hi.node.id hi.kind) ++ block_targets body)
    stmt_targets n (While' test _ body) = Entry n ∷ Keep n ∷ Barrier n ∷ (site_targets (cond_sites p test.kind) ++ block_targets body)
    stmt_targets n (Hand x role) = Barrier n ∷ site_targets (role_use p n x role ∷ [])
    stmt_targets n Skip = Barrier n ∷ []

    pub block_targets : {k : _} → Row_of-Stmt k → List Target
    block_targets end_of-Stmt = []
    block_targets (more_of-Stmt n st rest) = stmt_targets n.id st ++ block_targets rest

  abbrev pub list_targets : List Stmt → List Target
  list_targets [] = []
  list_targets (st ∷ rest) = stmt_targets st.node.id st.kind ++ list_targets rest
