-- Whether control leads from a statement to a target, by recursion over the tree, where `more` says whether it leads there
-- from behind the statement.
use Rattle.std.specs.Prelude.{ℕ, nat_eq, Bool, false, ◌&&◌, ◌||◌, not, List, [], ◌∷◌, ◌++◌, Option, Some, None}
use Rattle.std.specs.List.{list_any}
use Rattle.ac_tree.specs.declared.node.NodeId.{NodeId}
use Rattle.ac_tree.specs.declared.path.Target.{Target}
use Rattle.ac_tree.specs.declared.path.Target.TheVariants.{Entry, Keep, Barrier, Site}
use Rattle.ac_tree.specs.declared.program.Cond.{Cond}
use Rattle.ac_tree.specs.declared.program.CondKind.{CondKind}
use Rattle.ac_tree.specs.declared.program.CondKind.TheVariants.{True, False, Rel}
use Rattle.ac_tree.specs.declared.program.Stmt.{Stmt}
use Rattle.ac_tree.specs.declared.program.StmtKind.{StmtKind, Row_of-Stmt, end_of-Stmt, more_of-Stmt, Set, Put, If', For', While', Hand, Skip}
use Rattle.ac_tree.specs.Patterns.{Negation, Conjunction, Disjunction}
use Rattle.ac_flow.specs.Opened.{hidden, cond_shape, cond_child}
use Rattle.ac_flow.specs.Points.{reads_of, index_reads, Task, Begin, Do, Behind, Enter, Test, Turn, Exit, Judge, Decide, See, Point}

abbrev pub is_site : Target → NodeId → Bool
is_site (Site m) n = nat_eq m.0 n.0
is_site _ n = false

abbrev pub is_entry : Target → NodeId → Bool
is_entry (Entry m) n = nat_eq m.0 n.0
is_entry _ n = false

abbrev pub is_keep : Target → NodeId → Bool
is_keep (Keep m) n = nat_eq m.0 n.0
is_keep _ n = false

abbrev pub is_barrier : Target → NodeId → Bool
is_barrier (Barrier m) n = nat_eq m.0 n.0
is_barrier _ n = false

-- the reads in a condition
abbrev pub cond_reads : CondKind → List NodeId
unfolding hidden cond_shape cond_child
cond_reads True = []
cond_reads False = []
cond_reads (Rel op a b) = reads_of a.node a.kind ++ reads_of b.node b.kind
cond_reads (Negation n c) = cond_reads c
cond_reads (Conjunction n c m d) = cond_reads c ++ cond_reads d
cond_reads (Disjunction n c m d) = cond_reads c ++ cond_reads d

module _ (barrier : ℕ → Bool) (t : Target) where
  abbrev pub is_among : List NodeId → Bool
  is_among ns = list_any (is_site t) ns

  -- behind a statement, where `more` says whether the rest leads there
  abbrev pub past : NodeId → Bool → Bool
  past n more = (barrier n.0 && is_barrier t n) || (not (barrier n.0) && more)

  abbrev mutual
    pub leads : NodeId → StmtKind → Bool → Bool
    leads n (Set x e) more = is_among (reads_of e.node e.kind) || (is_site t n || more)
    leads n (Put x i e) more = is_among (index_reads i ++ reads_of e.node e.kind) || (is_site t n || more)
    leads n (If' test _ yes_ _ no_) more = is_among (cond_reads test.kind) || (block_leads yes_ more || block_leads no_ more)
    leads n (For' x lo hi _ body) more = is_among (reads_of lo.node lo.kind ++ reads_of hi.node hi.kind) || is_entry t n
    leads n (While' test _ body) more = is_entry t n
    leads n (Hand x role) more = is_site t n || more
    leads n Skip more = more

    pub block_leads : {k : _} → Row_of-Stmt k → Bool → Bool
    block_leads end_of-Stmt more = more
    block_leads (more_of-Stmt n st rest) more = leads n.id st (past n.id (block_leads rest more))

  -- the same of a list of statements
  abbrev pub list_leads : List Stmt → Bool → Bool
  list_leads [] more = more
  list_leads (st ∷ rest) more = leads st.node.id st.kind (past st.node.id (list_leads rest more))

  -- the test of a `while`; a `for` reads nothing at its test
  abbrev pub is_in_test : Option Cond → Bool
  is_in_test None = false
  is_in_test (Some c) = is_among (cond_reads c.kind)

  -- whether a test of a loop leads there, and a turn behind it
  abbrev pub head_leads : NodeId → Option Cond → List Stmt → Bool
  head_leads n test body = is_in_test test || list_leads body (is_keep t n)

  -- a point whose first task is this one, where `more` says whether the rest leads there; a cut leads nowhere
  abbrev pub task_leads : Task → Bool → Bool
  task_leads Begin more = false
  task_leads (Do st) more = leads st.node.id st.kind (past st.node.id more)
  task_leads (Behind n) more = past n more
  task_leads (Enter n test body) more = is_entry t n
  task_leads (Test n test body) more = false
  task_leads (Turn n test body) more = is_keep t n
  task_leads (Exit n) more = false
  task_leads (Judge c) more = is_among (cond_reads c.kind) || more
  task_leads (Decide c) more = is_among (cond_reads c) || more
  task_leads (See n) more = is_site t n || more

  abbrev pub point_leads : Point → Bool
  point_leads [] = false
  point_leads (x ∷ rest) = task_leads x (point_leads rest)

  -- the same where control leaves the point, which may be a cut or the target itself
  abbrev pub task_leads_on : Task → Bool → Bool
  task_leads_on Begin more = more
  task_leads_on (Do st) more = leads st.node.id st.kind (past st.node.id more)
  task_leads_on (Behind n) more = more
  task_leads_on (Enter n test body) more = false
  task_leads_on (Test n test body) more = head_leads n test body
  task_leads_on (Turn n test body) more = false
  task_leads_on (Exit n) more = past n more
  task_leads_on (Judge c) more = is_among (cond_reads c.kind) || more
  task_leads_on (Decide c) more = is_among (cond_reads c) || more
  task_leads_on (See n) more = more

  abbrev pub leads_on : Point → Bool
  leads_on [] = false
  leads_on (x ∷ rest) = task_leads_on x (point_leads rest)
