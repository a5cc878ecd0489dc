-- The nodes that the condition of a pair speaks of, said by the paths from its cut to its target. `Walks` gives the same nodes
-- in their order, by recursion over the tree.
use Rattle.std.specs.Prelude.{◌≡◌, ℕ, Bool, true, List, [], ◌∷◌, ◌++◌, Some, ◌⊎◌}
use Rattle.ac_tree.specs.declared.node.NodeId.{NodeId}
use Rattle.ac_tree.specs.declared.path.Cut.{Cut}
use Rattle.ac_tree.specs.declared.path.Cut.TheVariants as cut
use Rattle.ac_tree.specs.declared.path.Target.{Target}
use Rattle.ac_tree.specs.declared.path.Target.TheVariants.{Entry, Keep, Barrier, Site}
use Rattle.ac_tree.specs.declared.program.Item.{Item}
use Rattle.ac_tree.specs.declared.program.Program.{Program}
use Rattle.ac_tree.specs.declared.program.Stmt.{Stmt}
use Rattle.ac_tree.specs.declared.program.StmtKind.{StmtKind, Row_of-Stmt, end_of-Stmt, more_of-Stmt, Set, Put, If', For', While', Hand, Skip}
use Rattle.ac_flow.specs.Leads.{cond_reads}
use Rattle.ac_flow.specs.Listed.{IsListed}
use Rattle.ac_flow.specs.Paths.{IsPointOf, LeadsTo}
use Rattle.ac_flow.specs.Points.{Task, Begin, Do, Behind, Enter, Test, Turn, Exit, Judge, Decide, See, Point, reads_of, index_reads, cut_at, target_at}
use Rattle.ac_walk.specs.Walks.{target_node, is_input, is_for}

-- control enters a statement before it is done, and a test or a left operand before it is judged
abbrev pub Enters : Task → NodeId → Type 0
Enters (Do st) n = n ≡ st.node.id
Enters (Judge c) n = n ≡ c.node.id
Enters Begin n = ⊥
Enters (Behind m) n = ⊥
Enters (Enter m test body) n = ⊥
Enters (Test m test body) n = ⊥
Enters (Turn m test body) n = ⊥
Enters (Exit m) n = ⊥
Enters (Decide c) n = ⊥
Enters (See m) n = ⊥

-- the node whose number a point begins with, where control enters it there
abbrev pub EntersAt : Point → NodeId → Type 0
EntersAt [] n = ⊥
EntersAt (x ∷ rest) n = Enters x n

-- what stands in the blocks of a statement, and in a block, at any depth
abbrev mutual
  pub HasInside : StmtKind → Stmt → Type 0
  HasInside (If' test _ yes_ _ no_) s = BlockHas yes_ s ⊎ BlockHas no_ s
  HasInside (For' x lo hi _ body) s = BlockHas body s
  HasInside (While' test _ body) s = BlockHas body s
  HasInside (Set x e) s = ⊥
  HasInside (Put x i e) s = ⊥
  HasInside (Hand x role) s = ⊥
  HasInside Skip s = ⊥

  pub BlockHas : {k : _} → Row_of-Stmt k → Stmt → Type 0
  BlockHas end_of-Stmt s = ⊥
  BlockHas (more_of-Stmt n st rest) s = (s ≡ record { node = n; kind = st }) ⊎ (HasInside st s ⊎ BlockHas rest s)

-- the same of a list of statements
abbrev pub Has : List Stmt → Stmt → Type 0
Has [] s = ⊥
Has (st ∷ rest) s = (s ≡ st) ⊎ (HasInside st.kind s ⊎ Has rest s)

-- the statement that a cut belongs to; the start of the program has none
abbrev pub BelongsTo : Cut → NodeId → Type 0
BelongsTo cut.Start n = ⊥
BelongsTo (cut.Head m) n = n ≡ m
BelongsTo (cut.Exit m) n = n ≡ m
BelongsTo (cut.After m) n = n ≡ m

-- the accesses that a statement makes itself, outside its blocks
abbrev pub accesses : NodeId → StmtKind → List NodeId
accesses n (Set x e) = reads_of e.node e.kind ++ n ∷ []
accesses n (Put x i e) = index_reads i ++ (reads_of e.node e.kind ++ n ∷ [])
accesses n (If' test _ yes_ _ no_) = cond_reads test.kind
accesses n (For' x lo hi _ body) = reads_of lo.node lo.kind ++ reads_of hi.node hi.kind
accesses n (While' test _ body) = cond_reads test.kind
accesses n (Hand x role) = n ∷ []
accesses n Skip = []

-- the target is an access that a statement makes
abbrev pub IsAccessOf : Target → Stmt → Type 0
IsAccessOf (Site v) st = IsListed (accesses st.node.id st.kind) v
IsAccessOf (Entry n) st = ⊥
IsAccessOf (Keep n) st = ⊥
IsAccessOf (Barrier n) st = ⊥

module _ (p : Program) (barrier : ℕ → Bool) (c : Cut) (t : Target) where
  -- control leads from the cut to a point and from there to the target, and passes no other cut; a point where control enters
  -- a node is none
  pub record LeadsBy (via : Point) : Type 0 where
    pub from : Point
    pub to : Point
    pub of_program : IsPointOf p from
    pub is_cut : cut_at barrier from ≡ Some c
    pub before : LeadsTo barrier from via
    pub behind : LeadsTo barrier via to
    pub is_target : target_at barrier to ≡ Some t

  pub data IsVisited : NodeId → Type 0 where
    -- an input
    input : (d : Item) → IsListed p.items d → is_input d.kind ≡ true → IsVisited d.node.id
    -- a `for` around the cut's statement
    around : (loop inner : Stmt) → Has p.body loop → is_for loop.kind ≡ true → HasInside loop.kind inner → BelongsTo c inner.node.id → IsVisited loop.node.id
    -- the cut's statement
    own : (n : NodeId) → BelongsTo c n → IsVisited n
    -- a statement, test or left operand that control enters on its way
    on_path : (via : Point) (n : NodeId) → LeadsBy via → EntersAt via n → IsVisited n
    -- the statement that makes the access, where the target is one
    site : (st : Stmt) → Has p.body st → IsAccessOf t st → IsVisited st.node.id
    -- the target
    aim : IsVisited (target_node t)
