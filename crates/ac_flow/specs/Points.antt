-- The control points of a program, and the steps between them. A control point is what is left to do there, the next first:
-- before and behind each statement, before each test of a loop and behind its last one, and at each access. Control follows
-- the program and ignores whether a test can hold.
use Rattle.std.specs.Prelude.{◌≡◌, ℕ, Bool, if◌then◌else◌, List, [], ◌∷◌, ◌++◌, map, Option, Some, None, ◌⊎◌}
use Rattle.ac_tree.specs.declared.node.Node.{Node}
use Rattle.ac_tree.specs.declared.node.NodeId.{NodeId}
use Rattle.ac_tree.specs.declared.path.Cut.{Cut}
use Rattle.ac_tree.specs.declared.path.Cut.TheVariants as cut
use Rattle.ac_tree.specs.declared.path.Target.{Target}
use Rattle.ac_tree.specs.declared.path.Target.TheVariants as target
use Rattle.ac_tree.specs.declared.program.Cond.{Cond}
use Rattle.ac_tree.specs.declared.program.CondKind.{CondKind}
use Rattle.ac_tree.specs.declared.program.CondKind.TheVariants.{True, False, Rel}
use Rattle.ac_tree.specs.declared.program.ExprKind.{ExprKind}
use Rattle.ac_tree.specs.declared.program.ExprKind.TheVariants.{Num, Get, Read}
use Rattle.ac_tree.specs.declared.program.Index.{Index}
use Rattle.ac_tree.specs.declared.program.Program.{Program}
use Rattle.ac_tree.specs.declared.program.Stmt.{Stmt}
use Rattle.ac_tree.specs.declared.program.StmtKind.{StmtKind, Set, Put, If', For', While', Hand, Skip}
pub use Rattle.ac_tree.specs.Blocks.{block}
use Rattle.ac_tree.specs.Patterns.{Negative, Plus, Minus, Times, OneIndex, TwoIndexes, Negation, Conjunction, Disjunction}
use Rattle.ac_flow.specs.Opened.{hidden, expr_shape, expr_child, cond_shape, cond_child}

pub data Task : Type 0 where
  -- the program begins
  Begin : Task
  -- before a statement
  Do : Stmt → Task
  -- behind a statement
  Behind : NodeId → Task
  -- where a loop is entered, with its test, which a `for` has not, and its body
  Enter : NodeId → Option Cond → List Stmt → Task
  -- before a test of a loop
  Test : NodeId → Option Cond → List Stmt → Task
  -- behind a turn of a loop
  Turn : NodeId → Option Cond → List Stmt → Task
  -- behind the last test of a loop
  Exit : NodeId → Task
  -- before the test of a statement, or the left operand of an `and` or `or`
  Judge : Cond → Task
  -- before what such a condition has inside
  Decide : CondKind → Task
  -- at an access: a read, a write or a use
  See : NodeId → Task

abbrev pub Point : Type 0
Point = List Task

-- the reads in an expression, in the order in which they are made
abbrev mutual
  unfolding hidden expr_shape expr_child

  pub reads_of : Node → ExprKind → List NodeId
  reads_of n (Num k) = []
  reads_of n (Get x) = n.id ∷ []
  reads_of n (Read x i) = index_reads i ++ n.id ∷ []
  reads_of n (Negative m a) = reads_of m a
  reads_of n (Plus k a m b) = reads_of k a ++ reads_of m b
  reads_of n (Minus k a m b) = reads_of k a ++ reads_of m b
  reads_of n (Times k a m b) = reads_of k a ++ reads_of m b

  pub index_reads : Index → List NodeId
  index_reads (OneIndex n a) = reads_of n a
  index_reads (TwoIndexes n a m b) = reads_of n a ++ reads_of m b

-- What there is to do in place of a task: one list for each way on.

abbrev pub ways_through : CondKind → List Point
unfolding hidden cond_shape cond_child
ways_through True = [] ∷ []
ways_through False = [] ∷ []
ways_through (Rel op a b) = map See (reads_of a.node a.kind ++ reads_of b.node b.kind) ∷ []
ways_through (Negation n c) = (Decide c ∷ []) ∷ []
ways_through (Conjunction n c m d) = (Judge (record { node = n; kind = c }) ∷ []) ∷ (Judge (record { node = n; kind = c }) ∷ Decide d ∷ []) ∷ []
ways_through (Disjunction n c m d) = (Judge (record { node = n; kind = c }) ∷ []) ∷ (Judge (record { node = n; kind = c }) ∷ Decide d ∷ []) ∷ []

abbrev pub ways_of : NodeId → StmtKind → List Point
ways_of n (Set x e) = (map See (reads_of e.node e.kind) ++ See n ∷ Behind n ∷ []) ∷ []
ways_of n (Put x i e) = (map See (index_reads i ++ reads_of e.node e.kind) ++ See n ∷ Behind n ∷ []) ∷ []
ways_of n (If' test _ yes_ _ no_) = (Judge test ∷ map Do (block yes_) ++ Behind n ∷ []) ∷ (Judge test ∷ map Do (block no_) ++ Behind n ∷ []) ∷ []
ways_of n (For' x lo hi _ body) = (map See (reads_of lo.node lo.kind ++ reads_of hi.node hi.kind) ++ Enter n None (block body) ∷ []) ∷ []
ways_of n (While' test _ body) = (Enter n (Some test) (block body) ∷ []) ∷ []
ways_of n (Hand x role) = (See n ∷ Behind n ∷ []) ∷ []
ways_of n Skip = (Behind n ∷ []) ∷ []

-- the test of a `while`; a `for` compares its variable without an access
abbrev pub judged : Option Cond → Point
judged None = []
judged (Some c) = Judge c ∷ []

abbrev pub ways : Task → List Point
ways Begin = [] ∷ []
ways (Do st) = ways_of st.node.id st.kind
ways (Behind n) = [] ∷ []
ways (Enter n test body) = (Test n test body ∷ []) ∷ []
ways (Test n test body) = (judged test ++ map Do body ++ Turn n test body ∷ []) ∷ (judged test ++ Exit n ∷ []) ∷ []
ways (Turn n test body) = (Test n test body ∷ []) ∷ []
ways (Exit n) = (Behind n ∷ []) ∷ []
ways (Judge c) = (Decide c.kind ∷ []) ∷ []
ways (Decide c) = ways_through c
ways (See n) = [] ∷ []

-- one of these ways, and then the rest
abbrev pub IsOneWay : List Point → Point → Point → Type 0
IsOneWay [] rest q = ⊥
IsOneWay (way ∷ more) rest q = (q ≡ way ++ rest) ⊎ IsOneWay more rest q

-- one step from a point to the next
abbrev pub Next : Point → Point → Type 0
Next [] q = ⊥
Next (t ∷ rest) q = IsOneWay (ways t) rest q

-- where a program begins
abbrev pub beginning : Program → Point
beginning p = Begin ∷ map Do p.body

-- Which points are cuts, and which are targets, where the statements with these numbers have a barrier behind them.
module _ (barrier : ℕ → Bool) where
  abbrev pub cut_of : Task → Option Cut
  cut_of Begin = Some cut.Start
  cut_of (Test n test body) = Some (cut.Head n)
  cut_of (Exit n) = Some (cut.Exit n)
  cut_of (Behind n) = if barrier n.0 then Some (cut.After n) else None
  cut_of (Do st) = None
  cut_of (Enter n test body) = None
  cut_of (Turn n test body) = None
  cut_of (Judge c) = None
  cut_of (Decide c) = None
  cut_of (See n) = None

  abbrev pub target_of : Task → Option Target
  target_of (Enter n test body) = Some (target.Entry n)
  target_of (Turn n test body) = Some (target.Keep n)
  target_of (Behind n) = if barrier n.0 then Some (target.Barrier n) else None
  target_of (See n) = Some (target.Site n)
  target_of Begin = None
  target_of (Do st) = None
  target_of (Test n test body) = None
  target_of (Exit n) = None
  target_of (Judge c) = None
  target_of (Decide c) = None

  abbrev pub cut_at : Point → Option Cut
  cut_at [] = None
  cut_at (t ∷ rest) = cut_of t

  abbrev pub target_at : Point → Option Target
  target_at [] = None
  target_at (t ∷ rest) = target_of t
