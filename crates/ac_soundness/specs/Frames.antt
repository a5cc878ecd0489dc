-- What is to come in a run: its tasks, with the marks that they leave out. A frame is a task, or the end of a statement; a loop
-- under way has its own frames.
use mathlib.Core.Former.{Count}
use Rattle.std.specs.Prelude.{◌≡◌, List, [], ◌∷◌, ◌++◌, ℤ}
use Rattle.ac_tree.specs.declared.node.NodeId.{NodeId}
use Rattle.ac_tree.specs.declared.program.Expr.{Expr}
use Rattle.ac_tree.specs.declared.program.Program.{Program}
use Rattle.ac_tree.specs.declared.program.Stmt.{Stmt}
use Rattle.ac_tree.specs.declared.program.StmtKind.{StmtKind, Row_of-Stmt, end_of-Stmt, more_of-Stmt, While'}
use Rattle.ac_run.specs.declared.start.Start.{Start}
use Rattle.ac_run.specs.Declarations.{NameBytes, shape}
use Rattle.ac_run.specs.Run.{Task, Do, Compare, Advance, block}
use Rattle.ac_logic.specs.declared.formula.Formula.{Formula}
use Rattle.ac_policy.specs.State.{IsScalar}
use Rattle.ac_soundness.specs.Ranked.{Assigned, NotIn, Ranked, RankedStmt, RankedBlock, ends_names}

-- a `for` that is under way
pub record Loop : Type 0 where
  pub node : NodeId
  pub name : NameBytes
  pub lo : Expr
  pub hi : Expr
  pub count : Count
  pub body : Row_of-Stmt count

pub data Frame : Type 0 where
  -- a statement
  Statement : Stmt → Frame
  -- a `while` after a turn
  WhileAgain : Stmt → Frame
  -- the end of a statement
  EndOf : NodeId → Frame
  -- the test of a `for`, with the number that its end had
  ForTest : Loop → ℤ → Frame
  -- the end of its body, with the hypotheses and the protected names outside
  ForTurn : Loop → ℤ → List Formula → List NameBytes → Frame

abbrev pub tasks_of : List Frame → List Task
tasks_of [] = []
tasks_of (Statement st ∷ rest) = Do st ∷ tasks_of rest
tasks_of (WhileAgain st ∷ rest) = Do st ∷ tasks_of rest
tasks_of (EndOf n ∷ rest) = tasks_of rest
tasks_of (ForTest l v ∷ rest) = Compare l.name v (block l.body) ∷ tasks_of rest
tasks_of (ForTurn l v hypotheses names ∷ rest) = Advance l.name v (block l.body) ∷ tasks_of rest

-- a block, and then the rest
abbrev pub enter : {k : _} → Row_of-Stmt k → List Frame → List Frame
enter end_of-Stmt rest = rest
enter (more_of-Stmt n st more) rest = Statement (record { node = n; kind = st }) ∷ EndOf n.id ∷ enter more rest

abbrev pub enter_list : List Stmt → List Frame
enter_list [] = []
enter_list (st ∷ rest) = Statement st ∷ EndOf st.node.id ∷ enter_list rest

-- The test of a `for` stands in front alone: between its write and its test no other task is done.
abbrev pub NoTest : List Frame → Type 0
NoTest [] = Unit {0}
NoTest (Statement st ∷ rest) = NoTest rest
NoTest (WhileAgain st ∷ rest) = NoTest rest
NoTest (EndOf n ∷ rest) = NoTest rest
NoTest (ForTest l v ∷ rest) = ⊥
NoTest (ForTurn l v hypotheses names ∷ rest) = NoTest rest

abbrev pub NoTestBehind : List Frame → Type 0
NoTestBehind [] = Unit {0}
NoTestBehind (f ∷ rest) = NoTest rest

abbrev pub IsWhile : StmtKind → Type 0
IsWhile (While' test _ body) = Unit {0}
IsWhile _ = ⊥

module _ (p : Program) (start : Start) where
  abbrev pub RankedLoop : List NameBytes → Loop → Type 0
  RankedLoop names l =
      IsScalar (shape p start l.name) × Ranked p start l.lo.kind × Ranked p start l.hi.kind × Assigned p start l.name × NotIn l.name names × NotIn l.name (ends_names l.lo l.hi)
      × RankedBlock p start (l.name ∷ (ends_names l.lo l.hi ++ names)) l.body

  -- each frame assigns none of the names that are protected around it
  abbrev pub RankedFrames : List NameBytes → List Frame → Type 0
  RankedFrames names [] = Unit {0}
  RankedFrames names (Statement st ∷ rest) = RankedStmt p start names st.kind × RankedFrames names rest
  RankedFrames names (WhileAgain st ∷ rest) = IsWhile st.kind × RankedStmt p start names st.kind × RankedFrames names rest
  RankedFrames names (EndOf n ∷ rest) = RankedFrames names rest
  RankedFrames names (ForTest l v ∷ rest) = RankedLoop names l × RankedFrames names rest
  RankedFrames names (ForTurn l v hypotheses outside ∷ rest) = (names ≡ l.name ∷ (ends_names l.lo l.hi ++ outside)) × RankedLoop outside l × RankedFrames outside rest
