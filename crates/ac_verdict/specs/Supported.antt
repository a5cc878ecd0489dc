-- Which programs have a verdict: those of at most 1,000 statements, each a write of a literal at a literal index of an
-- array with one literal extent.
use Rattle.std.specs.Prelude.{◌≡◌, ℕ, ◌≤◌, Bool, false, ◌&&◌, List, ◌∷◌, ◌++◌, length, All, IsTrue, is_some, Option, Some, None}
use Rattle.ac_tree.specs.declared.node.NodeId.{NodeId}
use Rattle.ac_tree.specs.declared.program.Program.{Program}
use Rattle.ac_tree.specs.declared.program.ItemKind.{ItemKind}
use Rattle.ac_tree.specs.declared.program.ItemKind.TheVariants.{VarArray}
use Rattle.ac_tree.specs.declared.program.Extents.TheVariants.{One}
use Rattle.ac_tree.specs.declared.program.Extent.TheVariants.{Lit}
use Rattle.ac_tree.specs.declared.program.ExprKind.TheVariants.{Num}
use Rattle.ac_tree.specs.declared.program.Stmt.{Stmt}
use Rattle.ac_tree.specs.declared.program.StmtKind.{StmtKind, Put}
use Rattle.ac_tree.specs.Patterns.{OneIndex}
use Rattle.ac_run.specs.Declarations.{kind_of}
use Rattle.ac_run.specs.StraightWrites.{is_literal}
use Rattle.ac_verdict.specs.Opened.{hidden, expr_shape, expr_child}

-- the extent of an array that has one, a literal
abbrev pub literal_extent : Option ItemKind → Option ℕ
literal_extent (Some (VarArray (One (Lit n)))) = Some n
literal_extent _ = None

-- a literal is written at a literal index of such an array
abbrev pub is_straight : Program → StmtKind → Bool
unfolding hidden expr_shape expr_child
is_straight p (Put x (OneIndex n (Num i)) value) = is_literal value.kind && is_some (literal_extent (kind_of p x))
is_straight p _ = false

abbrev pub AreStraight : Program → List Stmt → Type 0
AreStraight p body = All (λ st. IsTrue (is_straight p st.kind)) body

pub record IsSupported (p : Program) : Type 0 where
  pub straight : AreStraight p p.body
  pub few : length p.body ≤ 1000

-- the first statement that has no verdict: the first of another form, or the 1,001st
pub record IsFirstUnsupported (p : Program) (node : NodeId) : Type 0 where
  pub before : List Stmt
  pub first : Stmt
  pub after : List Stmt
  pub split : p.body ≡ before ++ first ∷ after
  pub straight : AreStraight p before
  pub few : length before ≤ 1000
  pub last : IsTrue (is_straight p first.kind) → length before ≡ 1000
  pub named : node ≡ first.node.id
