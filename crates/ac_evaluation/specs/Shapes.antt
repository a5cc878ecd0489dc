-- What the code keeps of a declaration. No promise rests on this file.
use Rattle.std.specs.Prelude.{◌≡◌, Some, List, map}
use Rattle.ac_tree.specs.declared.program.Program.{Program}
use Rattle.ac_tree.specs.declared.program.Item.{Item}
use Rattle.ac_run.specs.declared.start.Start.{Start}
use Rattle.ac_run.specs.declared.start.StartCell.{StartCell}
use Rattle.ac_run.specs.Declarations.{NameBytes, Shape, Scalar, Vector, Matrix, shape_in}
use Rattle.ac_evaluation.specs.declared.shape.Shape.{Shape as Kept}
use Rattle.ac_evaluation.specs.declared.shape.Shape.TheVariants as kept
use Rattle.ac_evaluation.specs.Places.{Entries, ArePlaces}

abbrev pub shape_of : Kept → Shape
shape_of kept.Scalar = Scalar
shape_of (kept.Vector n) = Vector n
shape_of (kept.Matrix n m) = Matrix n m

abbrev pub item_shape : Program → Start → Item → Shape
item_shape p start d = shape_in p start (Some d.kind)

-- the shapes of the declarations, in their order
abbrev pub AreShapes : Program → Start → List Kept → Type 0
AreShapes p start shapes = map shape_of shapes ≡ map (item_shape p start) p.items

abbrev pub item_names : List Item → List NameBytes
item_names items = map (λ d. d.name) items

abbrev pub cell_names : List StartCell → List NameBytes
cell_names cells = map (λ c. c.name) cells

-- What the tables of a store say of its program, start and memory.
pub record IsTabled (p : Program) (start : Start) (kinds : Entries) (shapes : List Kept) (places : Entries) (memory : List StartCell) : Type 0 where
  pub declared : ArePlaces (item_names p.items) kinds
  pub shaped : AreShapes p start shapes
  pub held : ArePlaces (cell_names memory) places
