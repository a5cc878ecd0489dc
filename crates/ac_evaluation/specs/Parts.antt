-- What the parts of the code give: a number that is made, a comparison, an entry that is looked at. No promise rests on this
-- file.
use Rattle.std.specs.Prelude.{◌≡◌, Bool, true, ◌&&◌, IsTrue, ℤ, int_le, FitsSigned, All, length, Option, Some, Result, Ok, Err}
use Rattle.std.specs.Int.{w128}
use Rattle.ac_tree.specs.declared.program.Item.{Item}
use Rattle.ac_tree.specs.declared.program.ItemKind.{ItemKind}
use Rattle.ac_tree.specs.declared.program.ItemKind.TheVariants.{InputScalar, InputArray}
use Rattle.ac_tree.specs.declared.program.RelOp.{RelOp}
use Rattle.ac_run.specs.declared.start.StartCell.{StartCell}
use Rattle.ac_run.specs.Declarations.{Shape}
use Rattle.ac_run.specs.Evaluation.{Reading, pure, ◌>>=◌, related}
use Rattle.ac_run.specs.Start.{count}
use Rattle.ac_evaluation.specs.declared.stop.Stop.{Stop}
use Rattle.ac_evaluation.specs.declared.stop.Stop.TheVariants.{Wide}

-- the number, if 128 bits hold it
abbrev pub Makes : ℤ → Result ℤ Stop → Type 0
Makes n (Ok made) = (made ≡ n) × FitsSigned w128 n
Makes n (Err Wide) = ¬ FitsSigned w128 n
Makes n (Err _) = ⊥

abbrev pub comparison : RelOp → Reading ℤ → Reading ℤ → Reading Bool
comparison op r s = do
  x ← r
  y ← s
  pure (related op x y)

abbrev pub is_in_range : ItemKind → ℤ → Bool
is_in_range (InputScalar lo hi) n = int_le lo n && int_le n hi
is_in_range (InputArray extents lo hi) n = int_le lo n && int_le n hi
is_in_range _ n = true

-- an entry with its name, the count of its shape and numbers in their range
abbrev pub FitsAs : Item → Option Shape → Option StartCell → Type 0
FitsAs d (Some shape) (Some c) = (c.name ≡ d.name) × (length c.numbers ≡ count shape) × All (λ n. IsTrue (is_in_range d.kind n)) c.numbers
FitsAs d _ _ = ⊥
