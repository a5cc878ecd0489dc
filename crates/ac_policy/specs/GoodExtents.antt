-- What a start that fits says of the extents: their numbers are not below 0, and each array has a number for each cell.
-- It serves the proofs of the laws: no promise rests on it.
use Rattle.std.specs.Prelude.{◌≡◌, length, Option, Some, List, slice_index_or, ℤ, pos, ◌≤ℤ◌}
use Rattle.ac_tree.specs.declared.program.Extent.{Extent}
use Rattle.ac_tree.specs.declared.program.Extent.TheVariants.{Lit, Named}
use Rattle.ac_tree.specs.declared.program.Extents.{Extents}
use Rattle.ac_tree.specs.declared.program.Extents.TheVariants.{One, Two}
use Rattle.ac_tree.specs.declared.program.ItemKind.{ItemKind}
use Rattle.ac_tree.specs.declared.program.ItemKind.TheVariants.{Const, InputScalar, InputArray, VarArray}
use Rattle.ac_tree.specs.declared.program.Program.{Program}
use Rattle.ac_run.specs.declared.start.Start.{Start}
use Rattle.ac_run.specs.Declarations.{NameBytes, kind_of, numbers_in, shape}
use Rattle.ac_run.specs.Start.{count}
use Rattle.ac_policy.specs.State.{IsArray}

-- the number that an extent names is not below 0, and it is that of a constant or of a scalar input
abbrev pub IsGoodSize : Option ItemKind → List ℤ → Type 0
IsGoodSize (Some (Const value)) numbers = pos 0 ≤ℤ value
IsGoodSize (Some (InputScalar lo hi)) numbers = pos 0 ≤ℤ slice_index_or numbers 0 (pos 0)
IsGoodSize _ numbers = ⊥

module _ (p : Program) (start : Start) where
  abbrev pub IsGoodExtent : Extent → Type 0
  IsGoodExtent (Lit n) = Unit {0}
  IsGoodExtent (Named x) = IsGoodSize (kind_of p x) (numbers_in start.cells x)

  abbrev pub AreGoodExtents : Extents → Type 0
  AreGoodExtents (One e) = IsGoodExtent e
  AreGoodExtents (Two e f) = IsGoodExtent e × IsGoodExtent f

  abbrev pub HasGoodKind : Option ItemKind → Type 0
  HasGoodKind (Some (InputArray extents lo hi)) = AreGoodExtents extents
  HasGoodKind (Some (VarArray extents)) = AreGoodExtents extents
  HasGoodKind _ = Unit {0}

  -- each extent of each name
  abbrev pub HasGoodExtents : Type 0
  HasGoodExtents = (x : NameBytes) → HasGoodKind (kind_of p x)

  -- each array has a number for each cell
  abbrev pub HasAllCells : Type 0
  HasAllCells = (x : NameBytes) → IsArray (shape p start x) → length (numbers_in start.cells x) ≡ count (shape p start x)

  -- What the fit of a start to an accepted program gives to the laws of a policy.
  pub record HasSizes : Type 0 where
    pub extents : HasGoodExtents
    pub all_cells : HasAllCells
