-- The first entry of a start that doesn't fit.
use Rattle.std.specs.Prelude.{◌≡◌, ℕ, List, [], ◌∷◌, ◌++◌, length, filter}
use Rattle.std.specs.List.{AllZip}
use Rattle.ac_tree.specs.declared.program.Program.{Program}
use Rattle.ac_tree.specs.declared.program.Item.{Item}
use Rattle.ac_run.specs.declared.start.Start.{Start}
use Rattle.ac_run.specs.declared.start.StartCell.{StartCell}
use Rattle.ac_run.specs.Start.{is_held, FitsItem}

-- the declarations that a start has numbers for
abbrev pub held_of : List Item → List Item
held_of items = filter (λ d. is_held d.kind) items

module _ (p : Program) (start : Start) where
  -- both have ended, or both go on and the next entry fits
  abbrev pub FitsNext : List Item → List StartCell → Type 0
  FitsNext [] [] = Unit {0}
  FitsNext (d ∷ ds) (c ∷ cs) = FitsItem p start d c
  FitsNext _ _ = ⊥

  -- So many entries fit, and what stands behind them is wrong, missing or too many.
  pub record IsFirstMisfit (n : ℕ) : Type 0 where
    pub before : List Item
    pub after : List Item
    pub fitting : List StartCell
    pub rest : List StartCell
    pub declared : held_of p.items ≡ before ++ after
    pub given : start.cells ≡ fitting ++ rest
    pub place : length fitting ≡ n
    pub fit : AllZip (FitsItem p start) before fitting
    pub misfit : ¬ FitsNext after rest
