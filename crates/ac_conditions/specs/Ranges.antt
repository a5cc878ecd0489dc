-- The hypotheses on inputs: the numbers of each lie in its declared range.
use Rattle.std.specs.Prelude.{List, [], ◌∷◌, ◌++◌, ℤ}
use Rattle.ac_tree.specs.declared.program.Item.{Item}
use Rattle.ac_tree.specs.declared.program.ItemKind.{ItemKind}
use Rattle.ac_tree.specs.declared.program.ItemKind.TheVariants.{Const, InputScalar, InputArray, VarScalar, VarArray}
use Rattle.ac_tree.specs.declared.program.Program.{Program}
use Rattle.ac_run.specs.Declarations.{NameBytes}
use Rattle.ac_logic.specs.declared.formula.Formula.{Formula, Le}
use Rattle.ac_logic.specs.declared.formula.Sym.TheVariants.{Value}
use Rattle.ac_logic.specs.declared.formula.Term.{Term, Num}
use Rattle.ac_logic.specs.declared.label.LabelKind.TheVariants as label
use Rattle.ac_logic.specs.Patterns.{Conjunction}
use Rattle.ac_policy.specs.declared.extents.ExtentTerms.{ExtentTerms}
use Rattle.ac_policy.specs.declared.extents.ExtentTerms.TheVariants.{NoExtent}
use Rattle.ac_policy.specs.Extents.{cell_term, row_index, column_index, for_all_cells, terms_of_extents}
use Rattle.ac_conditions.specs.Opened.{hidden, formula_shape, formula_child}
use Rattle.ac_conditions.specs.Tests.{labelled}

-- lo <= t and t <= hi
abbrev pub between : ℤ → Term → ℤ → Formula
unfolding hidden formula_shape formula_child
between lo t hi = Conjunction (Le (Num lo) t) (Le t (Num hi))

-- every cell of a name has a number between these
abbrev pub cells_between : ExtentTerms → NameBytes → ℤ → ℤ → Formula
cells_between extents x lo hi = for_all_cells extents (between lo (cell_term extents (Value x) (row_index extents) (column_index extents)) hi)

abbrev pub item_ranges : Program → NameBytes → ItemKind → List Formula
item_ranges p x (InputScalar lo hi) = cells_between NoExtent x lo hi ∷ []
item_ranges p x (InputArray extents lo hi) = cells_between (terms_of_extents p extents) x lo hi ∷ []
item_ranges p x (Const value) = []
item_ranges p x VarScalar = []
item_ranges p x (VarArray extents) = []

abbrev pub labelled_ranges : Program → Item → List Formula → List Formula
labelled_ranges p d [] = []
labelled_ranges p d (f ∷ fs) = labelled label.Range d.node.id f ∷ labelled_ranges p d fs

-- one for each input, in the order of the declarations
abbrev pub ranges : Program → List Item → List Formula
ranges p [] = []
ranges p (d ∷ ds) = labelled_ranges p d (item_ranges p d.name d.kind) ++ ranges p ds
