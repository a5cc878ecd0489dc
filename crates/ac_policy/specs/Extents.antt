-- The extents of a name as terms, and formulas on the cells within them.
use Rattle.std.specs.Prelude.{Option, Some, None, pos}
use Rattle.ac_tree.specs.declared.program.Extent.{Extent}
use Rattle.ac_tree.specs.declared.program.Extent.TheVariants.{Lit, Named}
use Rattle.ac_tree.specs.declared.program.Extents.{Extents}
use Rattle.ac_tree.specs.declared.program.Extents.TheVariants.{One, Two}
use Rattle.ac_tree.specs.declared.program.ItemKind.{ItemKind}
use Rattle.ac_tree.specs.declared.program.ItemKind.TheVariants.{InputArray, VarArray}
use Rattle.ac_tree.specs.declared.program.Program.{Program}
use Rattle.ac_run.specs.Declarations.{NameBytes, kind_of}
use Rattle.ac_logic.specs.declared.formula.Formula.{Formula, Le}
use Rattle.ac_logic.specs.declared.formula.Sym.{Sym}
use Rattle.ac_logic.specs.declared.formula.Term.{Term, Num, Bound}
use Rattle.ac_logic.specs.Patterns.{Scalar, Array, ReadOf, Sum, Conjunction, Implication, Every}
use Rattle.ac_policy.specs.declared.extents.ExtentTerms.{ExtentTerms}
use Rattle.ac_policy.specs.declared.extents.ExtentTerms.TheVariants.{NoExtent, OneExtent, TwoExtents}
use Rattle.ac_policy.specs.Terms.{zero_term, literal_term, scalar_term}
use Rattle.ac_policy.specs.Opened.{hidden, term_shape, term_child, array_shape, array_child, formula_shape, formula_child}

module _ (p : Program) where
  abbrev pub extent_term : Extent → Term
  extent_term (Lit n) = literal_term n
  extent_term (Named x) = scalar_term p x

  abbrev pub terms_of_extents : Extents → ExtentTerms
  terms_of_extents (One e) = OneExtent (extent_term e)
  terms_of_extents (Two e f) = TwoExtents (extent_term e) (extent_term f)

  abbrev pub extent_terms_in : Option ItemKind → ExtentTerms
  extent_terms_in (Some (InputArray extents lo hi)) = terms_of_extents extents
  extent_terms_in (Some (VarArray extents)) = terms_of_extents extents
  extent_terms_in _ = NoExtent

  abbrev pub extent_terms : NameBytes → ExtentTerms
  extent_terms x = extent_terms_in (kind_of p x)

-- 0 <= i and i + 1 <= e
abbrev pub index_within : Term → Term → Formula
unfolding hidden term_shape term_child formula_shape formula_child
index_within i e = Conjunction (Le (Num (pos 0)) i) (Le (Sum i (Num (pos 1))) e)

-- both indexes are within the extents; a scalar has none
abbrev pub indexes_within : ExtentTerms → Term → Term → Option Formula
unfolding hidden term_shape term_child formula_shape formula_child
indexes_within NoExtent i j = None
indexes_within (OneExtent e) i j = Some (index_within i e)
indexes_within (TwoExtents e f) i j = Some (Conjunction (index_within i e) (index_within j f))

-- The value of a symbol at a cell: that of a scalar, or that at the indexes.
abbrev pub cell_term : ExtentTerms → Sym → Term → Term → Term
unfolding hidden term_shape term_child array_shape array_child
cell_term NoExtent x i j = Scalar x
cell_term (OneExtent e) x i j = ReadOf (Array x) i j
cell_term (TwoExtents e f) x i j = ReadOf (Array x) i j

-- the indexes of every cell: the rows are bound first
abbrev pub row_index : ExtentTerms → Term
row_index NoExtent = zero_term
row_index (OneExtent e) = Bound 0
row_index (TwoExtents e f) = Bound 1

abbrev pub column_index : ExtentTerms → Term
column_index NoExtent = zero_term
column_index (OneExtent e) = zero_term
column_index (TwoExtents e f) = Bound 0

-- a formula that speaks of the cell at these indexes holds for every cell within the extents
abbrev pub for_all_cells : ExtentTerms → Formula → Formula
unfolding hidden term_shape term_child formula_shape formula_child
for_all_cells NoExtent f = f
for_all_cells (OneExtent e) f = Every (Implication (index_within (Bound 0) e) f)
for_all_cells (TwoExtents e g) f = Every (Every (Implication (Conjunction (index_within (Bound 1) e) (index_within (Bound 0) g)) f))
