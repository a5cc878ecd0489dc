-- The policy init: of a name that is no input, a cell that is read and each cell of a name that is used were written before.
-- The shadow variable of a cell is its mark: 1 where an event of the trace wrote the cell, and 0 elsewhere.
use Rattle.std.specs.Prelude.{Bool, ◌&&◌, if◌then◌else◌, List, [], ◌∷◌, Option, Some, None, ℤ, pos}
use Rattle.std.specs.Ordering.{int_eq}
use Rattle.std.specs.Str.{bytes_eq}
use Rattle.ac_tree.specs.declared.program.Program.{Program}
use Rattle.ac_run.specs.declared.event.Cell.{Cell}
use Rattle.ac_run.specs.declared.event.Event.{Event}
use Rattle.ac_run.specs.declared.event.Event.TheVariants as event
use Rattle.ac_run.specs.Declarations.{NameBytes, is_input}
use Rattle.ac_logic.specs.declared.formula.Change.{Change}
use Rattle.ac_logic.specs.declared.formula.Change.TheVariants as change
use Rattle.ac_logic.specs.declared.formula.Formula.{Formula, Eq}
use Rattle.ac_logic.specs.declared.formula.Sym.TheVariants.{Init}
use Rattle.ac_logic.specs.declared.formula.Term.{Term, Num}
use Rattle.ac_logic.specs.Patterns.{Scalar, Array, PutOf}
use Rattle.ac_policy.specs.declared.extents.ExtentTerms.{ExtentTerms}
use Rattle.ac_policy.specs.declared.extents.ExtentTerms.TheVariants.{NoExtent, OneExtent, TwoExtents}
use Rattle.ac_policy.specs.declared.site.Site.{Site}
use Rattle.ac_policy.specs.declared.site.SiteKind.{SiteKind}
use Rattle.ac_policy.specs.declared.site.SiteKind.TheVariants as kind
use Rattle.ac_policy.specs.Extents.{extent_terms, cell_term, row_index, column_index, for_all_cells}
use Rattle.ac_policy.specs.State.{Shadow}
use Rattle.ac_policy.specs.Opened.{hidden, term_shape, term_child, array_shape, array_child, formula_shape, formula_child}

abbrev pub is_cell : Cell → NameBytes → ℤ → ℤ → Bool
is_cell c x i j = bytes_eq c.name x && (int_eq c.i i && int_eq c.j j)

-- the marks after a trace
abbrev pub marks : List Event → Shadow
marks [] x i j = pos 0
marks (event.Write c n ∷ trace) x i j = if is_cell c x i j then pos 1 else marks trace x i j
marks (event.Read c ∷ trace) x i j = marks trace x i j
marks (event.Hand y role numbers ∷ trace) x i j = marks trace x i j

abbrev pub mark : Term
mark = Num (pos 1)

-- the cell at the indexes is marked
abbrev pub marked_formula : ExtentTerms → NameBytes → Term → Term → Formula
unfolding hidden term_shape term_child formula_shape formula_child
marked_formula extents x i j = Eq (cell_term extents (Init x) i j) mark

-- every cell within the extents is marked
abbrev pub all_marked_formula : ExtentTerms → NameBytes → Formula
all_marked_formula extents x = for_all_cells extents (marked_formula extents x (row_index extents) (column_index extents))

abbrev pub init_need_by_kind : SiteKind → Program → Site → Option Formula
init_need_by_kind kind.Read p s = Some (marked_formula (extent_terms p s.name) s.name s.i s.j)
init_need_by_kind kind.Write p s = None
init_need_by_kind (kind.Hand role) p s = Some (all_marked_formula (extent_terms p s.name) s.name)

-- nothing is to be shown of an input, nor of a write
abbrev pub init_need : Program → Site → Option Formula
init_need p s = if is_input p s.name then None else init_need_by_kind s.kind p s

-- the change that marks the cell at the indexes
abbrev pub marking : ExtentTerms → NameBytes → Term → Term → Change
unfolding hidden term_shape term_child array_shape array_child
marking NoExtent x i j = change.Scalar (Init x) mark
marking (OneExtent e) x i j = change.Array (Init x) (PutOf (Array (Init x)) i j mark)
marking (TwoExtents e f) x i j = change.Array (Init x) (PutOf (Array (Init x)) i j mark)

abbrev pub init_effect_by_kind : SiteKind → Program → Site → List Change
init_effect_by_kind kind.Read p s = []
init_effect_by_kind kind.Write p s = marking (extent_terms p s.name) s.name s.i s.j ∷ []
init_effect_by_kind (kind.Hand role) p s = []

abbrev pub init_effect : Program → Site → List Change
init_effect p s = init_effect_by_kind s.kind p s

-- init(x) = 1
abbrev pub init_known : NameBytes → Option Formula
unfolding hidden term_shape term_child formula_shape formula_child
init_known x = Some (Eq (Scalar (Init x)) mark)
