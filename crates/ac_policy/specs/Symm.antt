-- The policy symm: what is used in a listed role is a symmetric matrix. It has no shadow variables.
use Rattle.std.specs.Prelude.{Bool, true, false, List, Option, Some, None}
use Rattle.std.specs.List.{list_any}
use Rattle.std.specs.Str.{bytes_eq}
use Rattle.ac_tree.specs.declared.program.Program.{Program}
use Rattle.ac_run.specs.Declarations.{NameBytes}
use Rattle.ac_logic.specs.declared.formula.Formula.{Formula, False, Eq}
use Rattle.ac_logic.specs.declared.formula.Sym.TheVariants.{Value}
use Rattle.ac_logic.specs.declared.formula.Term.{Bound}
use Rattle.ac_logic.specs.Patterns.{Array, ReadOf, Conjunction}
use Rattle.ac_policy.specs.declared.extents.ExtentTerms.{ExtentTerms}
use Rattle.ac_policy.specs.declared.extents.ExtentTerms.TheVariants.{NoExtent, OneExtent, TwoExtents}
use Rattle.ac_policy.specs.declared.site.Site.{Site}
use Rattle.ac_policy.specs.declared.site.SiteKind.{SiteKind}
use Rattle.ac_policy.specs.declared.site.SiteKind.TheVariants as kind
use Rattle.ac_policy.specs.Extents.{extent_terms, for_all_cells}
use Rattle.ac_policy.specs.Opened.{hidden, term_shape, term_child, array_shape, array_child, formula_shape, formula_child}

abbrev pub is_listed : List NameBytes → NameBytes → Bool
is_listed roles role = list_any (λ r. bytes_eq r role) roles

-- the entry at the indexes is the mirrored one
abbrev pub mirrored_formula : NameBytes → Formula
unfolding hidden term_shape term_child array_shape array_child formula_shape formula_child
mirrored_formula x = Eq (ReadOf (Array (Value x)) (Bound 1) (Bound 0)) (ReadOf (Array (Value x)) (Bound 0) (Bound 1))

-- two extents that are equal, and every entry is the mirrored one
abbrev pub symmetric_formula : ExtentTerms → NameBytes → Formula
unfolding hidden term_shape term_child formula_shape formula_child
symmetric_formula NoExtent x = False
symmetric_formula (OneExtent e) x = False
symmetric_formula (TwoExtents e f) x = Conjunction (Eq e f) (for_all_cells (TwoExtents e f) (mirrored_formula x))

abbrev pub when : Bool → Formula → Option Formula
when true f = Some f
when false f = None

abbrev pub symm_need_by_kind : List NameBytes → SiteKind → Program → Site → Option Formula
symm_need_by_kind roles kind.Read p s = None
symm_need_by_kind roles kind.Write p s = None
symm_need_by_kind roles (kind.Hand role) p s = when (is_listed roles role) (symmetric_formula (extent_terms p s.name) s.name)

abbrev pub symm_need : List NameBytes → Program → Site → Option Formula
symm_need roles p s = symm_need_by_kind roles s.kind p s
