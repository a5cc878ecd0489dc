-- The policy bounds: every access lies within the extents of its array. It has no shadow variables.
use Rattle.std.specs.Prelude.{Option, None}
use Rattle.ac_tree.specs.declared.program.Program.{Program}
use Rattle.ac_logic.specs.declared.formula.Formula.{Formula}
use Rattle.ac_policy.specs.declared.site.Site.{Site}
use Rattle.ac_policy.specs.declared.site.SiteKind.{SiteKind}
use Rattle.ac_policy.specs.declared.site.SiteKind.TheVariants as kind
use Rattle.ac_policy.specs.Extents.{extent_terms, indexes_within}

abbrev pub bounds_need_by_kind : SiteKind → Program → Site → Option Formula
bounds_need_by_kind kind.Read p s = indexes_within (extent_terms p s.name) s.i s.j
bounds_need_by_kind kind.Write p s = indexes_within (extent_terms p s.name) s.i s.j
bounds_need_by_kind (kind.Hand role) p s = None

abbrev pub bounds_need : Program → Site → Option Formula
bounds_need p s = bounds_need_by_kind s.kind p s
