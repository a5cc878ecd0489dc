-- What is measured of a formula, up to the limit on the size of a condition.
use Rattle.std.specs.Prelude.{◌<◌}
use Rattle.ac_tree.specs.declared.limit.LimitKind.TheVariants as kind
use Rattle.ac_tree.specs.Limits.{limit_of}
use Rattle.ac_logic.specs.declared.formula.Formula.{Formula}
use Rattle.ac_logic.specs.Size.{size_of}
use Rattle.ac_profile.specs.declared.measure.Measure.{Measure}
use Rattle.ac_profile.specs.declared.measure.Measure.TheVariants.{TooLarge, Known}
use Rattle.ac_profile.specs.Profile.{IsProfile}

abbrev pub IsMeasure : Measure → Formula → Type 0
IsMeasure TooLarge f = limit_of kind.Size < size_of f
IsMeasure (Known p) f = IsProfile p f
