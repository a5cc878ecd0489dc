use Rattle.std.proofs.Common.{true, refl}
use Rattle.ac_expand.specs.Ground.{ground_form}
use Rattle.ac_ground.specs.Examples.{no_entry, twice}
use Rattle.ac_ground.specs.Numbers.{gap}
use Rattle.ac_ground.specs.Opened.{hidden, formula_shape, formula_child, term_shape, term_child, array_shape, array_child}
use Rattle.ac_ground.specs.Sums.{is_in_order, sums_between}
use Rattle.ac_ground.proofs.Falsified.{falsified}
use Rattle.ac_ground.proofs.examples.a_multiple.Goals as goal

pub returns : goal.returns
unfolding is_in_order gap sums_between hidden formula_shape formula_child term_shape term_child array_shape array_child
returns c = (falsified no_entry (ground_form twice) true refl refl).0 refl
