use Rattle.std.proofs.Common.{true, refl}
use Rattle.ac_expand.specs.Ground.{ground_form}
use Rattle.ac_ground.specs.Examples.{no_entry, no_square, read_before_test, write_outside}
use Rattle.ac_ground.specs.Numbers.{gap}
use Rattle.ac_ground.specs.Opened.{hidden, formula_shape, formula_child, term_shape, term_child, array_shape, array_child}
use Rattle.ac_ground.specs.Sums.{is_in_order, sums_between}
use Rattle.ac_ground.proofs.Falsified.{falsified}
use Rattle.ac_ground.proofs.examples.without_entries.Goals as goal

pub returns-clause-write_outside : goal.returns-clause-write_outside
unfolding is_in_order gap sums_between hidden formula_shape formula_child term_shape term_child array_shape array_child
returns-clause-write_outside c = (falsified no_entry (ground_form write_outside) true refl refl).0 refl

pub returns-clause-no_square : goal.returns-clause-no_square
unfolding is_in_order gap sums_between hidden formula_shape formula_child term_shape term_child array_shape array_child
returns-clause-no_square c = (falsified no_entry (ground_form no_square) true refl refl).0 refl

pub returns-clause-read_before_test : goal.returns-clause-read_before_test
unfolding is_in_order gap sums_between hidden formula_shape formula_child term_shape term_child array_shape array_child
returns-clause-read_before_test c = (falsified no_entry (ground_form read_before_test) true refl refl).0 refl

pub returns-clause-write_inside : goal.returns-clause-write_inside
unfolding gap hidden formula_shape formula_child term_shape term_child array_shape array_child
returns-clause-write_inside c = refl
