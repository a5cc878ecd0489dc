use Rattle.std.proofs.Common.{true, refl}
use Rattle.ac_expand.specs.Ground.{ground_form}
use Rattle.ac_ground.specs.Examples.{set_if_zero, first_written, left_loop, nine_i, one_c, partly_filled}
use Rattle.ac_ground.specs.Numbers.{gap}
use Rattle.ac_ground.specs.Opened.{hidden, formula_shape, formula_child, term_shape, term_child, array_shape, array_child}
use Rattle.ac_ground.specs.Sums.{is_in_order, sums_between}
use Rattle.ac_ground.proofs.Falsified.{falsified}
use Rattle.ac_ground.proofs.examples.with_entries.Goals as goal

pub returns-clause-partly_filled : goal.returns-clause-partly_filled
unfolding is_in_order gap sums_between hidden formula_shape formula_child term_shape term_child array_shape array_child
returns-clause-partly_filled c = (falsified first_written (ground_form partly_filled) true refl refl).0 refl

pub returns-clause-set_if_zero : goal.returns-clause-set_if_zero
unfolding is_in_order gap sums_between hidden formula_shape formula_child term_shape term_child array_shape array_child
returns-clause-set_if_zero c = (falsified one_c (ground_form set_if_zero) true refl refl).0 refl

pub returns-clause-left_loop : goal.returns-clause-left_loop
unfolding is_in_order gap sums_between hidden formula_shape formula_child term_shape term_child array_shape array_child
returns-clause-left_loop c = (falsified nine_i (ground_form left_loop) true refl refl).0 refl
