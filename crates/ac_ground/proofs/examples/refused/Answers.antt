use Rattle.std.proofs.Common.{true, false, refl, sym}
use Rattle.std.proofs.lemmas.Bool.{false≢true}
use Rattle.ac_expand.specs.Ground.{ground_form}
use Rattle.ac_ground.specs.Examples.{both_one, four_alone, one_at_i, one_cell, two_sums, written_cell}
use Rattle.ac_ground.specs.Numbers.{gap}
use Rattle.ac_ground.specs.Opened.{hidden, formula_shape, formula_child, term_shape, term_child, array_shape, array_child}
use Rattle.ac_ground.specs.Sums.{is_in_order, sums_between}
use Rattle.ac_ground.proofs.Falsified.{falsified}
use Rattle.ac_ground.proofs.examples.refused.Goals as goal

pub returns-clause-reads : goal.returns-clause-reads
unfolding is_in_order gap sums_between hidden formula_shape formula_child term_shape term_child array_shape array_child
returns-clause-reads c = λ f. false≢true ((falsified one_at_i (ground_form one_cell) false refl refl).1 f)

pub returns-clause-put : goal.returns-clause-put
unfolding is_in_order gap sums_between hidden formula_shape formula_child term_shape term_child array_shape array_child
returns-clause-put c = λ f. false≢true ((falsified both_one (ground_form written_cell) false refl refl).1 f)

pub returns-clause-sums : goal.returns-clause-sums
unfolding is_in_order gap sums_between hidden formula_shape formula_child term_shape term_child array_shape array_child
returns-clause-sums c = λ f. false≢true ((falsified four_alone (ground_form two_sums) false refl refl).1 f)

pub returns-clause-reads_false : goal.returns-clause-reads_false
unfolding gap hidden formula_shape formula_child term_shape term_child array_shape array_child
returns-clause-reads_false c = refl

pub returns-clause-put_false : goal.returns-clause-put_false
unfolding gap hidden formula_shape formula_child term_shape term_child array_shape array_child
returns-clause-put_false c = refl

pub returns-clause-sums_false : goal.returns-clause-sums_false
unfolding gap hidden formula_shape formula_child term_shape term_child array_shape array_child
returns-clause-sums_false c = refl
