-- Worked examples: a fact on a filled array with a read of its last cell, and an `all` inside an assumed one.
--   @assumed 4 { all _0 { { 0 <= _0 and _0 <= 9 } implies init(a)[_0] = 1 } } implies @use 11 { init(a)[9] = 1 }
--   { all _0 { not { all _1 { p[_0,_1] = 1 } } } } implies x = a[y]
use Rattle.std.specs.Prelude.{ℕ, pos, codes}
use Rattle.ac_logic.specs.declared.label.Label.{Label}
use Rattle.ac_logic.specs.declared.label.LabelKind.{LabelKind}
use Rattle.ac_logic.specs.declared.label.LabelKind.TheVariants as kind
use Rattle.ac_logic.specs.declared.formula.Sym.TheVariants.{Value, Init, Fresh}
use Rattle.ac_logic.specs.declared.formula.Term.{Term, Num, Bound}
use Rattle.ac_logic.specs.declared.formula.Formula.{Formula, Le, Eq}
use Rattle.ac_logic.specs.Patterns.{Scalar, Array, ReadOf, Negation, Conjunction, Implication, Every, Labelled}
use Rattle.ac_expand.specs.Opened.{hidden, formula_shape, formula_child, term_shape, term_child, array_shape, array_child}

abbrev pub number : ℕ → Term
number n = Num (pos n)

abbrev pub label : LabelKind → ℕ → Label
label k n = record { kind = k; node = record { 0 = n } }

abbrev pub in_range : Term → Formula
unfolding hidden formula_shape formula_child
in_range t = Conjunction (Le (number 0) t) (Le t (number 9))

abbrev pub written : Term → Formula
unfolding hidden term_shape term_child array_shape array_child
written t = Eq (ReadOf (Array (Init (codes "a"))) t (number 0)) (number 1)

abbrev pub filled : Formula
unfolding hidden formula_shape formula_child
filled = Implication (Labelled (label kind.Assumed 4) (Every (Implication (in_range (Bound 0)) (written (Bound 0))))) (Labelled (label kind.Need 11) (written (number 9)))

abbrev pub filled_ground : Formula
unfolding hidden formula_shape formula_child
filled_ground = Implication (Labelled (label kind.Assumed 4) (Conjunction (Implication (in_range (number 0)) (written (number 0))) (Implication (in_range (number 9)) (written (number 9))))) (Labelled (label kind.Need 11) (written (number 9)))

abbrev pub y : Term
y = Scalar (Value (codes "y"))

abbrev pub paired : Term → Term → Formula
unfolding hidden term_shape term_child array_shape array_child
paired i j = Eq (ReadOf (Array (Value (codes "p"))) i j) (number 1)

abbrev pub read : Formula
unfolding hidden term_shape term_child array_shape array_child
read = Eq (Scalar (Value (codes "x"))) (ReadOf (Array (Value (codes "a"))) y (number 0))

abbrev pub nested : Formula
unfolding hidden formula_shape formula_child
nested = Implication (Every (Negation (Every (paired (Bound 1) (Bound 0))))) read

abbrev pub nested_ground : Formula
unfolding hidden formula_shape formula_child
nested_ground = Implication (Conjunction (Negation (paired y (Scalar (Fresh 0)))) (Negation (paired (number 0) (Scalar (Fresh 1))))) read
