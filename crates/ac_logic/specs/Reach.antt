-- How many enclosing `all` the `Bound`s of a tree reach over: inside so many, none is loose.
-- No promise rests on this file: it says what the code keeps on the way.
use Rattle.std.specs.Prelude.{ℕ, ◌+◌, ◌-◌, max}
use Rattle.ac_logic.specs.declared.formula.Term.{Term, Num, Bound}
use Rattle.ac_logic.specs.declared.formula.ArrayTerm.{ArrayTerm}
use Rattle.ac_logic.specs.declared.formula.Formula.{Formula, True, False, Le, Eq}
use Rattle.ac_logic.specs.Patterns.{Scalar, Array, ReadOf, Sum, Difference, Product, Negative, PutOf, Negation, Conjunction, Disjunction, Implication, Every, Labelled}
use Rattle.ac_logic.specs.Opened.{hidden, formula_shape, formula_child, term_shape, term_child, array_shape, array_child}

abbrev mutual
  unfolding hidden term_shape term_child array_shape array_child

  pub reach_of_term : Term → ℕ
  reach_of_term (Num n) = 0
  reach_of_term (Scalar s) = 0
  reach_of_term (Bound k) = k + 1
  reach_of_term (ReadOf a i j) = max (max (reach_of_array a) (reach_of_term i)) (reach_of_term j)
  reach_of_term (Sum s t) = max (reach_of_term s) (reach_of_term t)
  reach_of_term (Difference s t) = max (reach_of_term s) (reach_of_term t)
  reach_of_term (Product s t) = max (reach_of_term s) (reach_of_term t)
  reach_of_term (Negative t) = reach_of_term t

  pub reach_of_array : ArrayTerm → ℕ
  reach_of_array (Array s) = 0
  reach_of_array (PutOf a i j v) = max (max (max (reach_of_array a) (reach_of_term i)) (reach_of_term j)) (reach_of_term v)

abbrev pub reach_of : Formula → ℕ
unfolding hidden formula_shape formula_child
reach_of True = 0
reach_of False = 0
reach_of (Le s t) = max (reach_of_term s) (reach_of_term t)
reach_of (Eq s t) = max (reach_of_term s) (reach_of_term t)
reach_of (Negation f) = reach_of f
reach_of (Conjunction f g) = max (reach_of f) (reach_of g)
reach_of (Disjunction f g) = max (reach_of f) (reach_of g)
reach_of (Implication f g) = max (reach_of f) (reach_of g)
reach_of (Every f) = reach_of f - 1
reach_of (Labelled l f) = reach_of f
