-- Changes of symbols make no tree smaller, and none less deep.
use Rattle.std.proofs.Common.{ℕ, ◌+◌, ◌≤◌, max, List, arith}
use Rattle.ac_logic.specs.declared.formula.Change.{Change}
use Rattle.ac_logic.specs.declared.formula.Term.{Term, Num, Bound}
use Rattle.ac_logic.specs.declared.formula.ArrayTerm.{ArrayTerm}
use Rattle.ac_logic.specs.declared.formula.Formula.{Formula, True, False, Le, Eq}
use Rattle.ac_logic.specs.Patterns.{Scalar, Array, ReadOf, Sum, Difference, Product, Negative, PutOf, Negation, Conjunction, Disjunction, Implication, Every, Labelled}
use Rattle.ac_logic.specs.Opened.{hidden, formula_shape, formula_child, term_shape, term_child, array_shape, array_child}
use Rattle.ac_logic.specs.Substitution.{scalar_after, array_symbol_after, term_after, array_after, formula_after}
use Rattle.ac_logic.specs.Size.{size_of_term, size_of_array, size_of, depth_of_term, depth_of_array, depth_of}

one_le-size_of_term : (t : Term) → 1 ≤ size_of_term t
unfolding hidden term_shape term_child array_shape array_child
one_le-size_of_term (Num n) = omega arith
one_le-size_of_term (Scalar s) = omega arith
one_le-size_of_term (Bound k) = omega arith
one_le-size_of_term (ReadOf a i j) = omega arith
one_le-size_of_term (Sum s t) = omega arith
one_le-size_of_term (Difference s t) = omega arith
one_le-size_of_term (Product s t) = omega arith
one_le-size_of_term (Negative t) = omega arith

one_le-size_of_array : (a : ArrayTerm) → 1 ≤ size_of_array a
unfolding hidden term_shape term_child array_shape array_child
one_le-size_of_array (Array s) = omega arith
one_le-size_of_array (PutOf a i j v) = omega arith

sum2 : (a b c d : ℕ) → a ≤ b → c ≤ d → a + c + 1 ≤ b + d + 1
sum2 a b c d p q = omega arith

mutual
  unfolding hidden term_shape term_child array_shape array_child

  pub term_size_grows : (cs : List Change) (t : Term) → size_of_term t ≤ size_of_term (term_after cs t)
  term_size_grows cs (Num n) = omega arith
  term_size_grows cs (Scalar s) = one_le-size_of_term (scalar_after cs s)
  term_size_grows cs (Bound k) = omega arith
  term_size_grows cs (ReadOf a i j) = omega (arith, array_size_grows cs a, term_size_grows cs i, term_size_grows cs j)
  term_size_grows cs (Sum s t) = sum2 _ _ _ _ (term_size_grows cs s) (term_size_grows cs t)
  term_size_grows cs (Difference s t) = sum2 _ _ _ _ (term_size_grows cs s) (term_size_grows cs t)
  term_size_grows cs (Product s t) = sum2 _ _ _ _ (term_size_grows cs s) (term_size_grows cs t)
  term_size_grows cs (Negative t) = omega (arith, term_size_grows cs t)

  pub array_size_grows : (cs : List Change) (a : ArrayTerm) → size_of_array a ≤ size_of_array (array_after cs a)
  array_size_grows cs (Array s) = one_le-size_of_array (array_symbol_after cs s)
  array_size_grows cs (PutOf a i j v) = omega (arith, array_size_grows cs a, term_size_grows cs i, term_size_grows cs j, term_size_grows cs v)

pub size_grows : (cs : List Change) (f : Formula) → size_of f ≤ size_of (formula_after cs f)
unfolding hidden formula_shape formula_child
size_grows cs True = omega arith
size_grows cs False = omega arith
size_grows cs (Le s t) = sum2 _ _ _ _ (term_size_grows cs s) (term_size_grows cs t)
size_grows cs (Eq s t) = sum2 _ _ _ _ (term_size_grows cs s) (term_size_grows cs t)
size_grows cs (Negation f) = omega (arith, size_grows cs f)
size_grows cs (Conjunction f g) = sum2 _ _ _ _ (size_grows cs f) (size_grows cs g)
size_grows cs (Disjunction f g) = sum2 _ _ _ _ (size_grows cs f) (size_grows cs g)
size_grows cs (Implication f g) = sum2 _ _ _ _ (size_grows cs f) (size_grows cs g)
size_grows cs (Every f) = omega (arith, size_grows cs f)
size_grows cs (Labelled l f) = omega (arith, size_grows cs f)

one_le-depth_of_term : (t : Term) → 1 ≤ depth_of_term t
unfolding hidden term_shape term_child array_shape array_child
one_le-depth_of_term (Num n) = omega arith
one_le-depth_of_term (Scalar s) = omega arith
one_le-depth_of_term (Bound k) = omega arith
one_le-depth_of_term (ReadOf a i j) = omega arith
one_le-depth_of_term (Sum s t) = omega arith
one_le-depth_of_term (Difference s t) = omega arith
one_le-depth_of_term (Product s t) = omega arith
one_le-depth_of_term (Negative t) = omega arith

one_le-depth_of_array : (a : ArrayTerm) → 1 ≤ depth_of_array a
unfolding hidden term_shape term_child array_shape array_child
one_le-depth_of_array (Array s) = omega arith
one_le-depth_of_array (PutOf a i j v) = omega arith

max2 : (a b c d : ℕ) → a ≤ b → c ≤ d → max a c ≤ max b d
max2 a b c d p q = omega arith

deeper : (a b : ℕ) → a ≤ b → a + 1 ≤ b + 1
deeper a b p = omega arith

mutual
  unfolding hidden term_shape term_child array_shape array_child

  pub term_depth_grows : (cs : List Change) (t : Term) → depth_of_term t ≤ depth_of_term (term_after cs t)
  term_depth_grows cs (Num n) = omega arith
  term_depth_grows cs (Scalar s) = one_le-depth_of_term (scalar_after cs s)
  term_depth_grows cs (Bound k) = omega arith
  term_depth_grows cs (ReadOf a i j) = deeper _ _ (max2 _ _ _ _ (max2 _ _ _ _ (array_depth_grows cs a) (term_depth_grows cs i)) (term_depth_grows cs j))
  term_depth_grows cs (Sum s t) = deeper _ _ (max2 _ _ _ _ (term_depth_grows cs s) (term_depth_grows cs t))
  term_depth_grows cs (Difference s t) = deeper _ _ (max2 _ _ _ _ (term_depth_grows cs s) (term_depth_grows cs t))
  term_depth_grows cs (Product s t) = deeper _ _ (max2 _ _ _ _ (term_depth_grows cs s) (term_depth_grows cs t))
  term_depth_grows cs (Negative t) = deeper _ _ (term_depth_grows cs t)

  pub array_depth_grows : (cs : List Change) (a : ArrayTerm) → depth_of_array a ≤ depth_of_array (array_after cs a)
  array_depth_grows cs (Array s) = one_le-depth_of_array (array_symbol_after cs s)
  array_depth_grows cs (PutOf a i j v) = deeper _ _ (max2 _ _ _ _ (max2 _ _ _ _ (max2 _ _ _ _ (array_depth_grows cs a) (term_depth_grows cs i)) (term_depth_grows cs j)) (term_depth_grows cs v))

pub depth_grows : (cs : List Change) (f : Formula) → depth_of f ≤ depth_of (formula_after cs f)
unfolding hidden formula_shape formula_child
depth_grows cs True = omega arith
depth_grows cs False = omega arith
depth_grows cs (Le s t) = deeper _ _ (max2 _ _ _ _ (term_depth_grows cs s) (term_depth_grows cs t))
depth_grows cs (Eq s t) = deeper _ _ (max2 _ _ _ _ (term_depth_grows cs s) (term_depth_grows cs t))
depth_grows cs (Negation f) = deeper _ _ (depth_grows cs f)
depth_grows cs (Conjunction f g) = deeper _ _ (max2 _ _ _ _ (depth_grows cs f) (depth_grows cs g))
depth_grows cs (Disjunction f g) = deeper _ _ (max2 _ _ _ _ (depth_grows cs f) (depth_grows cs g))
depth_grows cs (Implication f g) = deeper _ _ (max2 _ _ _ _ (depth_grows cs f) (depth_grows cs g))
depth_grows cs (Every f) = deeper _ _ (depth_grows cs f)
depth_grows cs (Labelled l f) = deeper _ _ (depth_grows cs f)
