-- The reads that stand in a ground form, and the cells that its `put`s change.
use Rattle.std.specs.Prelude.{List, [], ◌∷◌, ◌++◌}
use Rattle.ac_logic.specs.declared.formula.Term.{Term, Num, Bound}
use Rattle.ac_logic.specs.declared.formula.ArrayTerm.{ArrayTerm}
use Rattle.ac_logic.specs.declared.formula.Formula.{Formula, True, False, Le, Eq}
use Rattle.ac_logic.specs.Patterns.{Scalar, Array, ReadOf, Sum, Difference, Product, Negative, PutOf, Negation, Conjunction, Disjunction, Implication, Every, Labelled}
use Rattle.ac_ground.specs.declared.cell.Cell.{Cell}
use Rattle.ac_ground.specs.Opened.{hidden, formula_shape, formula_child, term_shape, term_child, array_shape, array_child}

abbrev pub cell : ArrayTerm → Term → Term → Cell
cell a i j = record { array = a; first = i; second = j }

-- the read of a cell as a term
abbrev pub read : Cell → Term
unfolding hidden term_shape term_child array_shape array_child
read c = ReadOf c.array c.first c.second

-- a read, and where its array is a `put` its inner read, and so on
abbrev pub reads_at : ArrayTerm → Term → Term → List Cell
unfolding hidden term_shape term_child array_shape array_child
reads_at (Array s) k l = cell (Array s) k l ∷ []
reads_at (PutOf a i j v) k l = cell (PutOf a i j v) k l ∷ reads_at a k l

abbrev mutual
  unfolding hidden term_shape term_child array_shape array_child

  pub reads_in : Term → List Cell
  reads_in (Num n) = []
  reads_in (Scalar s) = []
  reads_in (Bound k) = []
  reads_in (ReadOf a i j) = reads_at a i j ++ reads_in_array a ++ reads_in i ++ reads_in j
  reads_in (Sum s t) = reads_in s ++ reads_in t
  reads_in (Difference s t) = reads_in s ++ reads_in t
  reads_in (Product s t) = reads_in s ++ reads_in t
  reads_in (Negative t) = reads_in t

  pub reads_in_array : ArrayTerm → List Cell
  reads_in_array (Array s) = []
  reads_in_array (PutOf a i j v) = reads_in_array a ++ reads_in i ++ reads_in j ++ reads_in v

-- the cells that `put`s change: the array within, at the indexes of the `put`
abbrev mutual
  unfolding hidden term_shape term_child array_shape array_child

  pub puts_in : Term → List Cell
  puts_in (Num n) = []
  puts_in (Scalar s) = []
  puts_in (Bound k) = []
  puts_in (ReadOf a i j) = puts_in_array a ++ puts_in i ++ puts_in j
  puts_in (Sum s t) = puts_in s ++ puts_in t
  puts_in (Difference s t) = puts_in s ++ puts_in t
  puts_in (Product s t) = puts_in s ++ puts_in t
  puts_in (Negative t) = puts_in t

  pub puts_in_array : ArrayTerm → List Cell
  puts_in_array (Array s) = []
  puts_in_array (PutOf a i j v) = cell a i j ∷ puts_in_array a ++ puts_in i ++ puts_in j ++ puts_in v

-- what is found on both sides of each comparison
abbrev pub on_sides : {A : Type 0} → (Term → List A) → Formula → List A
unfolding hidden formula_shape formula_child
on_sides found True = []
on_sides found False = []
on_sides found (Le s t) = found s ++ found t
on_sides found (Eq s t) = found s ++ found t
on_sides found (Negation f) = on_sides found f
on_sides found (Conjunction f g) = on_sides found f ++ on_sides found g
on_sides found (Disjunction f g) = on_sides found f ++ on_sides found g
on_sides found (Implication f g) = on_sides found f ++ on_sides found g
on_sides found (Every f) = []
on_sides found (Labelled l f) = on_sides found f

abbrev pub reads : Formula → List Cell
reads g = on_sides reads_in g

-- the cells that are read or changed
abbrev pub accesses : Formula → List Cell
accesses g = reads g ++ on_sides puts_in g
