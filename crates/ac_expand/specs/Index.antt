-- The index terms of a formula: the terms at which each assumed `all` is opened.
use Rattle.std.specs.Prelude.{ℕ, zero, suc, ◌+◌, List, [], ◌∷◌, ◌++◌, fold, Bool, true, false, not, ◌&&◌, if◌then◌else◌}
use Rattle.std.specs.List.{list_any}
use Rattle.ac_logic.specs.declared.formula.Sym.TheVariants.{Fresh}
use Rattle.ac_logic.specs.declared.formula.Term.{Term, Num, Bound}
use Rattle.ac_logic.specs.declared.formula.ArrayTerm.{ArrayTerm}
use Rattle.ac_logic.specs.declared.formula.Formula.{Formula, True, False, Le, Eq}
use Rattle.ac_logic.specs.Patterns.{Scalar, Array, ReadOf, Sum, Difference, Product, Negative, PutOf, Negation, Conjunction, Disjunction, Implication, Every, Labelled}
use Rattle.ac_linear.specs.TermEquality.{term_eq}
use Rattle.ac_expand.specs.Opened.{hidden, formula_shape, formula_child, term_shape, term_child, array_shape, array_child}

-- no bound name stands there
abbrev mutual
  unfolding hidden term_shape term_child array_shape array_child

  pub is_ground : Term → Bool
  is_ground (Num n) = true
  is_ground (Scalar s) = true
  is_ground (Bound k) = false
  is_ground (ReadOf a i j) = is_ground_array a && is_ground i && is_ground j
  is_ground (Sum s t) = is_ground s && is_ground t
  is_ground (Difference s t) = is_ground s && is_ground t
  is_ground (Product s t) = is_ground s && is_ground t
  is_ground (Negative t) = is_ground t

  pub is_ground_array : ArrayTerm → Bool
  is_ground_array (Array s) = true
  is_ground_array (PutOf a i j v) = is_ground_array a && is_ground i && is_ground j && is_ground v

-- an index counts where no bound name stands in it
abbrev pub index : Term → List Term
index t = if is_ground t then t ∷ [] else []

-- The indexes of reads and puts in preorder: an array before its indexes, an index before what stands in it.
abbrev mutual
  unfolding hidden term_shape term_child array_shape array_child

  pub indexes_in : Term → List Term
  indexes_in (Num n) = []
  indexes_in (Scalar s) = []
  indexes_in (Bound k) = []
  indexes_in (ReadOf a i j) = indexes_in_array a ++ (index i ++ indexes_in i) ++ (index j ++ indexes_in j)
  indexes_in (Sum s t) = indexes_in s ++ indexes_in t
  indexes_in (Difference s t) = indexes_in s ++ indexes_in t
  indexes_in (Product s t) = indexes_in s ++ indexes_in t
  indexes_in (Negative t) = indexes_in t

  pub indexes_in_array : ArrayTerm → List Term
  indexes_in_array (Array s) = []
  indexes_in_array (PutOf a i j v) = indexes_in_array a ++ (index i ++ indexes_in i) ++ (index j ++ indexes_in j) ++ indexes_in v

abbrev pub indexes : Formula → List Term
unfolding hidden formula_shape formula_child
indexes True = []
indexes False = []
indexes (Le s t) = indexes_in s ++ indexes_in t
indexes (Eq s t) = indexes_in s ++ indexes_in t
indexes (Negation f) = indexes f
indexes (Conjunction f g) = indexes f ++ indexes g
indexes (Disjunction f g) = indexes f ++ indexes g
indexes (Implication f g) = indexes f ++ indexes g
indexes (Every f) = indexes f
indexes (Labelled l f) = indexes f

-- each term once, at its first place
abbrev pub with_term : List Term → Term → List Term
with_term ts t = if list_any (term_eq t) ts then ts else ts ++ t ∷ []

abbrev pub once : List Term → List Term
once ts = fold with_term [] ts

-- How many `all` are shown and stand in no assumed one. `shown` says whether the formula is shown: the left side of an
-- implication and the inside of a negation turn that round.
abbrev pub shown_count : Bool → Formula → ℕ
unfolding hidden formula_shape formula_child
shown_count shown True = 0
shown_count shown False = 0
shown_count shown (Le s t) = 0
shown_count shown (Eq s t) = 0
shown_count shown (Negation f) = shown_count (not shown) f
shown_count shown (Conjunction f g) = shown_count shown f + shown_count shown g
shown_count shown (Disjunction f g) = shown_count shown f + shown_count shown g
shown_count shown (Implication f g) = shown_count (not shown) f + shown_count shown g
shown_count shown (Every f) = if shown then shown_count shown f + 1 else 0
shown_count shown (Labelled l f) = shown_count shown f

-- the first new names: #0, #1 and so on
abbrev pub first_names : ℕ → List Term
first_names zero = []
first_names (suc n) = first_names n ++ Scalar (Fresh n) ∷ []

-- The indexes that stand in the formula, each once, and then the names at which its outer shown `all` are opened.
abbrev pub index_terms : Formula → List Term
index_terms f = once (indexes f) ++ first_names (shown_count true f)
