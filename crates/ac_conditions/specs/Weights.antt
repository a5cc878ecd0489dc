-- The size and the depth that a formula gets when its symbols get theirs.
use Rattle.std.specs.Prelude.{ℕ, ◌+◌, List}
use Rattle.ac_logic.specs.declared.formula.Sym.{Sym}
use Rattle.ac_logic.specs.declared.formula.Change.{Change}
use Rattle.ac_logic.specs.declared.formula.Term.{Term, Num, Bound}
use Rattle.ac_logic.specs.declared.formula.ArrayTerm.{ArrayTerm}
use Rattle.ac_logic.specs.declared.formula.Formula.{Formula, True, False, Le, Eq}
use Rattle.ac_logic.specs.Patterns.{Scalar, Array, ReadOf, Sum, Difference, Product, Negative, PutOf, Negation, Conjunction, Disjunction, Implication, Every, Labelled}
use Rattle.ac_logic.specs.Substitution.{scalar_after, array_symbol_after}
use Rattle.ac_conditions.specs.Opened.{hidden, formula_shape, formula_child, term_shape, term_child, array_shape, array_child}

-- what a scalar symbol and an array symbol count
pub record Weights : Type 0 where
  pub scalar : Sym → ℕ
  pub array : Sym → ℕ

abbrev pub ones : Weights
ones = record { scalar = λ s. 1; array = λ s. 1 }

-- how the parts of a node are put together: by their sum for the size, by the larger for the depth
module _ (join : ℕ → ℕ → ℕ) where
  abbrev mutual
    unfolding hidden term_shape term_child array_shape array_child

    pub term_weight : Weights → Term → ℕ
    term_weight u (Num n) = 1
    term_weight u (Scalar s) = u.scalar s
    term_weight u (Bound k) = 1
    term_weight u (ReadOf a i j) = join (join (array_weight u a) (term_weight u i)) (term_weight u j) + 1
    term_weight u (Sum s t) = join (term_weight u s) (term_weight u t) + 1
    term_weight u (Difference s t) = join (term_weight u s) (term_weight u t) + 1
    term_weight u (Product s t) = join (term_weight u s) (term_weight u t) + 1
    term_weight u (Negative t) = term_weight u t + 1

    pub array_weight : Weights → ArrayTerm → ℕ
    array_weight u (Array s) = u.array s
    array_weight u (PutOf a i j v) = join (join (join (array_weight u a) (term_weight u i)) (term_weight u j)) (term_weight u v) + 1

  abbrev pub weight : Weights → Formula → ℕ
  unfolding hidden formula_shape formula_child term_shape term_child array_shape array_child
  weight u True = 1
  weight u False = 1
  weight u (Le s t) = join (term_weight u s) (term_weight u t) + 1
  weight u (Eq s t) = join (term_weight u s) (term_weight u t) + 1
  weight u (Negation f) = weight u f + 1
  weight u (Conjunction f g) = join (weight u f) (weight u g) + 1
  weight u (Disjunction f g) = join (weight u f) (weight u g) + 1
  weight u (Implication f g) = join (weight u f) (weight u g) + 1
  weight u (Every f) = weight u f + 1
  weight u (Labelled l f) = weight u f + 1

  -- the weights of what stands for the symbols after changes
  abbrev pub after : Weights → List Change → Weights
  after u cs = record { scalar = λ s. term_weight u (scalar_after cs s); array = λ s. array_weight u (array_symbol_after cs s) }
