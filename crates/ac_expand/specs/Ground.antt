-- The ground form of a formula: no `all` is left. A shown `all` is opened at a new name, an assumed one at every index term.
use Rattle.std.specs.Prelude.{ℕ, ◌+◌, List, [], ◌∷◌, fold, get_or, Bool, true, false, not, if◌then◌else◌}
use Rattle.ac_logic.specs.declared.formula.Sym.TheVariants.{Fresh}
use Rattle.ac_logic.specs.declared.formula.Term.{Term, Num, Bound}
use Rattle.ac_logic.specs.declared.formula.ArrayTerm.{ArrayTerm}
use Rattle.ac_logic.specs.declared.formula.Formula.{Formula, True, False, Le, Eq}
use Rattle.ac_logic.specs.Patterns.{Scalar, Array, ReadOf, Sum, Difference, Product, Negative, PutOf, Negation, Conjunction, Disjunction, Implication, Every, Labelled}
use Rattle.ac_expand.specs.declared.names.Names.{Names}
use Rattle.ac_expand.specs.Index.{index_terms, shown_count}
use Rattle.ac_expand.specs.Opened.{hidden, formula_shape, formula_child, term_shape, term_child, array_shape, array_child}

-- a term with terms in place of its bound names, the innermost first
abbrev mutual
  unfolding hidden term_shape term_child array_shape array_child

  pub with_terms : List Term → Term → Term
  with_terms e (Num n) = Num n
  with_terms e (Scalar s) = Scalar s
  with_terms e (Bound k) = get_or e k (Bound k)
  with_terms e (ReadOf a i j) = ReadOf (array_with_terms e a) (with_terms e i) (with_terms e j)
  with_terms e (Sum s t) = Sum (with_terms e s) (with_terms e t)
  with_terms e (Difference s t) = Difference (with_terms e s) (with_terms e t)
  with_terms e (Product s t) = Product (with_terms e s) (with_terms e t)
  with_terms e (Negative t) = Negative (with_terms e t)

  pub array_with_terms : List Term → ArrayTerm → ArrayTerm
  array_with_terms e (Array s) = Array s
  array_with_terms e (PutOf a i j v) = PutOf (array_with_terms e a) (with_terms e i) (with_terms e j) (with_terms e v)

-- The new names are numbered in preorder of the ground form. Those of the `all` that stand in no assumed one come first, so
-- there are two next names: outside every assumed `all`, and inside one.
abbrev pub next_name : Bool → Names → ℕ
next_name inside n = if inside then n.inner else n.outer

abbrev pub named : Bool → Names → Names
named inside n = if inside then record n { inner = n.inner + 1 } else record n { outer = n.outer + 1 }

-- a formula and the next names behind it
abbrev pub Made : Type 0
Made = Formula × Names

abbrev pub one : (Formula → Formula) → Made → Made
one join f = (join f.0, f.1)

abbrev pub two : (Formula → Formula → Formula) → Made → (Names → Made) → Made
two join f g = (join f.0 (g f.1).0, (g f.1).1)

-- what is made of each term, one after the other
abbrev pub each : (Term → Names → Made) → List Term → Names → List Formula × Names
each make [] n = ([], n)
each make (t ∷ ts) n = ((make t n).0 ∷ (each make ts (make t n).1).0, (each make ts (make t n).1).1)

-- formulas joined by `and`, to the left
abbrev pub joined_to : Formula → List Formula → Formula
unfolding hidden formula_shape formula_child
joined_to f gs = fold (λ a b. Conjunction a b) f gs

abbrev pub joined : List Formula → Formula
joined [] = True
joined (f ∷ fs) = joined_to f fs

-- The ground form over the index terms ts, where `shown` says whether the formula is shown, `inside` whether it stands in an
-- assumed `all`, and e has the terms of its bound names, the innermost first.
abbrev pub made : List Term → Bool → Bool → List Term → Formula → Names → Made
unfolding hidden formula_shape formula_child
made ts shown inside e True n = (True, n)
made ts shown inside e False n = (False, n)
made ts shown inside e (Le s t) n = (Le (with_terms e s) (with_terms e t), n)
made ts shown inside e (Eq s t) n = (Eq (with_terms e s) (with_terms e t), n)
made ts shown inside e (Negation f) n = one (λ a. Negation a) (made ts (not shown) inside e f n)
made ts shown inside e (Conjunction f g) n = two (λ a b. Conjunction a b) (made ts shown inside e f n) (made ts shown inside e g)
made ts shown inside e (Disjunction f g) n = two (λ a b. Disjunction a b) (made ts shown inside e f n) (made ts shown inside e g)
made ts shown inside e (Implication f g) n = two (λ a b. Implication a b) (made ts (not shown) inside e f n) (made ts shown inside e g)
made ts shown inside e (Every f) n = if shown then made ts true inside (Scalar (Fresh (next_name inside n)) ∷ e) f (named inside n) else (joined (each (λ t. made ts false true (t ∷ e) f) ts n).0, (each (λ t. made ts false true (t ∷ e) f) ts n).1)
made ts shown inside e (Labelled l f) n = one (λ a. Labelled l a) (made ts shown inside e f n)

abbrev pub ground_form : Formula → Formula
ground_form f = (made (index_terms f) true false [] f (record { outer = 0; inner = shown_count true f })).0
