-- The body of a readable `all` at a new name is readable, and an `all` is where its body at a term is.
use Rattle.std.proofs.Common.{◌≡◌, ℕ, ◌+◌, ◌-◌, ◌<◌, true, false, nat_eq, nat_lt, refl, if◌then◌else◌, arith}
use Rattle.std.proofs.lemmas.Bool.Decides.{nat_tests}
use Rattle.ac_logic.specs.declared.formula.Sym.TheVariants.{Fresh}
use Rattle.ac_logic.specs.declared.formula.Term.{Term, Num, Bound}
use Rattle.ac_logic.specs.declared.formula.ArrayTerm.{ArrayTerm}
use Rattle.ac_logic.specs.declared.formula.Formula.{Formula, True, False, Le, Eq}
use Rattle.ac_logic.specs.declared.formula.Formula.TheVariants.{All}
use Rattle.ac_logic.specs.Patterns.{Scalar, Array, ReadOf, Sum, Difference, Product, Negative, PutOf, Negation, Conjunction, Disjunction, Implication, Every, Labelled}
use Rattle.ac_logic.specs.Bounds.{IsTermClosedIn, IsArrayClosedIn, IsClosedIn}
use Rattle.ac_logic.specs.Opening.{bound_at, term_at, array_at, formula_at, opened}
use Rattle.ac_logic.specs.Readable.{HasGoodNamesInTerm, HasGoodNamesInArray, HasGoodNames, IsReadable}
use Rattle.ac_proof.specs.Opened.{hidden, formula_shape, formula_child, term_shape, term_child, array_shape, array_child}

-- ---- at a new name

module _ (n : ℕ) where
  abbrev name : Term
  name = Scalar (Fresh n)

  bound_closed : (d k : ℕ) → k < d + 1 → IsTermClosedIn d (bound_at d name k)
  unfolding hidden term_shape term_child array_shape array_child
  bound_closed d k h =
      elim (nat_eq k d) as (λ b. nat_eq k d ≡ b → IsTermClosedIn d (if b then name else (if nat_lt d k then Bound (k - 1) else Bound k))) [
        | true ↦ λ r. tt
        | false ↦ λ r. elim (nat_lt d k) as (λ b. nat_lt d k ≡ b → IsTermClosedIn d (if b then Bound (k - 1) else Bound k)) [
          | true ↦ λ s. grind (arith, nat_tests)
          | false ↦ λ s. grind (arith, nat_tests)
        ] refl
      ] refl

  bound_named : (d k : ℕ) → HasGoodNamesInTerm (bound_at d name k)
  unfolding hidden term_shape term_child array_shape array_child
  bound_named d k =
      elim (nat_eq k d) as (λ b. HasGoodNamesInTerm (if b then name else (if nat_lt d k then Bound (k - 1) else Bound k))) [
        | true ↦ tt
        | false ↦ elim (nat_lt d k) as (λ b. HasGoodNamesInTerm (if b then Bound (k - 1) else Bound k)) [ true ↦ tt | false ↦ tt ]
      ]

  mutual
    unfolding hidden term_shape term_child array_shape array_child

    term_closed : (d : ℕ) (u : Term) → IsTermClosedIn (d + 1) u → IsTermClosedIn d (term_at d name u)
    term_closed d (Num m) h = tt
    term_closed d (Scalar s) h = tt
    term_closed d (Bound k) h = bound_closed d k h
    term_closed d (ReadOf a i j) h = (array_closed d a h.0, term_closed d i h.1, term_closed d j h.2)
    term_closed d (Sum u v) h = (term_closed d u h.0, term_closed d v h.1)
    term_closed d (Difference u v) h = (term_closed d u h.0, term_closed d v h.1)
    term_closed d (Product u v) h = (term_closed d u h.0, term_closed d v h.1)
    term_closed d (Negative u) h = term_closed d u h

    array_closed : (d : ℕ) (a : ArrayTerm) → IsArrayClosedIn (d + 1) a → IsArrayClosedIn d (array_at d name a)
    array_closed d (Array s) h = tt
    array_closed d (PutOf a i j v) h = (array_closed d a h.0, term_closed d i h.1, term_closed d j h.2, term_closed d v h.3)

  mutual
    unfolding hidden term_shape term_child array_shape array_child

    term_named : (d : ℕ) (u : Term) → HasGoodNamesInTerm u → HasGoodNamesInTerm (term_at d name u)
    term_named d (Num m) h = tt
    term_named d (Scalar s) h = h
    term_named d (Bound k) h = bound_named d k
    term_named d (ReadOf a i j) h = (array_named d a h.0, term_named d i h.1, term_named d j h.2)
    term_named d (Sum u v) h = (term_named d u h.0, term_named d v h.1)
    term_named d (Difference u v) h = (term_named d u h.0, term_named d v h.1)
    term_named d (Product u v) h = (term_named d u h.0, term_named d v h.1)
    term_named d (Negative u) h = term_named d u h

    array_named : (d : ℕ) (a : ArrayTerm) → HasGoodNamesInArray a → HasGoodNamesInArray (array_at d name a)
    array_named d (Array s) h = h
    array_named d (PutOf a i j v) h = (array_named d a h.0, term_named d i h.1, term_named d j h.2, term_named d v h.3)

  closed_at : (d : ℕ) (f : Formula) → IsClosedIn (d + 1) f → IsClosedIn d (formula_at d name f)
  unfolding hidden formula_shape formula_child
  closed_at d True h = tt
  closed_at d False h = tt
  closed_at d (Le u v) h = (term_closed d u h.0, term_closed d v h.1)
  closed_at d (Eq u v) h = (term_closed d u h.0, term_closed d v h.1)
  closed_at d (Negation f) h = closed_at d f h
  closed_at d (Conjunction f g) h = (closed_at d f h.0, closed_at d g h.1)
  closed_at d (Disjunction f g) h = (closed_at d f h.0, closed_at d g h.1)
  closed_at d (Implication f g) h = (closed_at d f h.0, closed_at d g h.1)
  closed_at d (Every f) h = closed_at (d + 1) f h
  closed_at d (Labelled l f) h = closed_at d f h

  named_at : (d : ℕ) (f : Formula) → HasGoodNames f → HasGoodNames (formula_at d name f)
  unfolding hidden formula_shape formula_child
  named_at d True h = tt
  named_at d False h = tt
  named_at d (Le u v) h = (term_named d u h.0, term_named d v h.1)
  named_at d (Eq u v) h = (term_named d u h.0, term_named d v h.1)
  named_at d (Negation f) h = named_at d f h
  named_at d (Conjunction f g) h = (named_at d f h.0, named_at d g h.1)
  named_at d (Disjunction f g) h = (named_at d f h.0, named_at d g h.1)
  named_at d (Implication f g) h = (named_at d f h.0, named_at d g h.1)
  named_at d (Every f) h = named_at (d + 1) f h
  named_at d (Labelled l f) h = named_at d f h

  pub body_readable : (a : Formula) → IsReadable (All a) → IsReadable (opened name a)
  unfolding hidden formula_shape formula_child
  body_readable a h = (closed_at 0 a h.0, named_at 0 a h.1)

-- ---- from a term back

module _ (t : Term) where
  bound_before : (d k : ℕ) → IsTermClosedIn d (bound_at d t k) → k < d + 1
  unfolding hidden term_shape term_child array_shape array_child
  bound_before d k =
      elim (nat_eq k d) as (λ b. nat_eq k d ≡ b → IsTermClosedIn d (if b then t else (if nat_lt d k then Bound (k - 1) else Bound k)) → k < d + 1) [
        | true ↦ λ r h. grind (arith, nat_tests)
        | false ↦ λ r. elim (nat_lt d k) as (λ b. nat_lt d k ≡ b → IsTermClosedIn d (if b then Bound (k - 1) else Bound k) → k < d + 1) [
          | true ↦ λ s h. let g : k - 1 < d = h in omega arith
          | false ↦ λ s h. let g : k < d = h in omega arith
        ] refl
      ] refl

  mutual
    unfolding hidden term_shape term_child array_shape array_child

    term_closed_before : (d : ℕ) (u : Term) → IsTermClosedIn d (term_at d t u) → IsTermClosedIn (d + 1) u
    term_closed_before d (Num m) h = tt
    term_closed_before d (Scalar s) h = tt
    term_closed_before d (Bound k) h = bound_before d k h
    term_closed_before d (ReadOf a i j) h = (array_closed_before d a h.0, term_closed_before d i h.1, term_closed_before d j h.2)
    term_closed_before d (Sum u v) h = (term_closed_before d u h.0, term_closed_before d v h.1)
    term_closed_before d (Difference u v) h = (term_closed_before d u h.0, term_closed_before d v h.1)
    term_closed_before d (Product u v) h = (term_closed_before d u h.0, term_closed_before d v h.1)
    term_closed_before d (Negative u) h = term_closed_before d u h

    array_closed_before : (d : ℕ) (a : ArrayTerm) → IsArrayClosedIn d (array_at d t a) → IsArrayClosedIn (d + 1) a
    array_closed_before d (Array s) h = tt
    array_closed_before d (PutOf a i j v) h = (array_closed_before d a h.0, term_closed_before d i h.1, term_closed_before d j h.2, term_closed_before d v h.3)

  mutual
    unfolding hidden term_shape term_child array_shape array_child

    term_named_before : (d : ℕ) (u : Term) → HasGoodNamesInTerm (term_at d t u) → HasGoodNamesInTerm u
    term_named_before d (Num m) h = tt
    term_named_before d (Scalar s) h = h
    term_named_before d (Bound k) h = tt
    term_named_before d (ReadOf a i j) h = (array_named_before d a h.0, term_named_before d i h.1, term_named_before d j h.2)
    term_named_before d (Sum u v) h = (term_named_before d u h.0, term_named_before d v h.1)
    term_named_before d (Difference u v) h = (term_named_before d u h.0, term_named_before d v h.1)
    term_named_before d (Product u v) h = (term_named_before d u h.0, term_named_before d v h.1)
    term_named_before d (Negative u) h = term_named_before d u h

    array_named_before : (d : ℕ) (a : ArrayTerm) → HasGoodNamesInArray (array_at d t a) → HasGoodNamesInArray a
    array_named_before d (Array s) h = h
    array_named_before d (PutOf a i j v) h = (array_named_before d a h.0, term_named_before d i h.1, term_named_before d j h.2, term_named_before d v h.3)

  closed_before : (d : ℕ) (f : Formula) → IsClosedIn d (formula_at d t f) → IsClosedIn (d + 1) f
  unfolding hidden formula_shape formula_child
  closed_before d True h = tt
  closed_before d False h = tt
  closed_before d (Le u v) h = (term_closed_before d u h.0, term_closed_before d v h.1)
  closed_before d (Eq u v) h = (term_closed_before d u h.0, term_closed_before d v h.1)
  closed_before d (Negation f) h = closed_before d f h
  closed_before d (Conjunction f g) h = (closed_before d f h.0, closed_before d g h.1)
  closed_before d (Disjunction f g) h = (closed_before d f h.0, closed_before d g h.1)
  closed_before d (Implication f g) h = (closed_before d f h.0, closed_before d g h.1)
  closed_before d (Every f) h = closed_before (d + 1) f h
  closed_before d (Labelled l f) h = closed_before d f h

  named_before : (d : ℕ) (f : Formula) → HasGoodNames (formula_at d t f) → HasGoodNames f
  unfolding hidden formula_shape formula_child
  named_before d True h = tt
  named_before d False h = tt
  named_before d (Le u v) h = (term_named_before d u h.0, term_named_before d v h.1)
  named_before d (Eq u v) h = (term_named_before d u h.0, term_named_before d v h.1)
  named_before d (Negation f) h = named_before d f h
  named_before d (Conjunction f g) h = (named_before d f h.0, named_before d g h.1)
  named_before d (Disjunction f g) h = (named_before d f h.0, named_before d g h.1)
  named_before d (Implication f g) h = (named_before d f h.0, named_before d g h.1)
  named_before d (Every f) h = named_before (d + 1) f h
  named_before d (Labelled l f) h = named_before d f h

  pub every_readable : (a : Formula) → IsReadable (opened t a) → IsReadable (All a)
  unfolding hidden formula_shape formula_child
  every_readable a h = (closed_before 0 a h.0, named_before 0 a h.1)
