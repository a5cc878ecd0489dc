-- A tree is closed inside d `all` exactly where its reach is at most d.
use Rattle.std.proofs.Common.{◌≡◌, ◌↔◌, ◌∙◌, ℕ, ◌+◌, ◌-◌, ◌<◌, ◌≤◌, max, arith, refl, ap, sym}
use Rattle.ac_logic.specs.declared.formula.Term.{Term, Num, Bound}
use Rattle.ac_logic.specs.declared.formula.ArrayTerm.{ArrayTerm}
use Rattle.ac_logic.specs.declared.formula.Formula.{Formula, True, False, Le, Eq}
use Rattle.ac_logic.specs.Patterns.{Scalar, Array, ReadOf, Sum, Difference, Product, Negative, PutOf, Negation, Conjunction, Disjunction, Implication, Every, Labelled}
use Rattle.ac_logic.specs.Opened.{hidden, formula_shape, formula_child, term_shape, term_child, array_shape, array_child}
use Rattle.ac_logic.specs.Bounds.{IsTermClosedIn, IsArrayClosedIn, IsClosedIn, IsTermClosed, IsArrayClosed, IsClosed}
use Rattle.ac_logic.specs.Reach.{reach_of_term, reach_of_array, reach_of}

max_at_most : (a b d : ℕ) → a ≤ d → b ≤ d → max a b ≤ d
max_at_most a b d p q = grind arith

first_at_most : (a b d : ℕ) → max a b ≤ d → a ≤ d
first_at_most a b d p = grind arith

second_at_most : (a b d : ℕ) → max a b ≤ d → b ≤ d
second_at_most a b d p = grind arith

mutual
  unfolding hidden term_shape term_child array_shape array_child

  pub term_reach : (d : ℕ) (t : Term) → IsTermClosedIn d t → reach_of_term t ≤ d
  term_reach d (Num n) h = omega arith
  term_reach d (Scalar s) h = omega arith
  term_reach d (Bound k) h = omega arith
  term_reach d (ReadOf a i j) h = max_at_most _ _ d (max_at_most _ _ d (array_reach d a h.0) (term_reach d i h.1)) (term_reach d j h.2)
  term_reach d (Sum s t) h = max_at_most _ _ d (term_reach d s h.0) (term_reach d t h.1)
  term_reach d (Difference s t) h = max_at_most _ _ d (term_reach d s h.0) (term_reach d t h.1)
  term_reach d (Product s t) h = max_at_most _ _ d (term_reach d s h.0) (term_reach d t h.1)
  term_reach d (Negative t) h = term_reach d t h

  pub array_reach : (d : ℕ) (a : ArrayTerm) → IsArrayClosedIn d a → reach_of_array a ≤ d
  array_reach d (Array s) h = omega arith
  array_reach d (PutOf a i j v) h = max_at_most _ _ d (max_at_most _ _ d (max_at_most _ _ d (array_reach d a h.0) (term_reach d i h.1)) (term_reach d j h.2)) (term_reach d v h.3)

mutual
  unfolding hidden term_shape term_child array_shape array_child

  pub term_within : (d : ℕ) (t : Term) → reach_of_term t ≤ d → IsTermClosedIn d t
  term_within d (Num n) h = tt
  term_within d (Scalar s) h = tt
  term_within d (Bound k) h = omega arith
  term_within d (ReadOf a i j) h = (array_within d a (first_at_most _ _ d (first_at_most _ _ d h)), term_within d i (second_at_most _ _ d (first_at_most _ _ d h)), term_within d j (second_at_most _ _ d h))
  term_within d (Sum s t) h = (term_within d s (first_at_most _ _ d h), term_within d t (second_at_most _ _ d h))
  term_within d (Difference s t) h = (term_within d s (first_at_most _ _ d h), term_within d t (second_at_most _ _ d h))
  term_within d (Product s t) h = (term_within d s (first_at_most _ _ d h), term_within d t (second_at_most _ _ d h))
  term_within d (Negative t) h = term_within d t h

  pub array_within : (d : ℕ) (a : ArrayTerm) → reach_of_array a ≤ d → IsArrayClosedIn d a
  array_within d (Array s) h = tt
  array_within d (PutOf a i j v) h = (array_within d a (first_at_most _ _ d (first_at_most _ _ d (first_at_most _ _ d h))), term_within d i (second_at_most _ _ d (first_at_most _ _ d (first_at_most _ _ d h))), term_within d j (second_at_most _ _ d (first_at_most _ _ d h)), term_within d v (second_at_most _ _ d h))

pub formula_reach : (d : ℕ) (f : Formula) → IsClosedIn d f → reach_of f ≤ d
unfolding hidden formula_shape formula_child
formula_reach d True h = omega arith
formula_reach d False h = omega arith
formula_reach d (Le s t) h = max_at_most _ _ d (term_reach d s h.0) (term_reach d t h.1)
formula_reach d (Eq s t) h = max_at_most _ _ d (term_reach d s h.0) (term_reach d t h.1)
formula_reach d (Negation f) h = formula_reach d f h
formula_reach d (Conjunction f g) h = max_at_most _ _ d (formula_reach d f h.0) (formula_reach d g h.1)
formula_reach d (Disjunction f g) h = max_at_most _ _ d (formula_reach d f h.0) (formula_reach d g h.1)
formula_reach d (Implication f g) h = max_at_most _ _ d (formula_reach d f h.0) (formula_reach d g h.1)
formula_reach d (Every f) h = let q : reach_of f ≤ d + 1 = formula_reach (d + 1) f h in omega arith
formula_reach d (Labelled l f) h = formula_reach d f h

pub formula_within : (d : ℕ) (f : Formula) → reach_of f ≤ d → IsClosedIn d f
unfolding hidden formula_shape formula_child
formula_within d True h = tt
formula_within d False h = tt
formula_within d (Le s t) h = (term_within d s (first_at_most _ _ d h), term_within d t (second_at_most _ _ d h))
formula_within d (Eq s t) h = (term_within d s (first_at_most _ _ d h), term_within d t (second_at_most _ _ d h))
formula_within d (Negation f) h = formula_within d f h
formula_within d (Conjunction f g) h = (formula_within d f (first_at_most _ _ d h), formula_within d g (second_at_most _ _ d h))
formula_within d (Disjunction f g) h = (formula_within d f (first_at_most _ _ d h), formula_within d g (second_at_most _ _ d h))
formula_within d (Implication f g) h = (formula_within d f (first_at_most _ _ d h), formula_within d g (second_at_most _ _ d h))
formula_within d (Every f) h = formula_within (d + 1) f (let q : reach_of f - 1 ≤ d = h in omega arith)
formula_within d (Labelled l f) h = formula_within d f h

pub term_closed_at_reach : (t : Term) (n : ℕ) → n ≡ reach_of_term t → (n ≡ 0) ↔ IsTermClosed t
term_closed_at_reach t n e = (λ z. term_within 0 t (omega arith), λ h. let q : reach_of_term t ≤ 0 = term_reach 0 t h in omega arith)

pub closed_at_reach : (f : Formula) (n : ℕ) → n ≡ reach_of f → (n ≡ 0) ↔ IsClosed f
closed_at_reach f n e = (λ z. formula_within 0 f (omega arith), λ h. let q : reach_of f ≤ 0 = formula_reach 0 f h in omega arith)

pub put_reach : (t a a2 : ArrayTerm) (i i2 j j2 v v2 : Term) (ra ri rj rv p q z : ℕ) → t ≡ PutOf a i j v → a2 ≡ a → i2 ≡ i → j2 ≡ j → v2 ≡ v → ra ≡ reach_of_array a2 → ri ≡ reach_of_term i2 → rj ≡ reach_of_term j2 → rv ≡ reach_of_term v2 → p ≡ max ra ri → q ≡ max p rj → z ≡ max q rv → z ≡ reach_of_array t
unfolding hidden term_shape term_child array_shape array_child
put_reach t a a2 i i2 j j2 v v2 ra ri rj rv p q z e ea ei ej ev ha hi hj hv hp hq hz =
    let x1 : ra ≡ reach_of_array a = rw ea at ha in
    let x2 : ri ≡ reach_of_term i = rw ei at hi in
    let x3 : rj ≡ reach_of_term j = rw ej at hj in
    let x4 : rv ≡ reach_of_term v = rw ev at hv in
    let y1 : p ≡ max (reach_of_array a) (reach_of_term i) = hp ∙ λ m. max (x1 m) (x2 m) in
    let y2 : q ≡ max (max (reach_of_array a) (reach_of_term i)) (reach_of_term j) = hq ∙ λ m. max (y1 m) (x3 m) in
    rw e (hz ∙ λ m. max (y2 m) (x4 m))

pub array_closed_at_reach : (a : ArrayTerm) (n : ℕ) → n ≡ reach_of_array a → (n ≡ 0) ↔ IsArrayClosed a
array_closed_at_reach a n e = (λ z. array_within 0 a (omega arith), λ h. let q : reach_of_array a ≤ 0 = array_reach 0 a h in omega arith)
