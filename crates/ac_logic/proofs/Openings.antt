-- The body of an `all` at a term means the body with the term's number for the variable.
use Rattle.std.proofs.Common.{◌≡◌, ℕ, zero, suc, ◌+◌, ◌-◌, ◌<◌, ℤ, pos, ◌+ℤ◌, ◌-ℤ◌, ◌*ℤ◌, neg_ℤ, ◌≤ℤ◌, List, [], ◌∷◌, ◌++◌, length, get_or, true, false, nat_eq, nat_lt, refl, sym, ◌∙◌, ap, if◌then◌else◌, arith}
use Rattle.std.proofs.lemmas.Bool.Decides.{nat_tests}
use Rattle.ac_logic.specs.declared.formula.Sym.{Sym}
use Rattle.ac_logic.specs.declared.formula.Term.{Term, Num, Bound}
use Rattle.ac_logic.specs.declared.formula.ArrayTerm.{ArrayTerm}
use Rattle.ac_logic.specs.declared.formula.Formula.{Formula, True, False, Le, Eq}
use Rattle.ac_logic.specs.Patterns.{Scalar, Array, ReadOf, Sum, Difference, Product, Negative, PutOf, Negation, Conjunction, Disjunction, Implication, Every, Labelled}
use Rattle.ac_logic.specs.Opened.{hidden, formula_shape, formula_child, term_shape, term_child, array_shape, array_child}
use Rattle.ac_logic.specs.Meaning.{Valuation, with_cell, value, table_of, HoldsIn}
use Rattle.ac_logic.specs.Bounds.{IsTermClosed}
use Rattle.ac_logic.specs.Opening.{bound_at, term_at, array_at, formula_at}
use Rattle.ac_logic.proofs.Environment.{value_closed}

module _ (w : Valuation) (t : Term) (c : IsTermClosed t) (e : List ℤ) where
  abbrev n : ℤ
  n = value w [] t

  here : (pre : List ℤ) → get_or (pre ++ n ∷ e) (length pre) (pos 0) ≡ n
  here [] = refl
  here (p ∷ pre) = here pre

  above : (pre : List ℤ) (k : ℕ) → length pre < k → get_or (pre ++ e) (k - 1) (pos 0) ≡ get_or (pre ++ n ∷ e) k (pos 0)
  above [] zero h = absurd (omega arith)
  above [] (suc k) h = let q : suc k - 1 ≡ k = omega arith in ap (λ m. get_or e m (pos 0)) q
  above (p ∷ pre) zero h = absurd (omega arith)
  above (p ∷ pre) (suc zero) h = absurd (omega arith)
  above (p ∷ pre) (suc (suc k)) h =
      let q : suc (suc k) - 1 ≡ suc k = omega arith in
      let r : k ≡ suc k - 1 = omega arith in
      ap (λ m. get_or (p ∷ (pre ++ e)) m (pos 0)) q ∙ (ap (λ m. get_or (pre ++ e) m (pos 0)) r ∙ above pre (suc k) (omega arith))

  below : (pre : List ℤ) (k : ℕ) → k < length pre → get_or (pre ++ e) k (pos 0) ≡ get_or (pre ++ n ∷ e) k (pos 0)
  below [] k h = absurd (omega arith)
  below (p ∷ pre) zero h = refl
  below (p ∷ pre) (suc k) h = below pre k (omega arith)

  value_bound : (pre : List ℤ) (d k : ℕ) → d ≡ length pre → value w (pre ++ e) (bound_at d t k) ≡ get_or (pre ++ n ∷ e) k (pos 0)
  unfolding hidden term_shape term_child array_shape array_child
  value_bound pre d k q =
      elim (nat_eq k d) as (λ b. nat_eq k d ≡ b → value w (pre ++ e) (if b then t else (if nat_lt d k then Bound (k - 1) else Bound k)) ≡ get_or (pre ++ n ∷ e) k (pos 0)) [
        | true ↦ λ r. value_closed w (pre ++ e) t c ∙ (sym (here pre) ∙ ap (λ m. get_or (pre ++ n ∷ e) m (pos 0)) (let s : k ≡ length pre = grind (arith, nat_tests) in sym s))
        | false ↦ λ r. elim (nat_lt d k) as (λ b. nat_lt d k ≡ b → value w (pre ++ e) (if b then Bound (k - 1) else Bound k) ≡ get_or (pre ++ n ∷ e) k (pos 0)) [
          | true ↦ λ s. above pre k (grind (arith, nat_tests))
          | false ↦ λ s. below pre k (grind (arith, nat_tests))
        ] refl
      ] refl

  mutual
    unfolding hidden term_shape term_child array_shape array_child

    pub value_at : (pre : List ℤ) (d : ℕ) → d ≡ length pre → (u : Term) → value w (pre ++ e) (term_at d t u) ≡ value w (pre ++ n ∷ e) u
    value_at pre d q (Num m) = refl
    value_at pre d q (Scalar s) = refl
    value_at pre d q (Bound k) = value_bound pre d k q
    value_at pre d q (ReadOf a i j) = λ x. table_at pre d q a x (value_at pre d q i x) (value_at pre d q j x)
    value_at pre d q (Sum u v) = λ x. value_at pre d q u x +ℤ value_at pre d q v x
    value_at pre d q (Difference u v) = λ x. value_at pre d q u x -ℤ value_at pre d q v x
    value_at pre d q (Product u v) = λ x. value_at pre d q u x *ℤ value_at pre d q v x
    value_at pre d q (Negative u) = λ x. neg_ℤ (value_at pre d q u x)

    pub table_at : (pre : List ℤ) (d : ℕ) → d ≡ length pre → (a : ArrayTerm) → table_of w (pre ++ e) (array_at d t a) ≡ table_of w (pre ++ n ∷ e) a
    table_at pre d q (Array s) = refl
    table_at pre d q (PutOf a i j v) = λ x. with_cell (table_at pre d q a x) (value_at pre d q i x) (value_at pre d q j x) (value_at pre d q v x)

  pub holds_at : (pre : List ℤ) (d : ℕ) → d ≡ length pre → (f : Formula) → HoldsIn w (pre ++ e) (formula_at d t f) ≡ HoldsIn w (pre ++ n ∷ e) f
  unfolding hidden formula_shape formula_child
  holds_at pre d q True = refl
  holds_at pre d q False = refl
  holds_at pre d q (Le u v) = λ x. value_at pre d q u x ≤ℤ value_at pre d q v x
  holds_at pre d q (Eq u v) = λ x. value_at pre d q u x ≡ value_at pre d q v x
  holds_at pre d q (Negation f) = λ x. holds_at pre d q f x → ⊥
  holds_at pre d q (Conjunction f g) = λ x. holds_at pre d q f x × holds_at pre d q g x
  holds_at pre d q (Disjunction f g) = λ x. (holds_at pre d q f x → ⊥) → (holds_at pre d q g x → ⊥) → ⊥
  holds_at pre d q (Implication f g) = λ x. holds_at pre d q f x → holds_at pre d q g x
  holds_at pre d q (Every f) = λ x. (m : ℤ) → holds_at (m ∷ pre) (d + 1) (omega arith) f x
  holds_at pre d q (Labelled l f) = holds_at pre d q f
