-- An assumed part gives its instances, and a shown part follows from its ground form.
use Rattle.std.proofs.Common.{◌≡◌, ℕ, zero, suc, List, [], ◌∷◌, get_or, pos, ◌≤ℤ◌, ◌+ℤ◌, ◌-ℤ◌, ◌*ℤ◌, neg_ℤ, Bool, true, false, refl, sym, subst}
use Rattle.ac_logic.specs.declared.formula.Term.{Term, Num, Bound}
use Rattle.ac_logic.specs.declared.formula.ArrayTerm.{ArrayTerm}
use Rattle.ac_logic.specs.declared.formula.Formula.{Formula, True, False, Le, Eq}
use Rattle.ac_logic.specs.Patterns.{Scalar, Array, ReadOf, Sum, Difference, Product, Negative, PutOf, Negation, Conjunction, Disjunction, Implication, Every, Labelled}
use Rattle.ac_logic.specs.Meaning.{Valuation, value, table_of, with_cell, HoldsIn, Holds}
use Rattle.ac_expand.specs.declared.names.Names.{Names}
use Rattle.ac_logic.specs.declared.formula.Sym.TheVariants.{Fresh}
use Rattle.ac_expand.specs.Ground.{Made, with_terms, array_with_terms, each, joined, joined_to, made, next_name, named}
use Rattle.ac_expand.specs.Witnesses.{AreWitnesses, AtEach, numbers}
use Rattle.ac_expand.specs.Opened.{hidden, formula_shape, formula_child, term_shape, term_child, array_shape, array_child}

-- ---- a term with terms in place of its bound names has the number that it has with their numbers

number_at : (w : Valuation) (e : List Term) (k j : ℕ) → value w [] (get_or e k (Bound j)) ≡ get_or (numbers w e) k (pos 0)
unfolding hidden term_shape term_child array_shape array_child
number_at w [] k j = refl
number_at w (t ∷ e) zero j = refl
number_at w (t ∷ e) (suc k) j = number_at w e k j

mutual
  unfolding hidden term_shape term_child array_shape array_child

  pub number_with : (w : Valuation) (e : List Term) (t : Term) → value w [] (with_terms e t) ≡ value w (numbers w e) t
  number_with w e (Num n) = refl
  number_with w e (Scalar s) = refl
  number_with w e (Bound k) = number_at w e k k
  number_with w e (ReadOf a i j) = λ z. table_with w e a z (number_with w e i z) (number_with w e j z)
  number_with w e (Sum s t) = λ z. number_with w e s z +ℤ number_with w e t z
  number_with w e (Difference s t) = λ z. number_with w e s z -ℤ number_with w e t z
  number_with w e (Product s t) = λ z. number_with w e s z *ℤ number_with w e t z
  number_with w e (Negative t) = λ z. neg_ℤ (number_with w e t z)

  pub table_with : (w : Valuation) (e : List Term) (a : ArrayTerm) → table_of w [] (array_with_terms e a) ≡ table_of w (numbers w e) a
  table_with w e (Array s) = refl
  table_with w e (PutOf a i j v) = λ z. with_cell (table_with w e a z) (number_with w e i z) (number_with w e j z) (number_with w e v z)

-- ---- instances joined by `and`

abbrev HoldEach : Valuation → List Formula → Type 0
HoldEach w [] = Unit {0}
HoldEach w (f ∷ fs) = Holds w f × HoldEach w fs

joined_to_holds : (w : Valuation) (f : Formula) (fs : List Formula) → Holds w f → HoldEach w fs → Holds w (joined_to f fs)
unfolding hidden formula_shape formula_child
joined_to_holds w f [] h k = h
joined_to_holds w f (g ∷ fs) h k = joined_to_holds w (Conjunction f g) fs (h, k.0) k.1

joined_holds : (w : Valuation) (fs : List Formula) → HoldEach w fs → Holds w (joined fs)
unfolding hidden formula_shape formula_child
joined_holds w [] h = tt
joined_holds w (f ∷ fs) h = joined_to_holds w f fs h.0 h.1

each_holds : (w : Valuation) (P : Term → Names → Type 0) (make : Term → Names → Made) → ((t : Term) (n : Names) → P t n → Holds w (make t n).0) → (ts : List Term) (n : Names) → AtEach P make ts n → HoldEach w (each make ts n).0
each_holds w P make h [] n a = tt
each_holds w P make h (t ∷ ts) n a = (h t n a.0, each_holds w P make h ts (make t n).1 a.1)

-- ---- parts

same_type : {A B : Type 0} → A ≡ B → A → B
same_type e = subst (λ (X : Type 0). X) e

other_type : {A B : Type 0} → A ≡ B → B → A
other_type e = subst (λ (X : Type 0). X) (sym e)

le_with : (w : Valuation) (e : List Term) (s t : Term) → (value w [] (with_terms e s) ≤ℤ value w [] (with_terms e t)) ≡ (value w (numbers w e) s ≤ℤ value w (numbers w e) t)
le_with w e s t = λ z. number_with w e s z ≤ℤ number_with w e t z

eq_with : (w : Valuation) (e : List Term) (s t : Term) → (value w [] (with_terms e s) ≡ value w [] (with_terms e t)) ≡ (value w (numbers w e) s ≡ value w (numbers w e) t)
eq_with w e s t = λ z. number_with w e s z ≡ number_with w e t z

mutual
  unfolding hidden formula_shape formula_child

  pub assumed_holds : (w : Valuation) (ts : List Term) (inside : Bool) (e : List Term) (f : Formula) (n : Names) → AreWitnesses w ts false inside e f n → HoldsIn w (numbers w e) f → Holds w (made ts false inside e f n).0
  assumed_holds w ts inside e True n a h = h
  assumed_holds w ts inside e False n a h = h
  assumed_holds w ts inside e (Le s t) n a h = other_type (le_with w e s t) h
  assumed_holds w ts inside e (Eq s t) n a h = other_type (eq_with w e s t) h
  assumed_holds w ts inside e (Negation f) n a h = λ k. h (shown_holds w ts inside e f n a k)
  assumed_holds w ts inside e (Conjunction f g) n a h = (assumed_holds w ts inside e f n a.0 h.0, assumed_holds w ts inside e g (made ts false inside e f n).1 a.1 h.1)
  assumed_holds w ts inside e (Disjunction f g) n a h = λ p q. h (λ k. p (assumed_holds w ts inside e f n a.0 k)) (λ k. q (assumed_holds w ts inside e g (made ts false inside e f n).1 a.1 k))
  assumed_holds w ts inside e (Implication f g) n a h = λ k. assumed_holds w ts inside e g (made ts true inside e f n).1 a.1 (h (shown_holds w ts inside e f n a.0 k))
  assumed_holds w ts inside e (Every f) n a h = joined_holds w _ (each_holds w (λ t. AreWitnesses w ts false true (t ∷ e) f) (λ t. made ts false true (t ∷ e) f) (λ t m b. assumed_holds w ts true (t ∷ e) f m b (h (value w [] t))) ts n a)
  assumed_holds w ts inside e (Labelled l f) n a h = assumed_holds w ts inside e f n a h

  pub shown_holds : (w : Valuation) (ts : List Term) (inside : Bool) (e : List Term) (f : Formula) (n : Names) → AreWitnesses w ts true inside e f n → Holds w (made ts true inside e f n).0 → HoldsIn w (numbers w e) f
  shown_holds w ts inside e True n a h = h
  shown_holds w ts inside e False n a h = h
  shown_holds w ts inside e (Le s t) n a h = same_type (le_with w e s t) h
  shown_holds w ts inside e (Eq s t) n a h = same_type (eq_with w e s t) h
  shown_holds w ts inside e (Negation f) n a h = λ k. h (assumed_holds w ts inside e f n a k)
  shown_holds w ts inside e (Conjunction f g) n a h = (shown_holds w ts inside e f n a.0 h.0, shown_holds w ts inside e g (made ts true inside e f n).1 a.1 h.1)
  shown_holds w ts inside e (Disjunction f g) n a h = λ p q. h (λ k. p (shown_holds w ts inside e f n a.0 k)) (λ k. q (shown_holds w ts inside e g (made ts true inside e f n).1 a.1 k))
  shown_holds w ts inside e (Implication f g) n a h = λ k. shown_holds w ts inside e g (made ts false inside e f n).1 a.1 (h (assumed_holds w ts inside e f n a.0 k))
  shown_holds w ts inside e (Every f) n a h = a.0 (shown_holds w ts inside (Scalar (Fresh (next_name inside n)) ∷ e) f (named inside n) a.1 h)
  shown_holds w ts inside e (Labelled l f) n a h = shown_holds w ts inside e f n a h
