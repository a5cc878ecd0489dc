-- The number_of_parts of the form of a difference of terms, and what becomes of it where the difference is reversed.
use Rattle.std.proofs.Common.{◌≡◌, ℤ, pos, negsuc, neg_ℤ, ◌+ℤ◌, ◌-ℤ◌, ◌*ℤ◌, Option, Some, None, option_map, refl, sym, ◌∙◌, ap, subst, arith}
use Rattle.std.proofs.lemmas.Int.{ints}
use Rattle.ac_logic.specs.declared.formula.Term.{Term}
use Rattle.ac_logic.specs.declared.formula.Term.TheVariants.{Sub}
use Rattle.ac_logic.specs.Patterns.{Difference}
use Rattle.ac_linear.specs.declared.entry.Form.{Form}
use Rattle.ac_linear.specs.declared.range.Range.TheVariants.{Coefficient}
use Rattle.ac_linear.specs.declared.linear.Linear.{Linear}
use Rattle.ac_linear.specs.Opened.{hidden, term_shape, term_child, array_shape, array_child}
use Rattle.ac_linear.specs.NormalForm.{and_then, number_form, plus, linear_of, form_of, normal_of}
use Rattle.ac_linear.proofs.Ring.{minus_one_mul, one_mul}
use Rattle.ac_linear.proofs.Values.{said}
use Rattle.ac_proof.specs.Linear.{next}
use Rattle.ac_steps.proofs.Weights.{entries_weight, parts_of_entries, plus_weight, Added}
use Rattle.ac_steps.specs.FactDifferences.{number_of_parts}

module _ {A B : Type 0} where
  pub then_is : (o : Option A) (f : A → Option B) (y : B) → and_then o f ≡ Some y → (x : A) × (o ≡ Some x) × (f x ≡ Some y)
  then_is None f y e = cc
  then_is (Some x) f y e = (x, refl, e)

  pub map_is : (o : Option A) (f : A → B) (y : B) → option_map f o ≡ Some y → (x : A) × (o ≡ Some x) × (f x ≡ y)
  map_is None f y e = cc
  map_is (Some x) f y e = (x, refl, cc)

some_is : {A : Type 0} (x y : A) → Some x ≡ Some y → x ≡ y
some_is x y e = cc

-- the parts of the form of s - t
pub difference_parts : (s t : Term) (l : Linear) → normal_of (Sub s t) ≡ Some l → (x : Form) × (y : Form) × (z : Form) × (form_of s ≡ Some x) × (form_of t ≡ Some y) × (plus Coefficient x (negsuc 0) y ≡ Some z) × (linear_of z ≡ l)
unfolding hidden term_shape term_child array_shape array_child
difference_parts s t l e =
    let a = map_is (form_of (Difference s t)) linear_of l e in
    let b = then_is (form_of s) (λ x. and_then (form_of t) (λ y. plus Coefficient x (negsuc 0) y)) a.0 a.1 in
    let c = then_is (form_of t) (λ y. plus Coefficient b.0 (negsuc 0) y) a.0 b.2 in
    (b.0, c.0, a.0, b.1, c.1, c.2, a.2)

pub next_parts : (t : Term) (z : Form) → form_of (next t) ≡ Some z → (y : Form) × (form_of t ≡ Some y) × (plus Coefficient y (pos 1) (number_form (pos 1)) ≡ Some z)
unfolding hidden term_shape term_child array_shape array_child
next_parts t z e =
    let b = then_is (form_of t) (λ y. plus Coefficient y (pos 1) (number_form (pos 1))) z e in
    (b.0, b.1, b.2)

module _ (g : Term → ℤ) where
  added : (x y z : Form) (k : ℤ) → plus Coefficient x k y ≡ Some z → Added g x k y z
  added x y z k e = said (plus Coefficient x k y) z (Added g x k y) e (plus_weight g Coefficient x k y)

  less : (x y z : Form) → plus Coefficient x (negsuc 0) y ≡ Some z → (z.constant ≡ x.constant -ℤ y.constant) × (entries_weight g z.entries ≡ entries_weight g x.entries -ℤ entries_weight g y.entries)
  less x y z e =
      let a : Added g x (negsuc 0) y z = added x y z (negsuc 0) e in
      let m : negsuc 0 *ℤ y.constant ≡ neg_ℤ y.constant = minus_one_mul y.constant in
      let n : negsuc 0 *ℤ entries_weight g y.entries ≡ neg_ℤ (entries_weight g y.entries) = minus_one_mul (entries_weight g y.entries) in
      (omega (arith, ints, a.0, m), omega (arith, ints, a.1, n))

  one_more : (y z : Form) → plus Coefficient y (pos 1) (number_form (pos 1)) ≡ Some z → (z.constant ≡ y.constant +ℤ pos 1) × (entries_weight g z.entries ≡ entries_weight g y.entries)
  one_more y z e =
      let a : Added g y (pos 1) (number_form (pos 1)) z = added y (number_form (pos 1)) z (pos 1) e in
      let m : pos 1 *ℤ pos 1 ≡ pos 1 = one_mul (pos 1) in
      let n : pos 1 *ℤ pos 0 ≡ pos 0 = one_mul (pos 0) in
      let c : z.constant ≡ y.constant +ℤ (pos 1 *ℤ pos 1) = a.0 in
      let d : entries_weight g z.entries ≡ entries_weight g y.entries +ℤ (pos 1 *ℤ pos 0) = a.1 in
      (omega (arith, ints, c, m), omega (arith, ints, d, n))

  form_weight : (z : Form) (l : Linear) → linear_of z ≡ l → (l.constant ≡ z.constant) × (number_of_parts g l.parts ≡ entries_weight g z.entries)
  form_weight z l e = (ap (λ m. m.constant) (sym e), ap (λ m. number_of_parts g m.parts) (sym e) ∙ parts_of_entries g z.entries)

  same_form : (o : Option Form) (x y : Form) → o ≡ Some x → o ≡ Some y → x ≡ y
  same_form o x y a b = some_is x y (sym a ∙ b)

  turned_sums : (l m cx cy cz : ℤ) → l ≡ cx -ℤ cy → cz ≡ cy +ℤ pos 1 → m ≡ cz -ℤ cx → m ≡ pos 1 -ℤ l
  turned_sums l m cx cy cz a b c = omega (arith, ints, a, b, c)

  turned_weights : (l m wx wy wz : ℤ) → l ≡ wx -ℤ wy → wz ≡ wy → m ≡ wz -ℤ wx → m ≡ neg_ℤ l
  turned_weights l m wx wy wz a b c = omega (arith, ints, a, b, c)

  -- the form of v + 1 - u is 1 less that of u - v
  pub reversed_weight : (u v : Term) (l m : Linear) → normal_of (Sub u v) ≡ Some l → normal_of (Sub (next v) u) ≡ Some m → (m.constant ≡ pos 1 -ℤ l.constant) × (number_of_parts g m.parts ≡ neg_ℤ (number_of_parts g l.parts))
  reversed_weight u v l m e f =
      let a = difference_parts u v l e in
      let b = difference_parts (next v) u m f in
      let c = next_parts v b.0 b.3 in
      let x : b.1 ≡ a.0 = same_form (form_of u) b.1 a.0 b.4 a.3 in
      let y : c.0 ≡ a.1 = same_form (form_of v) c.0 a.1 c.1 a.4 in
      let p = less a.0 a.1 a.2 a.5 in
      let q = less b.0 a.0 b.2 (subst (λ z. plus Coefficient b.0 (negsuc 0) z ≡ Some b.2) x b.5) in
      let r = one_more a.1 b.0 (subst (λ z. plus Coefficient z (pos 1) (number_form (pos 1)) ≡ Some b.0) y c.2) in
      let s = form_weight a.2 l a.6 in
      let t = form_weight b.2 m b.6 in (
        turned_sums l.constant m.constant a.0.constant a.1.constant b.0.constant (s.0 ∙ p.0) r.0 (t.0 ∙ q.0),
        turned_weights (number_of_parts g l.parts) (number_of_parts g m.parts) (entries_weight g a.0.entries) (entries_weight g a.1.entries) (entries_weight g b.0.entries) (s.1 ∙ p.1) r.1 (t.1 ∙ q.1),
      )
