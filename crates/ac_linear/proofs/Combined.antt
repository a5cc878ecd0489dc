-- A combination has the sum of factor times fact.
use Rattle.std.proofs.Common.{◌≡◌, ℕ, ℤ, pos, ◌+ℤ◌, ◌*ℤ◌, List, [], ◌∷◌, map, Some, refl, ◌∙◌, ap, arith}
use Rattle.std.specs.Prelude.{IfSome}
use Rattle.std.proofs.lemmas.Int.{ints}
use Rattle.ac_logic.specs.Meaning.{Valuation, value}
use Rattle.ac_linear.specs.declared.entry.Form.{Form}
use Rattle.ac_linear.specs.declared.range.Range.TheVariants.{Machine}
use Rattle.ac_linear.specs.declared.linear.Part.{Part}
use Rattle.ac_linear.specs.declared.linear.Linear.{Linear}
use Rattle.ac_linear.specs.NormalForm.{number_form, plus, linear_of}
use Rattle.ac_linear.specs.Combination.{entry_of_part, form_of_linear, combined_with, combination_of}
use Rattle.ac_linear.specs.LinearValue.{parts_value, linear_value, weighted}
use Rattle.ac_linear.proofs.Values.{entries_value, form_value, plus_value, linear_form, then_some, map_some, weaker, said}

module _ (w : Valuation) (e : List ℤ) where
  same_parts : (ps : List Part) → entries_value w e (map entry_of_part ps) ≡ parts_value w e ps
  same_parts [] = refl
  same_parts (p ∷ ps) = ap (λ x. (p.factor *ℤ value w e p.unit) +ℤ x) (same_parts ps)

  same_form : (l : Linear) → form_value w e (form_of_linear l) ≡ linear_value w e l
  same_form l = ap (λ x. l.constant +ℤ x) (same_parts l.parts)

  next_sum : (y x k m l s z : ℤ) → y ≡ x +ℤ m → m ≡ l → z ≡ y +ℤ s → z ≡ x +ℤ (l +ℤ s)
  next_sum y x k m l s z a b c = omega (arith, ints, a, b, c)

  combined_value : (x : Form) (ls : List Linear) (ks : List ℕ) → IfSome (combined_with x ls ks) (λ z. form_value w e z ≡ form_value w e x +ℤ weighted w e ls ks)
  combined_value x [] ks = omega (arith, ints)
  combined_value x (l ∷ ls) [] = omega (arith, ints)
  combined_value x (l ∷ ls) (k ∷ ks) =
      let P : Form → Type 0 = (λ z. form_value w e z ≡ form_value w e x +ℤ ((pos k *ℤ linear_value w e l) +ℤ weighted w e ls ks)) in
      then_some (plus Machine x (pos k) (form_of_linear l)) (λ y. combined_with y ls ks) P (λ y h.
      let a : form_value w e y ≡ form_value w e x +ℤ (pos k *ℤ form_value w e (form_of_linear l)) = said (plus Machine x (pos k) (form_of_linear l)) y _ h (plus_value w e Machine x (pos k) (form_of_linear l)) in
      weaker (combined_with y ls ks) _ P (λ z c. next_sum _ _ (pos k) _ _ _ _ a (ap (λ u. pos k *ℤ u) (same_form l)) c) (combined_value y ls ks))

  pub combination_value : (ls : List Linear) (ks : List ℕ) → IfSome (combination_of ls ks) (λ l. linear_value w e l ≡ weighted w e ls ks)
  combination_value ls ks =
      map_some (combined_with (number_form (pos 0)) ls ks) linear_of (λ l. linear_value w e l ≡ weighted w e ls ks) (λ z h.
      linear_form w e z ∙ (let a : form_value w e z ≡ form_value w e (number_form (pos 0)) +ℤ weighted w e ls ks = said (combined_with (number_form (pos 0)) ls ks) z _ h (combined_value (number_form (pos 0)) ls ks) in omega (arith, ints, a)))

-- the laws at an answer
pub combination_has_value : (w : Valuation) (e : List ℤ) (ls : List Linear) (ks : List ℕ) (l : Linear) → combination_of ls ks ≡ Some l → linear_value w e l ≡ weighted w e ls ks
combination_has_value w e ls ks l h = said (combination_of ls ks) l _ h (combination_value w e ls ks)
