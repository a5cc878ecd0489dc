-- The three cases of a product.
use Rattle.std.proofs.Common.{◌≡◌, pos, List, [], ◌∷◌, option_map, refl, ◌∙◌, ap}
use Rattle.ac_linear.specs.declared.entry.Entry.{Entry}
use Rattle.ac_linear.specs.declared.entry.Form.{Form}
use Rattle.ac_linear.specs.declared.range.Range.TheVariants.{Coefficient}
use Rattle.ac_linear.specs.NormalForm.{and_then, number_form, unit_form, plus, term_of_form, unit_product, times}

pub times_left : (x y : Form) → x.entries ≡ [] → times x y x.entries y.entries ≡ plus Coefficient (number_form (pos 0)) x.constant y
times_left x y h = ap (λ xs. times x y xs y.entries) h

times_empty : (x y : Form) (xs : List Entry) → (xs ≡ [] → ⊥) → times x y xs [] ≡ plus Coefficient (number_form (pos 0)) y.constant x
times_empty x y [] h = absurd (h refl)
times_empty x y (p ∷ xs) h = refl

pub times_right : (x y : Form) → (x.entries ≡ [] → ⊥) → y.entries ≡ [] → times x y x.entries y.entries ≡ plus Coefficient (number_form (pos 0)) y.constant x
times_right x y h k = ap (λ ys. times x y x.entries ys) k ∙ times_empty x y x.entries h

times_full : (x y : Form) (xs ys : List Entry) → (xs ≡ [] → ⊥) → (ys ≡ [] → ⊥) → times x y xs ys ≡ and_then (term_of_form x) (λ s. option_map (λ t. unit_form (unit_product s t)) (term_of_form y))
times_full x y [] ys h k = absurd (h refl)
times_full x y (p ∷ xs) [] h k = absurd (k refl)
times_full x y (p ∷ xs) (q ∷ ys) h k = refl

pub times_units : (x y : Form) → (x.entries ≡ [] → ⊥) → (y.entries ≡ [] → ⊥) → times x y x.entries y.entries ≡ and_then (term_of_form x) (λ s. option_map (λ t. unit_form (unit_product s t)) (term_of_form y))
times_units x y h k = times_full x y x.entries y.entries h k
