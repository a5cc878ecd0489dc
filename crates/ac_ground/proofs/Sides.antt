-- The difference of two reads has no sum as a side.
use Rattle.std.proofs.Common.{◌≡◌, Bool, false, List, [], ◌∷◌, pos, negsuc, ◌+ℤ◌, Option, None, Some, option_map, refl, sym, ◌∙◌, ap}
use Rattle.std.specs.Prelude.{IfSome}
use Rattle.ac_logic.specs.declared.formula.Term.{Term}
use Rattle.ac_logic.specs.Patterns.{ReadOf, Difference}
use Rattle.ac_linear.specs.declared.entry.Form.{Form}
use Rattle.ac_linear.specs.declared.linear.Linear.{Linear}
use Rattle.ac_linear.specs.declared.place.Side.TheVariants as on_side
use Rattle.ac_linear.specs.declared.range.Range.TheVariants.{Coefficient}
use Rattle.ac_linear.specs.NormalForm.{and_then, by_side, entry_of, form_of, linear_of, normal_of, plus, put_in, side, term_of_form, unit_form, unit_read, with_factor, within}
use Rattle.ac_linear.proofs.Values.{map_some, said, then_some, weaker}
use Rattle.ac_ground.specs.declared.cell.Cell.{Cell}
use Rattle.ac_ground.specs.Compared.{is_sum}
use Rattle.ac_ground.specs.Numbers.{first_side, second_side}
use Rattle.ac_ground.specs.Reads.{read}
use Rattle.ac_ground.specs.Opened.{hidden, term_shape, term_child, array_shape, array_child}

abbrev HasNoSum : Linear → Type 0
HasNoSum l = (is_sum (first_side l) ≡ false) × (is_sum (second_side l) ≡ false)

abbrev pub IsUnitForm : Form → Type 0
IsUnitForm x = (u : Term) × (unit_form u ≡ x)

pub read_unit : (c : Cell) → IfSome (form_of (read c)) IsUnitForm
unfolding hidden term_shape term_child array_shape array_child
read_unit c =
    then_some (form_of c.first) _ IsUnitForm (λ x p.
    then_some (form_of c.second) _ IsUnitForm (λ y q.
    then_some (term_of_form x) _ IsUnitForm (λ k r.
    map_some (term_of_form y) (unit_read c.array k) IsUnitForm (λ j s. (ReadOf c.array k j, refl)))))

units_apart : (u w : Term) → IfSome (plus Coefficient (unit_form u) (negsuc 0) (unit_form w)) (λ x. HasNoSum (linear_of x))
units_apart u w =
    elim (side (record (entry_of w (pos 1)) { factor = negsuc 0 }) (entry_of u (pos 1))) as (λ s. IfSome (option_map (λ es. record { constant = pos 0; entries = es }) (and_then (by_side s (Some (record (entry_of w (pos 1)) { factor = negsuc 0 } ∷ entry_of u (pos 1) ∷ [])) (option_map (with_factor (entry_of u (pos 1)) []) (within Coefficient (pos 1 +ℤ negsuc 0))) (option_map (λ rest. entry_of u (pos 1) ∷ rest) (put_in Coefficient (record (entry_of w (pos 1)) { factor = negsuc 0 }) []))) (λ more. Some more))) (λ x. HasNoSum (linear_of x))) [
      | on_side.Before ↦ (refl, refl)
      | on_side.Same ↦ (refl, refl)
      | on_side.Behind ↦ (refl, refl)
    ]

forms_apart : (x y : Form) → IsUnitForm x → IsUnitForm y → IfSome (plus Coefficient x (negsuc 0) y) (λ z. HasNoSum (linear_of z))
forms_apart x y u w = rw (sym u.1) (rw (sym w.1) (units_apart u.0 w.0))

reads_apart : (c d : Cell) → IfSome (form_of (Difference (read c) (read d))) (λ z. HasNoSum (linear_of z))
unfolding hidden term_shape term_child array_shape array_child
reads_apart c d =
    then_some (form_of (read c)) _ (λ z. HasNoSum (linear_of z)) (λ x p.
    then_some (form_of (read d)) _ (λ z. HasNoSum (linear_of z)) (λ y q.
    forms_apart x y (said (form_of (read c)) x IsUnitForm p (read_unit c)) (said (form_of (read d)) y IsUnitForm q (read_unit d))))

pub no_sum : (c d : Cell) (l : Linear) → normal_of (Difference (read c) (read d)) ≡ Some l → (is_sum (first_side l) ≡ false) × (is_sum (second_side l) ≡ false)
unfolding hidden term_shape term_child array_shape array_child
no_sum c d l h = said (normal_of (Difference (read c) (read d))) l HasNoSum h (map_some (form_of (Difference (read c) (read d))) linear_of HasNoSum (λ x p. said (form_of (Difference (read c) (read d))) x (λ z. HasNoSum (linear_of z)) p (reads_apart c d)))
