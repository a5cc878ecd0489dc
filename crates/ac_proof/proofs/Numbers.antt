-- What the rules of equality, order and arrays rest on: whole numbers are in order, and equal or not.
use Rattle.std.proofs.Common.{◌≡◌, ℤ, pos, ◌+ℤ◌, ◌≤ℤ◌, Bool, true, false, T, not, ◌&&◌, if◌then◌else◌, arith, refl, sym, subst}
use lib.Signed.{◌<ℤ◌, lt_z, lt_z_yes, lt_z_no}
use Rattle.std.specs.Bool.{Decides}
use Rattle.std.proofs.lemmas.Int.{ints}
use Rattle.std.proofs.lemmas.Bool.Decides.{Decides-int_eq}
use Rattle.std.specs.Ordering.{int_eq}
use Rattle.ac_logic.specs.Meaning.{Table, with_cell}

pub in_order : (x y : ℤ) → (x ≤ℤ y → ⊥) → ((y +ℤ pos 1) ≤ℤ x → ⊥) → ⊥
in_order x y a b =
    elim (lt_z y x) as (λ r. lt_z y x ≡ r → ⊥) [
      | true ↦ λ e. let above : y <ℤ x = lt_z_yes (subst T (sym e) tt) in b (omega (arith, ints))
      | false ↦ λ e. a (lt_z_no (subst (λ r. T (not r)) (sym e) tt))
    ] refl

pub equal_or_apart : (x y : ℤ) → (x ≡ y → ⊥) → ((x +ℤ pos 1) ≤ℤ y → ⊥) → ((y +ℤ pos 1) ≤ℤ x → ⊥) → ⊥
equal_or_apart x y a b c = in_order x y (λ below. in_order y x (λ above. a (omega (arith, ints))) b) c

cell_by : (b c : Bool) (A B : Type 0) (x y : ℤ) → Decides b A → Decides c B → ((A × B) × ((if (b && c) then x else y) ≡ x) → ⊥) → ((A × B → ⊥) × ((if (b && c) then x else y) ≡ y) → ⊥) → ⊥
cell_by true true A B x y p q m n = m ((p.0 refl, q.0 refl), refl)
cell_by true false A B x y p q m n = n (λ h. let e : false ≡ true = q.1 h.1 in cc, refl)
cell_by false c A B x y p q m n = n (λ h. let e : false ≡ true = p.1 h.0 in cc, refl)

pub cell_of_put : (t : Table) (i j v k l : ℤ) → (((i ≡ k) × (j ≡ l)) × (with_cell t i j v k l ≡ v) → ⊥) → (((i ≡ k) × (j ≡ l) → ⊥) × (with_cell t i j v k l ≡ t k l) → ⊥) → ⊥
cell_of_put t i j v k l = cell_by (int_eq i k) (int_eq j l) (i ≡ k) (j ≡ l) v (t k l) (Decides-int_eq i k) (Decides-int_eq j l)
