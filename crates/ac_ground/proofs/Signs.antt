-- Comparisons by the sign of a difference.
use Rattle.std.proofs.Common.{◌≡◌, ◌∙◌, ℤ, pos, Bool, true, false, not, Option, None, Some, option_map, refl, sym, ap, arith}
use Rattle.std.specs.Ordering.{int_cmp, int_eq}
use Rattle.std.specs.Prelude.{int_lt}
use Rattle.std.specs.declared.cmp.Ordering.{Ordering}
use Rattle.std.proofs.lemmas.Int.{ints}
use Rattle.ac_ground.specs.Numbers.{passes}
use Rattle.ac_ground.specs.Signs.{sign_of, is_not_above, is_zero}

not_above : (n : ℤ) → is_not_above (Some (sign_of n)) ≡ not (int_lt (pos 0) n)
not_above n = grind (arith, ints)

zero : (n : ℤ) → is_zero (Some (sign_of n)) ≡ int_eq n (pos 0)
zero n = grind (arith, ints)

pub at_most_by_sign : (o : Option ℤ) (s : Option Ordering) → s ≡ option_map sign_of o → is_not_above s ≡ passes (λ n. not (int_lt (pos 0) n)) o
at_most_by_sign None s h = ap is_not_above h
at_most_by_sign (Some n) s h = ap is_not_above h ∙ not_above n

pub equal_by_sign : (o : Option ℤ) (s : Option Ordering) → s ≡ option_map sign_of o → is_zero s ≡ passes (λ n. int_eq n (pos 0)) o
equal_by_sign None s h = ap is_zero h
equal_by_sign (Some n) s h = ap is_zero h ∙ zero n
