-- Signs of numbers.
-- No promise rests on this file: it says what the code keeps on the way.
use Rattle.std.specs.Prelude.{ℤ, pos, Bool, true, false, Option, None, Some}
use Rattle.std.specs.Ordering.{int_cmp}
use Rattle.std.specs.declared.cmp.Ordering.{Ordering}
use Rattle.std.specs.declared.cmp.Ordering.TheVariants.{Less, Equal, Greater}

abbrev pub sign_of : ℤ → Ordering
sign_of n = int_cmp n (pos 0)

abbrev pub is_not_above : Option Ordering → Bool
is_not_above None = false
is_not_above (Some Less) = true
is_not_above (Some Equal) = true
is_not_above (Some Greater) = false

abbrev pub is_zero : Option Ordering → Bool
is_zero None = false
is_zero (Some Less) = false
is_zero (Some Equal) = true
is_zero (Some Greater) = false
