-- Where a part goes among others, by index, and what the list is then.
-- No promise rests on this file: it says what the code keeps on the way.
use Rattle.std.specs.Prelude.{ℕ, suc, ◌<◌, ◌≤◌, ◌≢◌, ⊤, ℤ, pos, ◌+ℤ◌, List, [], ◌∷◌, Bool, if◌then◌else◌, Option, Some, option_map, insert, remove, slice_set, slice_index_or}
use Rattle.std.specs.Ordering.{int_eq, is_lt, nat_cmp}
use Rattle.std.specs.Cmp.Lexicographic.{slice_cmp}
use Rattle.std.specs.declared.cmp.Ordering.TheVariants.{Greater}
use Rattle.ac_linear.specs.declared.entry.Entry.{Entry}
use Rattle.ac_linear.specs.declared.place.Place.{Place}
use Rattle.ac_linear.specs.declared.place.Place.TheVariants.{Before, At}
use Rattle.ac_linear.specs.declared.range.Range.{Range}
use Rattle.ac_linear.specs.NormalForm.{within, side, by_side}

-- a print that is no greater than any of theirs
abbrev pub IsBelow : List ℕ → List Entry → Type 0
IsBelow t [] = ⊤
IsBelow t (q ∷ qs) = (slice_cmp nat_cmp t q.print ≢ Greater) × IsBelow t qs

-- no entry has a greater print than one behind it
abbrev pub InOrder : List Entry → Type 0
InOrder [] = ⊤
InOrder (p ∷ ps) = IsBelow p.print ps × InOrder ps

abbrev pub has_less : List ℕ → Entry → Bool
has_less t q = is_lt (slice_cmp nat_cmp q.print t)

abbrev pub place_from : ℕ → Entry → List Entry → Place
place_from n p [] = Before n
place_from n p (q ∷ qs) = by_side (side p q) (Before n) (At n) (place_from (suc n) p qs)

abbrev pub IsPlaceAmong : Place → ℕ → Type 0
IsPlaceAmong (Before i) n = i ≤ n
IsPlaceAmong (At i) n = i < n

abbrev pub replaced : List Entry → ℕ → Entry → ℤ → List Entry
replaced qs i q f = if int_eq f (pos 0) then remove qs i else slice_set qs i (record q { factor = f })

abbrev pub joined_at : Range → Entry → List Entry → ℕ → Option (List Entry)
joined_at r p qs i = option_map (replaced qs i (slice_index_or qs i p)) (within r ((slice_index_or qs i p).factor +ℤ p.factor))

abbrev pub put_on : Range → Entry → List Entry → Place → Option (List Entry)
put_on r p qs (Before i) = Some (insert qs i p)
put_on r p qs (At i) = joined_at r p qs i
