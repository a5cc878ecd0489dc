-- Everything is deeper by a number.
use Rattle.std.proofs.Common.{◌≡◌, ℕ, zero, suc, ◌+◌, ◌*◌, ◌-◌, ◌^◌, ◌≤◌, min, max, List, [], ◌∷◌, map, length, set, get_or, ◌<◌, refl, sym, ◌∙◌, ap, arith}
use Rattle.ac_logic.specs.Size.{saturated}
use Rattle.ac_conditions.specs.Weights.{Weights}
use Rattle.ac_profile.specs.declared.counts.Occurrence.{Occurrence}
use Rattle.ac_profile.specs.declared.counts.Counts.{Counts}
use Rattle.ac_profile.specs.Added.{IsRaised, raised}
use Rattle.ac_profile.specs.Profile.{symbol_weight, sizes, depths, profile_size, profile_depth}

module _ (by : ℕ) where
  -- the first so many of a list
  abbrev pub raised_to : ℕ → List Occurrence → List Occurrence
  raised_to zero xs = xs
  raised_to (suc i) [] = []
  raised_to (suc i) (x ∷ xs) = raised by x ∷ raised_to i xs

  pub raised_length : (i : ℕ) (xs : List Occurrence) → length (raised_to i xs) ≡ length xs
  raised_length zero xs = refl
  raised_length (suc i) [] = refl
  raised_length (suc i) (x ∷ xs) = ap (λ n. suc n) (raised_length i xs)

  pub raise_one : (xs : List Occurrence) (i : ℕ) (d y : Occurrence) → i < length (raised_to i xs) → y ≡ raised by (get_or (raised_to i xs) i d) → set (raised_to i xs) i y ≡ raised_to (suc i) xs
  raise_one [] zero d y l e = absurd (omega (arith, l))
  raise_one [] (suc i) d y l e = absurd (omega (arith, l))
  raise_one (o ∷ os) zero d y l e = ap (λ z. z ∷ os) e
  raise_one (o ∷ os) (suc i) d y l e = let low : i < length (raised_to i os) = omega (arith, l) in ap (λ l. raised by o ∷ l) (raise_one os i d y low e)

  all_raised : (i : ℕ) (xs : List Occurrence) → length xs ≤ i → raised_to i xs ≡ map (λ x. raised by x) xs
  all_raised zero [] h = refl
  all_raised zero (x ∷ xs) h = absurd (omega (arith, h))
  all_raised (suc i) [] h = refl
  all_raised (suc i) (x ∷ xs) h = let low : length xs ≤ i = omega (arith, h) in ap (λ l. raised by x ∷ l) (all_raised i xs low)

  sizes_raised : (u : Weights) (xs : List Occurrence) → sizes u (map (λ x. raised by x) xs) ≡ sizes u xs
  sizes_raised u [] = refl
  sizes_raised u (x ∷ xs) = ap (λ n. x.count * symbol_weight u x.is_array x.symbol + n) (sizes_raised u xs)

  raised_depth : (m d a w r s k : ℕ) → min (max (d + k) r) m ≡ min (max d s + k) m → min (max (d + k) (max (min (a + k) m + w) r)) m ≡ min (max d (max (a + w) s) + k) m
  raised_depth m d a w r s k h = omega (arith, h)

  depths_raised : (u : Weights) (d : ℕ) (xs : List Occurrence) → saturated (max (d + by) (depths u (map (λ x. raised by x) xs))) ≡ saturated (max d (depths u xs) + by)
  depths_raised u d [] = ap (λ n. saturated n) (deepest d by)
    where
      deepest : (d k : ℕ) → max (d + k) 0 ≡ max d 0 + k
      deepest d k = omega arith
  depths_raised u d (x ∷ xs) = raised_depth (2 ^ 64 - 1) d x.above (symbol_weight u x.is_array x.symbol) (depths u (map (λ x. raised by x) xs)) (depths u xs) by (depths_raised u d xs)

  more_depth : (m d r k : ℕ) → min (max (min (d + k) m) r) m ≡ min (max (d + k) r) m
  more_depth m d r k = omega arith

  pub above_all : (old new : Counts) (start : List Occurrence) (i : ℕ) → new.nodes ≡ old.nodes → new.depth ≡ saturated (old.depth + by) → start ≡ old.symbols.items → new.symbols.items ≡ raised_to i start → length start ≤ i → IsRaised by old new
  above_all old new start i n d s l h =
      let all : new.symbols.items ≡ map (λ x. raised by x) old.symbols.items = l ∙ (all_raised i start h ∙ ap (λ (xs : List Occurrence). map (λ x. raised by x) xs) s) in
      record {
        size = λ u. rw n (rw all (rw sizes_raised refl));
        depth = λ u. rw d (rw all (more_depth (2 ^ 64 - 1) old.depth (depths u (map (λ x. raised by x) old.symbols.items)) by ∙ depths_raised u old.depth old.symbols.items));
      }
