-- A part put on its place by index is put into its place.
use Rattle.std.proofs.Common.{◌≡◌, ℕ, suc, ◌+◌, ℤ, pos, ◌+ℤ◌, List, [], ◌∷◌, true, false, Option, Some, None, option_map, refl, sym, ◌∙◌, ap, if◌then◌else◌, arith, remove, slice_set, slice_index_or}
use Rattle.std.specs.Ordering.{int_eq}
use Rattle.ac_linear.specs.declared.entry.Entry.{Entry}
use Rattle.ac_linear.specs.declared.place.Place.{Place}
use Rattle.ac_linear.specs.declared.place.Place.TheVariants.{Before, At}
use Rattle.ac_linear.specs.declared.place.Side.TheVariants as on_side
use Rattle.ac_linear.specs.declared.range.Range.{Range}
use Rattle.ac_linear.specs.NormalForm.{within, side, by_side, with_factor, put_in}
use Rattle.ac_linear.specs.Places.{place_from, replaced, put_on}

abbrev next : Place → Place
next (Before i) = Before (suc i)
next (At i) = At (suc i)

abbrev shifted : ℕ → Place → Place
shifted n (Before i) = Before (n + i)
shifted n (At i) = At (n + i)

abbrev place : Entry → List Entry → Place
place p [] = Before 0
place p (q ∷ qs) = by_side (side p q) (Before 0) (At 0) (next (place p qs))

shifted-next : (n : ℕ) (x : Place) → shifted (suc n) x ≡ shifted n (next x)
shifted-next n (Before i) = ap Before (let e : suc n + i ≡ n + suc i = omega arith in e)
shifted-next n (At i) = ap At (let e : suc n + i ≡ n + suc i = omega arith in e)

unshifted : (x : Place) → shifted 0 x ≡ x
unshifted (Before i) = ap Before (let e : 0 + i ≡ i = omega arith in e)
unshifted (At i) = ap At (let e : 0 + i ≡ i = omega arith in e)

place_shifted : (n : ℕ) (p : Entry) (qs : List Entry) → place_from n p qs ≡ shifted n (place p qs)
place_shifted n p [] = ap Before (let e : n ≡ n + 0 = omega arith in e)
place_shifted n p (q ∷ qs) =
    let on : place_from (suc n) p qs ≡ shifted n (next (place p qs)) = place_shifted (suc n) p qs ∙ shifted-next n (place p qs) in
    let here : n ≡ n + 0 = omega arith in
    elim (side p q) as (λ o. by_side o (Before n) (At n) (place_from (suc n) p qs) ≡ shifted n (by_side o (Before 0) (At 0) (next (place p qs)))) [
      | on_side.Before ↦ ap Before here
      | on_side.Same ↦ ap At here
      | on_side.Behind ↦ on
    ]

replaced_next : (q p : Entry) (qs : List Entry) (i : ℕ) (f : ℤ) → replaced (q ∷ qs) (suc i) p f ≡ q ∷ replaced qs i p f
replaced_next q p qs i f = elim (int_eq f (pos 0)) as (λ b. (if b then remove (q ∷ qs) (suc i) else slice_set (q ∷ qs) (suc i) (record p { factor = f })) ≡ q ∷ (if b then remove qs i else slice_set qs i (record p { factor = f }))) [ true ↦ refl | false ↦ refl ]

mapped_twice : {A B C : Type 0} (f : A → B) (g : B → C) (h : A → C) → ((x : A) → h x ≡ g (f x)) → (o : Option A) → option_map h o ≡ option_map g (option_map f o)
mapped_twice f g h e None = refl
mapped_twice f g h e (Some x) = ap Some (e x)

mapped_same : {A B : Type 0} (f g : A → B) → ((x : A) → f x ≡ g x) → (o : Option A) → option_map f o ≡ option_map g o
mapped_same f g e None = refl
mapped_same f g e (Some x) = ap Some (e x)

put_next : (r : Range) (p q : Entry) (qs : List Entry) (x : Place) → put_on r p (q ∷ qs) (next x) ≡ option_map (λ rest. q ∷ rest) (put_on r p qs x)
put_next r p q qs (Before i) = refl
put_next r p q qs (At i) = mapped_twice (replaced qs i (slice_index_or qs i p)) (λ rest. q ∷ rest) (replaced (q ∷ qs) (suc i) (slice_index_or qs i p)) (λ f. replaced_next q (slice_index_or qs i p) qs i f) (within r ((slice_index_or qs i p).factor +ℤ p.factor))

joined_here : (q : Entry) (qs : List Entry) (f : ℤ) → with_factor q qs f ≡ replaced (q ∷ qs) 0 q f
joined_here q qs f = elim (int_eq f (pos 0)) as (λ b. (if b then qs else record q { factor = f } ∷ qs) ≡ (if b then remove (q ∷ qs) 0 else slice_set (q ∷ qs) 0 (record q { factor = f }))) [ true ↦ refl | false ↦ refl ]

put_place : (r : Range) (p : Entry) (qs : List Entry) → put_in r p qs ≡ put_on r p qs (place p qs)
put_place r p [] = refl
put_place r p (q ∷ qs) =
    let behind : option_map (λ rest. q ∷ rest) (put_in r p qs) ≡ put_on r p (q ∷ qs) (next (place p qs)) = ap (option_map (λ rest. q ∷ rest)) (put_place r p qs) ∙ sym (put_next r p q qs (place p qs)) in
    elim (side p q) as (λ o. by_side o (Some (p ∷ q ∷ qs)) (option_map (with_factor q qs) (within r (q.factor +ℤ p.factor))) (option_map (λ rest. q ∷ rest) (put_in r p qs)) ≡ put_on r p (q ∷ qs) (by_side o (Before 0) (At 0) (next (place p qs)))) [
      | on_side.Before ↦ refl
      | on_side.Same ↦ mapped_same (with_factor q qs) (replaced (q ∷ qs) 0 q) (joined_here q qs) (within r (q.factor +ℤ p.factor))
      | on_side.Behind ↦ behind
    ]

pub put_by_index : (r : Range) (p : Entry) (qs : List Entry) → put_in r p qs ≡ put_on r p qs (place_from 0 p qs)
put_by_index r p qs = put_place r p qs ∙ ap (put_on r p qs) (sym (place_shifted 0 p qs ∙ unshifted (place p qs)))
