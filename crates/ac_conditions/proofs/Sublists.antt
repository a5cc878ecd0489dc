-- Lists that leave out some of another and keep its order: two of them with the same members are one.
use Rattle.std.proofs.Common.{◌≡◌, ◌⊎◌, ℕ, ◌+◌, ◌≤◌, List, [], ◌∷◌, ◌++◌, map, Bool, true, false, refl, sym, ◌∙◌, ap, subst, arith, inl, inr, if◌then◌else◌}
use Rattle.ac_flow.specs.Listed.{IsListed}

abbrev pub IsSublist : {X : Type 0} → List X → List X → Type 0
IsSublist [] ys = Unit {0}
IsSublist (x ∷ xs) [] = ⊥
IsSublist (x ∷ xs) (y ∷ ys) = ((x ≡ y) × IsSublist xs ys) ⊎ IsSublist (x ∷ xs) ys

pub skip : {X : Type 0} (xs : List X) (y : X) (ys : List X) → IsSublist xs ys → IsSublist xs (y ∷ ys)
skip [] y ys h = tt
skip (x ∷ xs) y ys h = inr h

pub late : {X : Type 0} (xs ys zs : List X) → IsSublist xs zs → IsSublist xs (ys ++ zs)
late xs [] zs h = h
late xs (y ∷ ys) zs h = skip xs y (ys ++ zs) (late xs ys zs h)

pub early : {X : Type 0} (xs ys zs : List X) → IsSublist xs ys → IsSublist xs (ys ++ zs)
early [] ys zs h = tt
early (x ∷ xs) [] zs h = absurd h
early (x ∷ xs) (y ∷ ys) zs (inl h) = inl (h.0, early xs ys zs h.1)
early (x ∷ xs) (y ∷ ys) zs (inr h) = inr (early (x ∷ xs) ys zs h)

pub joined : {X : Type 0} (xs us ys vs : List X) → IsSublist xs ys → IsSublist us vs → IsSublist (xs ++ us) (ys ++ vs)
joined [] us ys vs h k = late us ys vs k
joined (x ∷ xs) us [] vs h k = absurd h
joined (x ∷ xs) us (y ∷ ys) vs (inl h) k = inl (h.0, joined xs us ys vs h.1 k)
joined (x ∷ xs) us (y ∷ ys) vs (inr h) k = inr (joined (x ∷ xs) us ys vs h k)

pub same : {X : Type 0} (xs : List X) → IsSublist xs xs
same [] = tt
same (x ∷ xs) = inl (refl, same xs)

pub through : {X : Type 0} (xs ys zs : List X) → IsSublist xs ys → IsSublist ys zs → IsSublist xs zs
through [] ys zs h k = tt
through (x ∷ xs) [] zs h k = absurd h
through (x ∷ xs) (y ∷ ys) [] h k = absurd k
through (x ∷ xs) (y ∷ ys) (z ∷ zs) h (inr k) = inr (through (x ∷ xs) (y ∷ ys) zs h k)
through (x ∷ xs) (y ∷ ys) (z ∷ zs) (inl h) (inl k) = inl (h.0 ∙ k.0, through xs ys zs h.1 k.1)
through (x ∷ xs) (y ∷ ys) (z ∷ zs) (inr h) (inl k) = inr (through (x ∷ xs) ys zs h k.1)

pub when : {X : Type 0} (b : Bool) (xs ys : List X) → IsSublist xs ys → IsSublist (if b then xs else []) ys
when true xs ys h = h
when false xs ys h = tt

pub mapped : {X Y : Type 0} (f : X → Y) (xs ys : List X) → IsSublist xs ys → IsSublist (map f xs) (map f ys)
mapped f [] ys h = tt
mapped f (x ∷ xs) [] h = absurd h
mapped f (x ∷ xs) (y ∷ ys) (inl h) = inl (ap f h.0, mapped f xs ys h.1)
mapped f (x ∷ xs) (y ∷ ys) (inr h) = inr (mapped f (x ∷ xs) ys h)

pub map_append : {X Y : Type 0} (f : X → Y) (xs ys : List X) → map f (xs ++ ys) ≡ map f xs ++ map f ys
map_append f [] ys = refl
map_append {Y = Y} f (x ∷ xs) ys = ap (λ (zs : List Y). f x ∷ zs) (map_append f xs ys)

pub listed : {X : Type 0} (xs ys : List X) → IsSublist xs ys → (x : X) → IsListed xs x → IsListed ys x
listed [] ys h z k = absurd k
listed (x ∷ xs) [] h z k = absurd h
listed (x ∷ xs) (y ∷ ys) (inl h) z (inl e) = inl (e ∙ h.0)
listed (x ∷ xs) (y ∷ ys) (inl h) z (inr k) = inr (listed xs ys h.1 z k)
listed (x ∷ xs) (y ∷ ys) (inr h) z k = inr (listed (x ∷ xs) ys h z k)

-- no member stands twice
abbrev pub AreApart : {X : Type 0} → List X → Type 0
AreApart [] = Unit {0}
AreApart (x ∷ xs) = (IsListed xs x → ⊥) × AreApart xs

apart_tail : {X : Type 0} (x y z : X) (xs ys zs : List X) → y ≡ z → (IsListed zs z → ⊥) → IsSublist xs zs → ((w : X) → IsListed (x ∷ xs) w → IsListed (y ∷ ys) w) → (w : X) → IsListed xs w → IsListed ys w
apart_tail {X = X} x y z xs ys zs e a h f w i = elim (f w (inr i)) [ inl d ↦ absurd (a (subst (λ (v : X). IsListed zs v) (d ∙ e) (listed xs zs h w i))) | inr j ↦ j ]

pub one_list : {X : Type 0} (xs ys zs : List X) → AreApart zs → IsSublist xs zs → IsSublist ys zs → ((z : X) → IsListed xs z → IsListed ys z) → ((z : X) → IsListed ys z → IsListed xs z) → xs ≡ ys
one_list [] [] zs a h k f g = refl
one_list [] (y ∷ ys) zs a h k f g = absurd (g y (inl refl))
one_list (x ∷ xs) [] zs a h k f g = absurd (f x (inl refl))
one_list (x ∷ xs) (y ∷ ys) [] a h k f g = absurd h
one_list {X = X} (x ∷ xs) (y ∷ ys) (z ∷ zs) a (inl h) (inl k) f g =
    ap (λ (l : List X). x ∷ l) (one_list xs ys zs a.1 h.1 k.1 (apart_tail x y z xs ys zs k.0 a.0 h.1 f) (apart_tail y x z ys xs zs h.0 a.0 k.1 g))
    ∙ ap (λ (v : X). v ∷ ys) (h.0 ∙ sym k.0)
one_list (x ∷ xs) (y ∷ ys) (z ∷ zs) a (inl h) (inr k) f g = absurd (a.0 (listed (y ∷ ys) zs k z (f z (inl (sym h.0)))))
one_list (x ∷ xs) (y ∷ ys) (z ∷ zs) a (inr h) (inl k) f g = absurd (a.0 (listed (x ∷ xs) zs h z (g z (inl (sym k.0)))))
one_list (x ∷ xs) (y ∷ ys) (z ∷ zs) a (inr h) (inr k) f g = one_list (x ∷ xs) (y ∷ ys) zs a.1 h k f g

either : {X : Type 0} (us vs : List X) (z : X) → IsListed (us ++ vs) z → IsListed us z ⊎ IsListed vs z
either [] vs z h = inr h
either (u ∷ us) vs z (inl e) = inl (inl e)
either (u ∷ us) vs z (inr h) = elim (either us vs z h) [ inl i ↦ inl (inr i) | inr j ↦ inr j ]

pub apart_append : {X : Type 0} (xs ys : List X) → AreApart xs → AreApart ys → ((z : X) → IsListed xs z → IsListed ys z → ⊥) → AreApart (xs ++ ys)
apart_append [] ys a b f = b
apart_append (x ∷ xs) ys a b f = (λ h. elim (either xs ys x h) [ inl i ↦ a.0 i | inr j ↦ f x (inl refl) j ], apart_append xs ys a.1 b (λ z i j. f z (inr i) j))

-- lists whose members have rising numbers, from a least one on
module _ {X : Type 0} (number : X → ℕ) where
  abbrev pub AreRisingFrom : ℕ → List X → Type 0
  AreRisingFrom i [] = Unit {0}
  AreRisingFrom i (x ∷ xs) = (i ≤ number x) × AreRisingFrom (number x + 1) xs

  above : (i : ℕ) (xs : List X) → AreRisingFrom i xs → (z : X) → IsListed xs z → i ≤ number z
  above i [] r z h = absurd h
  above i (x ∷ xs) r z (inl e) = subst (λ (v : X). i ≤ number v) (sym e) r.0
  above i (x ∷ xs) r z (inr h) = let k = above (number x + 1) xs r.1 z h in let l = r.0 in omega (arith, k, l)

  pub rising_apart : (i : ℕ) (xs : List X) → AreRisingFrom i xs → AreApart xs
  rising_apart i [] r = tt
  rising_apart i (x ∷ xs) r = (λ h. (let k = above (number x + 1) xs r.1 x h in omega (arith, k)), rising_apart (number x + 1) xs r.1)
