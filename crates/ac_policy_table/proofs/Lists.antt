-- Filters and lists of options, one item further.
use Rattle.std.proofs.Common.{◌≡◌, ◌<◌, ◌+◌, ℕ, Bool, true, false, cond, List, [], ◌∷◌, ◌++◌, refl, sym, filter, drop, get_or, length, append_assoc}
use Rattle.std.proofs.lemmas.List.{drop_more}

here : {A : Type 0} (f : A → Bool) (done rest : List A) (x : A) (b : Bool) → f x ≡ b → done ++ filter f (x ∷ rest) ≡ cond b ((done ++ x ∷ []) ++ filter f rest) (done ++ filter f rest)
here f done rest x true e = rw e (sym (append_assoc done (x ∷ []) (filter f rest)))
here f done rest x false e = rw e refl

pub filter-kept : {A : Type 0} (f : A → Bool) (done xs : List A) (i : ℕ) (d : A) → i < length xs → f (get_or xs i d) ≡ true
    → (done ++ get_or xs i d ∷ []) ++ filter f (drop (i + 1) xs) ≡ done ++ filter f (drop i xs)
filter-kept f done xs i d low e = rw (drop_more xs i d low) (sym (here f done (drop (i + 1) xs) (get_or xs i d) true e))

pub filter-left : {A : Type 0} (f : A → Bool) (done xs : List A) (i : ℕ) (d : A) → i < length xs → f (get_or xs i d) ≡ false
    → done ++ filter f (drop (i + 1) xs) ≡ done ++ filter f (drop i xs)
filter-left f done xs i d low e = rw (drop_more xs i d low) (sym (here f done (drop (i + 1) xs) (get_or xs i d) false e))
