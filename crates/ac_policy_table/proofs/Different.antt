-- Names that differ, one name further.
use Rattle.std.proofs.Common.{◌≡◌, ℕ, ◌<◌, Bool, true, false, not, ◌&&◌, ◌||◌, List, [], ◌∷◌, ◌++◌, refl, sym, ap, ◌∙◌, ◌+◌, suc, length, take, drop, get_or}
use Rattle.std.specs.List.{list_any}
use Rattle.std.specs.Prelude.{bytes_eq, if◌then◌else◌}
use Rattle.std.proofs.lemmas.Bool.{false≢true}
use Rattle.std.proofs.lemmas.List.{take_more}
use Rattle.std.proofs.lemmas.Slice.Eq.{bytes_eq-Decides}
use Rattle.std.proofs.Math.Seq.{split_at}
use Rattle.ac_policy_table.specs.Keys.{Bytes}
use Rattle.ac_policy_table.specs.Values.{are_different}

same-back : (x y : Bytes) (b : Bool) → bytes_eq x y ≡ b → bytes_eq y x ≡ b
same-back x y true e = (bytes_eq-Decides y x).1 (sym ((bytes_eq-Decides x y).0 e))
same-back x y false e = go (bytes_eq y x) refl
  where
    go : (b : Bool) → bytes_eq y x ≡ b → bytes_eq y x ≡ false
    go true h = absurd (false≢true (sym e ∙ (bytes_eq-Decides x y).1 (sym ((bytes_eq-Decides y x).0 h))))
    go false h = h

either : (a b : Bool) → (a || b) ≡ false → (a ≡ false) × (b ≡ false)
either true b e = absurd (false≢true (sym e))
either false b e = (refl, e)

any-behind : (f : Bytes → Bool) (x : Bytes) (xs rest : List Bytes) → f x ≡ true → list_any f (xs ++ x ∷ rest) ≡ true
any-behind f x [] rest e = rw e refl
any-behind f x (y ∷ ys) rest e = go (f y) (any-behind f x ys rest e)
  where
    go : (b : Bool) → list_any f (ys ++ x ∷ rest) ≡ true → (b || list_any f (ys ++ x ∷ rest)) ≡ true
    go true more = refl
    go false more = more

none-behind : (f : Bytes → Bool) (x : Bytes) (xs : List Bytes) → f x ≡ false → list_any f xs ≡ false → list_any f (xs ++ x ∷ []) ≡ false
none-behind f x [] e h = rw e refl
none-behind f x (y ∷ ys) e h =
    let (here, more) = either (f y) (list_any f ys) h in
    rw here (none-behind f x ys e more)

not-both : (a b : Bool) → (not a && b) ≡ true → (a ≡ false) × (b ≡ true)
not-both true b e = absurd (false≢true e)
not-both false b e = (refl, e)

-- a name that is none of those before
differs : (xs : List Bytes) (x : Bytes) → are_different bytes_eq xs ≡ true → list_any (bytes_eq x) xs ≡ false → are_different bytes_eq (xs ++ x ∷ []) ≡ true
differs [] x d n = refl
differs (y ∷ ys) x d n =
    let (free, rest) = not-both (list_any (λ z. bytes_eq z y) ys) (are_different bytes_eq ys) d in
    let (here, more) = either (bytes_eq x y) (list_any (bytes_eq x) ys) n in
    rw (none-behind (λ z. bytes_eq z y) x ys here free) (differs ys x rest more)

and-false : (a b : Bool) → b ≡ false → (a && b) ≡ false
and-false true b e = e
and-false false b e = refl

-- a name that is one of them
repeats : (xs rest : List Bytes) (x : Bytes) → list_any (bytes_eq x) xs ≡ true → are_different bytes_eq (xs ++ x ∷ rest) ≡ false
repeats [] rest x n = absurd (false≢true n)
repeats (y ∷ ys) rest x n = go (bytes_eq x y) refl n (repeats ys rest x)
  where
    go : (b : Bool) → bytes_eq x y ≡ b → (b || list_any (bytes_eq x) ys) ≡ true → (list_any (bytes_eq x) ys ≡ true → are_different bytes_eq (ys ++ x ∷ rest) ≡ false)
        → are_different bytes_eq (y ∷ (ys ++ x ∷ rest)) ≡ false
    go true e h more = rw (any-behind (λ z. bytes_eq z y) x ys rest e) refl
    go false e h more = and-false _ _ (more h)

next : (names : List Bytes) (i : ℕ) (x : Bytes) → i < length names → x ≡ get_or names i x → take (i + 1) names ≡ take i names ++ x ∷ []
next names i x low e = take_more names i x low ∙ ap (λ (y : Bytes). take i names ++ y ∷ []) (sym e)

differs-next : (names : List Bytes) (i : ℕ) (x : Bytes) → i < length names → x ≡ get_or names i x → are_different bytes_eq (take i names) ≡ true → list_any (bytes_eq x) (take i names) ≡ false
    → are_different bytes_eq (take (i + 1) names) ≡ true
differs-next names i x low e d n = ap (are_different bytes_eq) (next names i x low e) ∙ differs (take i names) x d n

repeats-here : (names : List Bytes) (i : ℕ) (x : Bytes) → i < length names → x ≡ get_or names i x → list_any (bytes_eq x) (take i names) ≡ true → are_different bytes_eq names ≡ false
repeats-here names i x low e n =
    ap (are_different bytes_eq) (split_at names i x low ∙ ap (λ (y : Bytes). take i names ++ y ∷ drop (suc i) names) (sym e))
    ∙ repeats (take i names) (drop (suc i) names) x n

-- ---- by a set that has the names so far

taken-is : (b new : Bool) → new ≡ not b → (new ≡ false → b ≡ true) × (new ≡ true → b ≡ false)
taken-is true new e = (λ f. refl, λ t. absurd (false≢true (sym e ∙ t)))
taken-is false new e = (λ f. absurd (false≢true (sym f ∙ e)), λ t. refl)

-- the set has the name already
pub repeats-found : (names seen : List Bytes) (i : ℕ) (x : Bytes) (new : Bool) → seen ≡ take i names → i < length names → x ≡ get_or names i x → new ≡ not (list_any (bytes_eq x) seen) → new ≡ false
    → false ≡ are_different bytes_eq names
repeats-found names seen i x new so_far low e added old =
    sym (repeats-here names i x low e (sym (ap (list_any (bytes_eq x)) so_far) ∙ (taken-is (list_any (bytes_eq x) seen) new added).0 old))

-- it has not, and the name is added
pub seen-next : (names seen after : List Bytes) (i : ℕ) (x : Bytes) (new : Bool) → seen ≡ take i names → i < length names → x ≡ get_or names i x → new ≡ not (list_any (bytes_eq x) seen) → new ≡ true
    → after ≡ (if list_any (bytes_eq x) seen then seen else seen ++ x ∷ []) → after ≡ take (i + 1) names
seen-next names seen after i x new so_far low e added fresh put =
    put ∙ ap (λ (b : Bool). if b then seen else seen ++ x ∷ []) ((taken-is (list_any (bytes_eq x) seen) new added).1 fresh)
    ∙ ap (λ (ys : List Bytes). ys ++ x ∷ []) so_far ∙ sym (next names i x low e)

pub differs-added : (names seen : List Bytes) (i : ℕ) (x : Bytes) (new : Bool) → seen ≡ take i names → i < length names → x ≡ get_or names i x → new ≡ not (list_any (bytes_eq x) seen) → new ≡ true
    → are_different bytes_eq (take i names) ≡ true → are_different bytes_eq (take (i + 1) names) ≡ true
differs-added names seen i x new so_far low e added fresh different =
    differs-next names i x low e different (sym (ap (list_any (bytes_eq x)) so_far) ∙ (taken-is (list_any (bytes_eq x) seen) new added).1 fresh)
