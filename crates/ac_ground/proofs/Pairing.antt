-- Parts that can be paired are a permutation of each other.
use Rattle.std.proofs.Common.{◌≡◌, ℕ, zero, suc, ◌+◌, ◌<◌, length, take, drop, get_or, Bool, true, false, not, List, [], ◌∷◌, ◌++◌, refl, sym, ◌∙◌, ap, if◌then◌else◌, ◌&&◌, ◌||◌, arith}
use Rattle.std.specs.List.{list_any, sum_by}
use Rattle.std.specs.List.Sorted.{IsPermutation}
use Rattle.std.specs.Ordering.{int_eq}
use Rattle.std.proofs.lemmas.Bool.{false≢true}
use Rattle.std.proofs.lemmas.Bool.Decides.{Decides-int_eq}
use Rattle.std.proofs.lemmas.List.Sorted.{IsPermutation-refl, IsPermutation-sym, IsPermutation-trans, IsPermutation-cons, IsPermutation-middle, sum_by-IsPermutation}
use Rattle.std.proofs.lemmas.List.Sums.{sum_by-cons}
use Rattle.ac_ground.specs.declared.sum.NumberedPart.{NumberedPart}
use Rattle.ac_ground.specs.Sums.{pairs_off, part_eq, without}
use Rattle.ac_ground.proofs.Once.{left, right, both}

pub part_same : (x y : NumberedPart) → part_eq x y ≡ true → x ≡ y
part_same x y h =
    let f = (Decides-int_eq x.factor y.factor).0 (left _ _ h) in
    let n = (Decides-int_eq x.number y.number).0 (right _ _ h) in
    λ z. record { factor = f z; number = n z }

part_itself : (x : NumberedPart) → part_eq x x ≡ true
part_itself x = both _ _ ((Decides-int_eq x.factor x.factor).1 refl) ((Decides-int_eq x.number x.number).1 refl)

swapped : (x y : NumberedPart) (zs : List NumberedPart) → IsPermutation (x ∷ y ∷ zs) (y ∷ x ∷ zs)
swapped x y zs = IsPermutation-middle (x ∷ []) y zs

-- the part that is taken, in front of the rest
taken : (x : NumberedPart) (ys : List NumberedPart) → list_any (part_eq x) ys ≡ true → IsPermutation (x ∷ without x ys) ys
taken x [] h = absurd (false≢true h)
taken x (y ∷ ys) h =
    elim (part_eq x y) as (λ b. part_eq x y ≡ b → (b || list_any (part_eq x) ys) ≡ true → IsPermutation (x ∷ (if b then ys else y ∷ without x ys)) (y ∷ ys)) [
      | true ↦ λ e k. rw (part_same x y e) (IsPermutation-refl (y ∷ ys))
      | false ↦ λ e k. IsPermutation-trans _ _ _ (swapped x y (without x ys)) (IsPermutation-cons y _ _ (taken x ys k))
    ] refl h

pub paired_permute : (xs ys : List NumberedPart) → pairs_off xs ys ≡ true → IsPermutation xs ys
paired_permute [] [] h = IsPermutation-refl []
paired_permute [] (y ∷ ys) h = absurd (false≢true h)
paired_permute (x ∷ xs) ys h =
    IsPermutation-trans _ _ _ (IsPermutation-cons x _ _ (paired_permute xs (without x ys) (right _ _ h))) (taken x ys (left _ _ h))

-- how often a part stands in a list
abbrev one : Bool → ℕ
one b = if b then 1 else 0

abbrev count : NumberedPart → List NumberedPart → ℕ
count z xs = sum_by (λ y. one (part_eq z y)) xs

count_cons : (z y : NumberedPart) (ys : List NumberedPart) → count z (y ∷ ys) ≡ one (part_eq z y) + count z ys
count_cons z y ys = sum_by-cons (λ y. one (part_eq z y)) y ys

found : (z : NumberedPart) (ys : List NumberedPart) (n : ℕ) → count z ys ≡ 1 + n → list_any (part_eq z) ys ≡ true
found z [] n h = absurd (omega (arith, h))
found z (y ∷ ys) n h =
    elim (part_eq z y) as (λ b. one b + count z ys ≡ 1 + n → (b || list_any (part_eq z) ys) ≡ true) [
      | true ↦ λ k. refl
      | false ↦ λ k. found z ys n (omega (arith, k))
    ] (sym (count_cons z y ys) ∙ h)

move : (a b c d e : ℕ) → c ≡ b + d → e ≡ a + d → a + c ≡ b + e
move a b c d e h k = omega (arith, h, k)

less : (x z : NumberedPart) (ys : List NumberedPart) → list_any (part_eq x) ys ≡ true → count z ys ≡ one (part_eq z x) + count z (without x ys)
less x z [] h = absurd (false≢true h)
less x z (y ∷ ys) h =
    count_cons z y ys ∙ elim (part_eq x y) as (λ b. part_eq x y ≡ b → (b || list_any (part_eq x) ys) ≡ true → one (part_eq z y) + count z ys ≡ one (part_eq z x) + count z (if b then ys else y ∷ without x ys)) [
      | true ↦ λ e k. ap (λ w. one (part_eq z w) + count z ys) (sym (part_same x y e))
      | false ↦ λ e k. move (one (part_eq z y)) (one (part_eq z x)) (count z ys) (count z (without x ys)) (count z (y ∷ without x ys)) (less x z ys k) (count_cons z y (without x ys))
    ] refl h

cancel : (a b c d : ℕ) → a ≡ b + c → a ≡ b + d → c ≡ d
cancel a b c d h k = omega (arith, h, k)

none_left : (n : ℕ) → 1 + n ≡ 0 → ⊥
none_left n h = omega (arith, h)

counted : (xs ys : List NumberedPart) → ((z : NumberedPart) → count z ys ≡ count z xs) → pairs_off xs ys ≡ true
counted [] [] h = refl
counted [] (y ∷ ys) h = absurd (none_left (count y ys) (ap (λ b. one b + count y ys) (sym (part_itself y)) ∙ (sym (count_cons y y ys) ∙ h y)))
counted (x ∷ xs) ys h =
    let a : list_any (part_eq x) ys ≡ true = found x ys (count x xs) (h x ∙ (count_cons x x xs ∙ ap (λ b. one b + count x xs) (part_itself x))) in
    both _ _ a (counted xs (without x ys) (λ z. cancel (count z ys) (one (part_eq z x)) (count z (without x ys)) (count z xs) (less x z ys a) (h z ∙ count_cons z x xs)))

pub permuted_pair : (xs ys : List NumberedPart) → IsPermutation xs ys → pairs_off xs ys ≡ true
permuted_pair xs ys p = counted xs ys (λ z. sum_by-IsPermutation (λ y. one (part_eq z y)) xs ys p)

-- the first such part, taken by its place
not_first : (b c : Bool) → (b || c) ≡ false → (b ≡ false) × (c ≡ false)
not_first true c h = absurd (false≢true (sym h))
not_first false c h = (refl, h)

pub without_at : (x : NumberedPart) (xs : List NumberedPart) (k : ℕ) (d : NumberedPart) → k < length xs → list_any (part_eq x) (take k xs) ≡ false → part_eq x (get_or xs k d) ≡ true → take k xs ++ drop (suc k) xs ≡ without x xs
without_at x [] k d l h e = absurd (omega (arith, l))
without_at x (y ∷ ys) zero d l h e = ap (λ b. if b then ys else y ∷ without x ys) (sym e)
without_at x (y ∷ ys) (suc k) d l h e =
    let f = not_first (part_eq x y) (list_any (part_eq x) (take k ys)) h in
    ap (λ zs. y ∷ zs) (without_at x ys k d (omega (arith, l)) f.1 e) ∙ ap (λ b. if b then ys else y ∷ without x ys) (sym f.0)
