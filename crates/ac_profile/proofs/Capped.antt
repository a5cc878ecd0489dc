-- Sums, products and maxima of numbers that are told up to the largest u64.
use Rattle.std.proofs.Common.{◌≡◌, ℕ, zero, suc, ◌+◌, ◌*◌, ◌-◌, ◌^◌, ◌<◌, ◌≤◌, ◌⊎◌, inl, inr, min, max, refl, sym, ◌∙◌, ap, arith}
use Rattle.ac_logic.specs.Size.{saturated}

-- with any bound

capped_sum : (m x y c : ℕ) → min x m ≡ min y m → min (x + c) m ≡ min (y + c) m
capped_sum m x y c h = omega (arith, h)

capped_max : (m x y c : ℕ) → min x m ≡ min y m → min (max x c) m ≡ min (max y c) m
capped_max m x y c h = omega (arith, h)

grown : (a w m : ℕ) → m ≤ a → m ≤ a * suc w
grown a w m h = grind (arith, h)

capped_times : (m x y w : ℕ) → min x m ≡ min y m → min (x * w) m ≡ min (y * w) m
capped_times m x y zero h = omega (arith, h)
capped_times m x y (suc w) h = elim (low_or_high x m) [ inl l ↦ ap (λ z. min (z * suc w) m) (same l) | inr k ↦ large k (other k) ]
  where
    low_or_high : (a b : ℕ) → (a < b) ⊎ (b ≤ a)
    low_or_high a b = grind arith

    same : x < m → x ≡ y
    same l = omega (arith, h, l)

    other : m ≤ x → m ≤ y
    other k = omega (arith, h, k)

    large : m ≤ x → m ≤ y → min (x * suc w) m ≡ min (y * suc w) m
    large k l = let a : m ≤ x * suc w = grown x w m k in let b : m ≤ y * suc w = grown y w m l in omega (arith, a, b)

-- with the largest u64

pub same_sum : (x y c : ℕ) → saturated x ≡ saturated y → saturated (x + c) ≡ saturated (y + c)
same_sum x y c h = capped_sum (2 ^ 64 - 1) x y c h

pub same_max : (x y c : ℕ) → saturated x ≡ saturated y → saturated (max x c) ≡ saturated (max y c)
same_max x y c h = capped_max (2 ^ 64 - 1) x y c h

pub same_times : (x y w : ℕ) → saturated x ≡ saturated y → saturated (x * w) ≡ saturated (y * w)
same_times x y w h = capped_times (2 ^ 64 - 1) x y w h

-- a saturated number counts as the number
saturated_twice : (m x : ℕ) → min (min x m) m ≡ min x m
saturated_twice m x = omega arith

pub twice : (x : ℕ) → saturated (saturated x) ≡ saturated x
twice x = saturated_twice (2 ^ 64 - 1) x

-- two steps in one

two_sums : (m s0 s1 s2 c a b : ℕ) → min s1 m ≡ min (s0 + c * a) m → min s2 m ≡ min (s1 + c * b) m → min s2 m ≡ min (s0 + c * (a + b)) m
two_sums m s0 s1 s2 c a b h k = omega (arith, h, k)

pub sums : (s0 s1 s2 c a b : ℕ) → saturated s1 ≡ saturated (s0 + c * a) → saturated s2 ≡ saturated (s1 + c * b) → saturated s2 ≡ saturated (s0 + c * (a + b))
sums s0 s1 s2 c a b h k = two_sums (2 ^ 64 - 1) s0 s1 s2 c a b h k

two_maxima : (m d0 d1 d2 p q a b : ℕ) → min d1 m ≡ min (max d0 (p + a)) m → q ≡ min (p + 1) m → min d2 m ≡ min (max d1 (q + b)) m → min d2 m ≡ min (max d0 (p + max a (b + 1))) m
two_maxima m d0 d1 d2 p q a b h e k = omega (arith, h, e, k)

pub maxima : (d0 d1 d2 p q a b : ℕ) → saturated d1 ≡ saturated (max d0 (p + a)) → q ≡ saturated (p + 1) → saturated d2 ≡ saturated (max d1 (q + b)) → saturated d2 ≡ saturated (max d0 (p + max a (b + 1)))
maxima d0 d1 d2 p q a b h e k = two_maxima (2 ^ 64 - 1) d0 d1 d2 p q a b h e k

-- a part more before both

before_sum : (m x y z k : ℕ) → min y m ≡ min (z + k) m → min (x + y) m ≡ min (x + z + k) m
before_sum m x y z k h = omega (arith, h)

pub past_sum : (x y z k : ℕ) → saturated y ≡ saturated (z + k) → saturated (x + y) ≡ saturated (x + z + k)
past_sum x y z k h = before_sum (2 ^ 64 - 1) x y z k h
