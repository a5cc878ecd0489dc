-- Products of saturated numbers.
use Rattle.std.proofs.Common.{◌≡◌, ℕ, zero, suc, ◌+◌, ◌*◌, ◌<◌, ◌≤◌, min, ⊎_elim, ◌∙◌, ap, arith}
use Rattle.std.proofs.lemmas.Bool.{cases_lt}
use Rattle.std.proofs.lemmas.Nat.{mul-le}
use Rattle.ac_logic.specs.Size.{saturated}

capped_none : (l m y z : ℕ) → z ≡ min (0 * y) l → z ≡ min (0 * (m + 1)) l
capped_none l m y z r = omega arith

capped_small : (l n m x y z : ℕ) → m < l → x ≡ min m l → y ≡ min (x + 1) l → z ≡ min (n * y) l → z ≡ min (n * (m + 1)) l
capped_small l n m x y z h p q r = let e : y ≡ m + 1 = omega arith in r ∙ ap (λ v. min (n * v) l) e

past : (l m x y a b z : ℕ) → l ≤ m → x ≡ min m l → y ≡ min (x + 1) l → 1 * y ≤ a → 1 * (m + 1) ≤ b → z ≡ min a l → z ≡ min b l
past l m x y a b z h p q ya mb r = omega arith

capped_large : (l k m x y z : ℕ) → l ≤ m → x ≡ min m l → y ≡ min (x + 1) l → z ≡ min (suc k * y) l → z ≡ min (suc k * (m + 1)) l
capped_large l k m x y z h p q r = past l m x y _ _ z h p q (mul-le 1 y (suc k) y (omega arith) (omega arith)) (mul-le 1 (m + 1) (suc k) (m + 1) (omega arith) (omega arith)) r

capped : (l n m x y z : ℕ) → x ≡ min m l → y ≡ min (x + 1) l → z ≡ min (n * y) l → z ≡ min (n * (m + 1)) l
capped l zero m x y z p q r = capped_none l m y z r
capped l (suc k) m x y z p q r = ⊎_elim (λ h. capped_small l (suc k) m x y z h p q r) (λ h. capped_large l k m x y z h p q r) (cases_lt m l)

pub capped_product : (n m x y z : ℕ) → x ≡ saturated m → y ≡ saturated (x + 1) → z ≡ saturated (n * y) → z ≡ saturated (n * (m + 1))
capped_product n m x y z p q r = capped _ n m x y z p q r
