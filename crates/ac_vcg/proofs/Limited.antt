-- Numbers that are told up to the largest u64 pass a limit where the numbers do.
use Rattle.std.proofs.Common.{◌≡◌, ℕ, ◌+◌, ◌-◌, ◌^◌, ◌<◌, ◌≤◌, min, nat_lt, true, false, ◌⊎◌, inl, inr, sym, ◌∙◌, ap, arith}
use Rattle.std.proofs.lemmas.Bool.Decides.{nat_tests}
use Rattle.ac_tree.specs.declared.limit.LimitKind.TheVariants as kind
use Rattle.ac_tree.specs.declared.path.Pair.{Pair}
use Rattle.ac_logic.specs.Size.{saturated}
use Rattle.ac_profile.specs.Profile.{capped}
use Rattle.ac_vcg.specs.declared.fault.VcgFault.TheVariants as fault
use Rattle.ac_vcg.specs.Refusals.{is_above, refusal_if, size_refusal, depth_refusal, total_refusal, number_refusal}

told : (m l x y : ℕ) → l < m → min x m ≡ min y m → nat_lt l x ≡ nat_lt l y
told m l x y h e = elim (low_or_high l x) [ inl a ↦ both (above a) (above (omega (arith, h, e, a))) | inr b ↦ neither (below b) (below (omega (arith, h, e, b))) ]
  where
    low_or_high : (a b : ℕ) → (a < b) ⊎ (b ≤ a)
    low_or_high a b = grind arith

    above : {n : ℕ} → l < n → nat_lt l n ≡ true
    above k = grind (arith, nat_tests)

    below : {n : ℕ} → n ≤ l → nat_lt l n ≡ false
    below k = grind (arith, nat_tests)

    both : nat_lt l x ≡ true → nat_lt l y ≡ true → nat_lt l x ≡ nat_lt l y
    both p q = p ∙ sym q

    neither : nat_lt l x ≡ false → nat_lt l y ≡ false → nat_lt l x ≡ nat_lt l y
    neither p q = p ∙ sym q

pub same_sizes : (pair : Pair) (x y : ℕ) → saturated x ≡ saturated y → size_refusal pair x ≡ size_refusal pair y
same_sizes pair x y h = ap (λ b. refusal_if b (fault.Size pair 200000)) (told (2 ^ 64 - 1) 200000 x y (omega arith) h)

pub same_depths : (pair : Pair) (x y : ℕ) → capped x ≡ capped y → depth_refusal pair x ≡ depth_refusal pair y
same_depths pair x y h = ap (λ b. refusal_if b (fault.Depth pair 1024)) (told (2 ^ 32) 1024 x y (omega arith) h)

pub same_totals : (x y : ℕ) → saturated x ≡ saturated y → total_refusal x ≡ total_refusal y
same_totals x y h = ap (λ b. refusal_if b (fault.Total 20000000)) (told (2 ^ 64 - 1) 20000000 x y (omega arith) h)

pub same_counts : (x y : ℕ) → saturated x ≡ saturated y → is_above kind.Conditions x ≡ is_above kind.Conditions y
same_counts x y h = told (2 ^ 64 - 1) 20000 x y (omega arith) h

pub same_numbers : (x y : ℕ) → is_above kind.Conditions x ≡ is_above kind.Conditions y → number_refusal x ≡ number_refusal y
same_numbers x y h = ap (λ b. refusal_if b (fault.Count 20000)) h

-- a part that is beyond the limit decides for the whole
more_above : (m l x rest all : ℕ) → l < m → l < x → min (x + rest) m ≡ min all m → l < all
more_above m l x rest all h k e = omega (arith, h, k, e)

pub already_above : (x rest all : ℕ) → 20000 < x → saturated (x + rest) ≡ saturated all → is_above kind.Conditions x ≡ is_above kind.Conditions all
already_above x rest all h e = above x h ∙ sym (above all (more_above (2 ^ 64 - 1) 20000 x rest all (omega arith) h e))
  where
    above : (n : ℕ) → 20000 < n → nat_lt 20000 n ≡ true
    above n k = grind (arith, nat_tests, k)
