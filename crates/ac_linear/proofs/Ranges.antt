-- What leaves 128 bits leaves each range.
use Rattle.std.proofs.Common.{◌≡◌, ℤ, true, false, Some, None, refl, if◌then◌else◌, arith}
use Rattle.std.specs.Int.RustNames.{FitsSigned}
use Rattle.std.proofs.lemmas.Int.{ints}
use mir.Syntax.{w128}
use Rattle.ac_linear.specs.declared.range.Range.{Range}
use Rattle.ac_linear.specs.declared.range.Range.TheVariants.{Coefficient, Machine}
use Rattle.ac_linear.specs.NormalForm.{is_in, within}

fits : (r : Range) (n : ℤ) → is_in r n ≡ true → FitsSigned w128 n
fits Coefficient n h = grind (arith, ints)
fits Machine n h = grind (arith, ints)

pub too_wide : (r : Range) (n : ℤ) → (FitsSigned w128 n → ⊥) → within r n ≡ None
too_wide r n h =
    elim (is_in r n) as (λ b. is_in r n ≡ b → (if b then Some n else None) ≡ None) [
      | true ↦ λ i. absurd (h (fits r n i))
      | false ↦ λ i. refl
    ] refl
