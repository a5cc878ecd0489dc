-- What a profile says of a formula: its size and its depth, whatever its symbols count.
use Rattle.std.specs.Prelude.{◌≡◌, ℕ, ◌+◌, ◌*◌, ◌^◌, min, max, Bool, true, false, List, [], ◌∷◌}
use Rattle.ac_logic.specs.declared.formula.Formula.{Formula}
use Rattle.ac_logic.specs.declared.formula.Sym.{Sym}
use Rattle.ac_logic.specs.Size.{saturated}
use Rattle.ac_conditions.specs.Weights.{Weights, weight}
use Rattle.ac_profile.specs.declared.counts.Occurrence.{Occurrence}
use Rattle.ac_profile.specs.declared.counts.Counts.{Counts}
use Rattle.ac_profile.specs.declared.profile.Profile.{Profile}

-- what a symbol counts, as an array or as a scalar
abbrev pub symbol_weight : Weights → Bool → Sym → ℕ
symbol_weight u true s = u.array s
symbol_weight u false s = u.scalar s

-- the part of the symbols in the size: each counts as often as it occurs
abbrev pub sizes : Weights → List Occurrence → ℕ
sizes u [] = 0
sizes u (o ∷ os) = o.count * symbol_weight u o.is_array o.symbol + sizes u os

-- and in the depth: each counts below the nodes above it
abbrev pub depths : Weights → List Occurrence → ℕ
depths u [] = 0
depths u (o ∷ os) = max (o.above + symbol_weight u o.is_array o.symbol) (depths u os)

abbrev pub profile_size : Weights → Counts → ℕ
profile_size u p = p.nodes + sizes u p.symbols.items

abbrev pub profile_depth : Weights → Counts → ℕ
profile_depth u p = max p.depth (depths u p.symbols.items)

-- A profile has a size and a depth, whatever the symbols count, up to the largest u64. Depths are counted from its base.
pub record HasMeasures (p : Profile) (s d : Weights → ℕ) : Type 0 where
  pub size : (u : Weights) → saturated (profile_size u p.counts) ≡ saturated (s u)
  pub depth : (u : Weights) → saturated (profile_depth u p.counts) ≡ saturated (p.base + d u)

-- It is that of a formula where it has its size and depth.
abbrev pub IsProfile : Profile → Formula → Type 0
IsProfile p f = HasMeasures p (λ u. weight ◌+◌ u f) (λ u. weight max u f)

-- what is told of a depth: itself, or something as large where it is larger
abbrev pub capped : ℕ → ℕ
capped n = min n (2 ^ 32)
