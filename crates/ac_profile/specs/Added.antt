-- No promise rests on this file: it says how a profile grows and changes, part by part.
use Rattle.std.specs.Prelude.{◌≡◌, ℕ, ◌+◌, ◌*◌, max, Bool, true, false, ◌||◌, List, [], ◌∷◌, Some, slice_get}
use Rattle.ac_logic.specs.declared.formula.ArrayTerm.{ArrayTerm}
use Rattle.ac_logic.specs.declared.formula.Change.{Change}
use Rattle.ac_logic.specs.declared.formula.Change.TheVariants as change
use Rattle.ac_logic.specs.declared.formula.Formula.{Formula}
use Rattle.ac_logic.specs.declared.formula.Sym.{Sym}
use Rattle.ac_logic.specs.declared.formula.Term.{Term}
use Rattle.ac_logic.specs.Size.{saturated}
use Rattle.ac_logic.specs.Substitution.{sym_eq}
use Rattle.ac_conditions.specs.Weights.{Weights, term_weight, array_weight, weight, after}
use Rattle.ac_profile.specs.declared.counts.Occurrence.{Occurrence}
use Rattle.ac_profile.specs.declared.counts.Place.{Place}
use Rattle.ac_profile.specs.declared.counts.Counts.{Counts}
use Rattle.ac_profile.specs.Profile.{symbol_weight, sizes, depths, profile_size, profile_depth}

-- a profile with something of this size and this depth more at a place
pub record IsMore (old new : Counts) (place : Place) (s d : Weights → ℕ) : Type 0 where
  pub size : (u : Weights) → saturated (profile_size u new) ≡ saturated (profile_size u old + place.count * s u)
  pub depth : (u : Weights) → saturated (profile_depth u new) ≡ saturated (max (profile_depth u old) (place.above + d u))

abbrev pub HasSymbol : Counts → Counts → Place → Sym → Bool → Type 0
HasSymbol old new place s is_array = IsMore old new place (λ u. symbol_weight u is_array s) (λ u. symbol_weight u is_array s)

abbrev pub HasTerm : Counts → Counts → Place → Term → Type 0
HasTerm old new place t = IsMore old new place (λ u. term_weight ◌+◌ u t) (λ u. term_weight max u t)

abbrev pub HasTwoTerms : Counts → Counts → Place → Term → Term → Type 0
HasTwoTerms old new place s t = IsMore old new place (λ u. term_weight ◌+◌ u s + term_weight ◌+◌ u t + 1) (λ u. max (term_weight max u s) (term_weight max u t) + 1)

abbrev pub HasArray : Counts → Counts → Place → ArrayTerm → Type 0
HasArray old new place a = IsMore old new place (λ u. array_weight ◌+◌ u a) (λ u. array_weight max u a)

abbrev pub HasFormula : Counts → Counts → Place → Formula → Type 0
HasFormula old new place f = IsMore old new place (λ u. weight ◌+◌ u f) (λ u. weight max u f)

abbrev pub HasBelow : Counts → Counts → Place → Formula → Type 0
HasBelow old new place f = IsMore old new place (λ u. weight ◌+◌ u f + 1) (λ u. weight max u f + 1)

-- a place one node further down
pub record IsBelow (place under : Place) : Type 0 where
  pub count : under.count ≡ place.count
  pub above : under.above ≡ saturated (place.above + 1)

-- the place at which a symbol stands in a list
pub record IsPlaceOf (os : List Occurrence) (s : Sym) (is_array : Bool) (k : ℕ) : Type 0 where
  pub occurrence : Occurrence
  pub there : slice_get os k ≡ Some occurrence
  pub symbol : occurrence.symbol ≡ s
  pub kind : occurrence.is_array ≡ is_array

-- some occurrences more
pub record IsWith (old new : Counts) (os : List Occurrence) : Type 0 where
  pub size : (u : Weights) → saturated (profile_size u new) ≡ saturated (profile_size u old + sizes u os)
  pub depth : (u : Weights) → saturated (profile_depth u new) ≡ saturated (max (profile_depth u old) (depths u os))

-- two profiles put beside each other
pub record IsBeside (left right new : Counts) : Type 0 where
  pub size : (u : Weights) → saturated (profile_size u new) ≡ saturated (profile_size u left + profile_size u right)
  pub depth : (u : Weights) → saturated (profile_depth u new) ≡ saturated (max (profile_depth u left) (profile_depth u right))

-- everything is deeper by a number
pub record IsRaised (by : ℕ) (old new : Counts) : Type 0 where
  pub size : (u : Weights) → saturated (profile_size u new) ≡ saturated (profile_size u old)
  pub depth : (u : Weights) → saturated (profile_depth u new) ≡ saturated (profile_depth u old + by)

abbrev pub raised : ℕ → Occurrence → Occurrence
raised by o = record o { above = saturated (o.above + by) }

-- whether a change is of a symbol
abbrev pub is_of : Change → Bool → Sym → Bool
is_of (change.Scalar x t) true s = false
is_of (change.Scalar x t) false s = sym_eq x s
is_of (change.Array x a) true s = sym_eq x s
is_of (change.Array x a) false s = false

abbrev pub is_changed : List Change → Bool → Sym → Bool
is_changed [] is_array s = false
is_changed (c ∷ cs) is_array s = is_of c is_array s || is_changed cs is_array s

-- what the changes put in the place of a symbol
abbrev pub HasChanged : List Change → Counts → Counts → Place → Bool → Sym → Type 0
HasChanged cs old new place is_array s = IsMore old new place (λ u. symbol_weight (after ◌+◌ u cs) is_array s) (λ u. symbol_weight (after max u cs) is_array s)

-- occurrences that stay, and others that changes take away
pub record AreParted (cs : List Change) (all kept changed : List Occurrence) : Type 0 where
  pub size : (u : Weights) → sizes (after ◌+◌ u cs) all ≡ sizes u kept + sizes (after ◌+◌ u cs) changed
  pub depth : (u : Weights) → depths (after max u cs) all ≡ max (depths u kept) (depths (after max u cs) changed)

-- what the changes put in the place of some occurrences
pub record IsWithChanged (cs : List Change) (old new : Counts) (os : List Occurrence) : Type 0 where
  pub size : (u : Weights) → saturated (profile_size u new) ≡ saturated (profile_size u old + sizes (after ◌+◌ u cs) os)
  pub depth : (u : Weights) → saturated (profile_depth u new) ≡ saturated (max (profile_depth u old) (depths (after max u cs) os))

-- a profile after changes
pub record IsAfter (cs : List Change) (old new : Counts) : Type 0 where
  pub size : (u : Weights) → saturated (profile_size u new) ≡ saturated (profile_size (after ◌+◌ u cs) old)
  pub depth : (u : Weights) → saturated (profile_depth u new) ≡ saturated (profile_depth (after max u cs) old)
