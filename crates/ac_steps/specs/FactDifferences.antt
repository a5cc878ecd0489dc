-- What facts say of differences of units, and when they contradict.
use Rattle.std.specs.Prelude.{◌≡◌, ℕ, ℤ, pos, neg_ℤ, ◌+ℤ◌, ◌-ℤ◌, ◌*ℤ◌, ◌<ℤ◌, List, [], ◌∷◌, map, Some}
use Rattle.ac_logic.specs.declared.formula.Term.{Term}
use Rattle.ac_logic.specs.declared.formula.Formula.{Formula}
use Rattle.ac_linear.specs.declared.linear.Linear.{Linear}
use Rattle.ac_linear.specs.declared.linear.Part.{Part}
use Rattle.ac_diff.specs.declared.diff.Diff.{Diff}
use Rattle.ac_diff.specs.Differences.{difference, total}
use Rattle.ac_proof.specs.Linear.{fact}

-- the sum of factor times number_of_parts, whatever each unit weighs
abbrev pub number_of_parts : (Term → ℤ) → List Part → ℤ
number_of_parts g [] = pos 0
number_of_parts g (p ∷ ps) = (p.factor *ℤ g p.unit) +ℤ number_of_parts g ps

-- A linear form, which is at most 0, is a difference of two sides, which is at most its bound: the constant is minus the
-- bound, and whatever numbers the units have, the parts sum to the first side less the second. Side k has the parts `sides k`.
pub record IsDifference (sides : ℕ → List Part) (l : Linear) (d : Diff) : Type 0 where
  pub constant : l.constant ≡ neg_ℤ d.bound
  pub parts : (g : Term → ℤ) → number_of_parts g l.parts ≡ difference (λ k. number_of_parts g (sides k)) d

-- The formula u <= v says that the difference is at most its bound.
abbrev pub Says : (ℕ → List Part) → Formula → Diff → Type 0
Says sides f d = (l : Linear) × (fact f ≡ Some l) × IsDifference sides l d

abbrev pub Say : (ℕ → List Part) → List Formula → List Diff → Type 0
Say sides [] [] = Unit {0}
Say sides (f ∷ fs) (d ∷ ds) = Says sides f d × Say sides fs ds
Say sides fs ds = ⊥

-- The units of the differences cancel, and their bounds sum below 0.
pub record Contradict (ds : List Diff) : Type 0 where
  pub cancel : (x : ℕ → ℤ) → total (difference x) ds ≡ pos 0
  pub below : total (λ d. d.bound) ds <ℤ pos 0

-- Where a difference is not at most its bound, its reverse is at most this.
abbrev pub reversed : Diff → Diff
reversed d = record { plus = d.minus; minus = d.plus; bound = neg_ℤ d.bound -ℤ pos 1 }

-- each fact once
abbrev pub once : {A : Type 0} → List A → List ℕ
once xs = map (λ x. 1) xs
