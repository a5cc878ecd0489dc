-- When a valuation falsifies a formula.
use Rattle.std.specs.Prelude.{◌≡◌, ◌≢◌, ⊤, List, map, Bool, true, false, ◌&&◌, Contains, All, AllPairs}
use Rattle.std.specs.List.Sorted.{IsPermutation}
use Rattle.ac_logic.specs.declared.formula.Term.{Term}
use Rattle.ac_logic.specs.declared.formula.ArrayTerm.{ArrayTerm}
use Rattle.ac_logic.specs.declared.formula.Formula.{Formula}
use Rattle.ac_logic.specs.Patterns.{Array, PutOf}
use Rattle.ac_linear.specs.declared.linear.Part.{Part}
use Rattle.ac_expand.specs.Ground.{ground_form}
use Rattle.ac_ground.specs.declared.cell.Cell.{Cell}
use Rattle.ac_ground.specs.declared.sum.NumberedPart.{NumberedPart}
use Rattle.ac_ground.specs.declared.valuation.Valuation.{Valuation}
use Rattle.ac_ground.specs.Numbers.{number, number_of_side, equal}
use Rattle.ac_ground.specs.Truth.{truth}
use Rattle.ac_ground.specs.Reads.{cell, read, reads}
use Rattle.ac_ground.specs.Compared.{IsSum, IsUnit}
use Rattle.ac_ground.specs.Opened.{hidden, term_shape, term_child, array_shape, array_child}

-- Two reads of one array have equal numbers where their first and their second indexes are equal.
abbrev pub AgreeOn : Valuation → Cell → Cell → Type 0
AgreeOn v c d = c.array ≡ d.array → equal v c.first d.first ≡ true → equal v c.second d.second ≡ true → equal v (read c) (read d) ≡ true

-- A read of a `put` equals the written number where both indexes are equal, and the inner read elsewhere.
abbrev pub IsReadOfPut : Valuation → ArrayTerm → Term → Term → Type 0
unfolding hidden term_shape term_child array_shape array_child
IsReadOfPut v (Array s) k l = ⊤
IsReadOfPut v (PutOf a i j w) k l = ((equal v i k && equal v j l) ≡ true → equal v (read (cell (PutOf a i j w) k l)) w ≡ true) × ((equal v i k && equal v j l) ≡ false → equal v (read (cell (PutOf a i j w) k l)) (read (cell a k l)) ≡ true)

-- the factors of parts with the numbers of their units
abbrev pub numbered : Valuation → List Part → List NumberedPart
numbered v ps = map (λ p. record { factor = p.factor; number = number v p.unit }) ps

-- Two sums have equal numbers where their parts can be paired with equal factors and equal numbers.
abbrev pub AgreeInParts : Valuation → List Part → List Part → Type 0
AgreeInParts v ps qs = IsPermutation (numbered v ps) (numbered v qs) → number_of_side v ps ≡ number_of_side v qs

-- The valuation falsifies a ground form. That no box combination of its facts contradicts is not asked here: it is the
-- clause `NoBoxContradicts` of `Boxes`.
pub record FalsifiesGround (v : Valuation) (g : Formula) : Type 0 where
  pub is_false : truth v g ≡ false
  pub reads_agree : (c d : Cell) → Contains (reads g) c → Contains (reads g) d → AgreeOn v c d
  pub puts_agree : (c : Cell) → Contains (reads g) c → IsReadOfPut v c.array c.first c.second
  pub sums_agree : (ps qs : List Part) → IsSum g ps → IsSum g qs → AgreeInParts v ps qs

-- It falsifies a formula where it falsifies its ground form.
abbrev pub Falsifies : Valuation → Formula → Type 0
Falsifies v f = FalsifiesGround v (ground_form f)

-- A table of units: each unit stands once, and is a side of a compared pair or a part of one.
pub record IsTable (v : Valuation) (g : Formula) : Type 0 where
  pub once : AllPairs (λ x y. x.unit ≢ y.unit) v.entries
  pub units : All (λ x. IsUnit g x.unit) v.entries
