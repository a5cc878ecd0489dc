-- The pairs of terms that are compared, their sides, and the units that a valuation may speak of.
use Rattle.std.specs.Prelude.{◌≡◌, ◌⊎◌, pos, List, [], ◌∷◌, ◌++◌, Bool, true, false, not, Some, Contains}
use Rattle.std.specs.Ordering.{int_eq}
use Rattle.ac_logic.specs.declared.formula.Term.{Term}
use Rattle.ac_logic.specs.declared.formula.ArrayTerm.{ArrayTerm}
use Rattle.ac_logic.specs.declared.formula.Formula.{Formula, True, False, Le, Eq}
use Rattle.ac_logic.specs.Patterns.{Difference, PutOf, Negation, Conjunction, Disjunction, Implication, Every, Labelled}
use Rattle.ac_linear.specs.declared.linear.Linear.{Linear}
use Rattle.ac_linear.specs.declared.linear.Part.{Part}
use Rattle.ac_linear.specs.NormalForm.{normal_of}
use Rattle.ac_ground.specs.declared.cell.Cell.{Cell}
use Rattle.ac_ground.specs.declared.pair.Pair.{Pair}
use Rattle.ac_ground.specs.Numbers.{first_side, second_side, term_of_side}
use Rattle.ac_ground.specs.Reads.{cell, read, reads, accesses}
use Rattle.ac_ground.specs.Opened.{hidden, formula_shape, formula_child, term_shape, term_child, array_shape, array_child}

abbrev pub pair : Term → Term → Pair
pair s t = record { left = s; right = t }

-- the sides of the comparisons of a ground form
abbrev pub comparisons : Formula → List Pair
unfolding hidden formula_shape formula_child
comparisons True = []
comparisons False = []
comparisons (Le s t) = pair s t ∷ []
comparisons (Eq s t) = pair s t ∷ []
comparisons (Negation f) = comparisons f
comparisons (Conjunction f g) = comparisons f ++ comparisons g
comparisons (Disjunction f g) = comparisons f ++ comparisons g
comparisons (Implication f g) = comparisons f ++ comparisons g
comparisons (Every f) = []
comparisons (Labelled l f) = comparisons f

-- The compared pairs s and t of a ground form. Beside these a unit of one sum is compared with a unit of another: they are
-- units already, so their difference has no sum as a side, and is never too wide.
pub data IsCompared (g : Formula) (s t : Term) : Type 0 where
  -- the two sides of a comparison
  sides : Contains (comparisons g) (pair s t) → IsCompared g s t
  -- two indexes in the same place of reads or `put`s of one array
  first_indexes : (c d : Cell) → Contains (accesses g) c → Contains (accesses g) d → c.array ≡ d.array → s ≡ c.first → t ≡ d.first → IsCompared g s t
  second_indexes : (c d : Cell) → Contains (accesses g) c → Contains (accesses g) d → c.array ≡ d.array → s ≡ c.second → t ≡ d.second → IsCompared g s t
  -- a read of a `put` and the written number
  written : (a : ArrayTerm) (i j v : Term) (c : Cell) → Contains (reads g) c → c.array ≡ PutOf a i j v → s ≡ read c → t ≡ v → IsCompared g s t
  -- a read of a `put` and the inner read
  inner : (a : ArrayTerm) (i j v : Term) (c : Cell) → Contains (reads g) c → c.array ≡ PutOf a i j v → s ≡ read c → t ≡ read (cell a c.first c.second) → IsCompared g s t
  -- two reads of one array
  two_reads : (c d : Cell) → Contains (reads g) c → Contains (reads g) d → c.array ≡ d.array → s ≡ read c → t ≡ read d → IsCompared g s t

-- a side of a compared pair
pub record IsSide (g : Formula) (ps : List Part) : Type 0 where
  pub left : Term
  pub right : Term
  pub form : Linear
  pub compared : IsCompared g left right
  pub is_normal : normal_of (Difference left right) ≡ Some form
  pub is_side : (ps ≡ first_side form) ⊎ (ps ≡ second_side form)

-- A side is a sum unless it has no part, or one part of factor 1.
abbrev pub is_sum : List Part → Bool
is_sum [] = false
is_sum (p ∷ []) = not (int_eq p.factor (pos 1))
is_sum (p ∷ q ∷ ps) = true

abbrev pub IsSum : Formula → List Part → Type 0
IsSum g ps = IsSide g ps × (is_sum ps ≡ true)

-- A unit of a ground form: a side of a compared pair, or a part of one.
pub data IsUnit (g : Formula) (u : Term) : Type 0 where
  side : (ps : List Part) → IsSide g ps → term_of_side ps ≡ Some u → IsUnit g u
  part : (ps : List Part) (p : Part) → IsSide g ps → Contains ps p → p.unit ≡ u → IsUnit g u
