-- Sums with the numbers of their parts, by which sums are compared.
-- No promise rests on this file: it says what the code keeps on the way.
use Rattle.std.specs.Prelude.{List, [], ◌∷◌, ◌++◌, map, fold, Bool, true, false, not, ◌&&◌, ◌||◌, if◌then◌else◌, Option, None, Some}
use Rattle.std.specs.List.{list_all, list_any}
use Rattle.std.specs.Ordering.{int_eq}
use Rattle.ac_logic.specs.declared.formula.ArrayTerm.{ArrayTerm}
use Rattle.ac_logic.specs.declared.formula.Formula.{Formula}
use Rattle.ac_logic.specs.Patterns.{Array, PutOf, Difference}
use Rattle.ac_linear.specs.TermEquality.{array_eq}
use Rattle.ac_linear.specs.declared.linear.Linear.{Linear}
use Rattle.ac_linear.specs.declared.linear.Part.{Part}
use Rattle.ac_linear.specs.NormalForm.{normal_of}
use Rattle.ac_ground.specs.declared.cell.Cell.{Cell}
use Rattle.ac_ground.specs.declared.index.Index.{Index}
use Rattle.ac_ground.specs.declared.pair.Pair.{Pair}
use Rattle.ac_ground.specs.declared.sum.NumberedPart.{NumberedPart}
use Rattle.ac_ground.specs.declared.sum.NumberedSum.{NumberedSum}
use Rattle.ac_ground.specs.declared.valuation.Valuation.{Valuation}
use Rattle.ac_ground.specs.Compared.{comparisons, is_sum, pair}
use Rattle.ac_ground.specs.Numbers.{first_side, second_side, number_of_side}
use Rattle.ac_ground.specs.Reads.{cell, puts_in, on_sides, read, reads}
use Rattle.ac_ground.specs.Falsifies.{numbered}
use Rattle.ac_ground.specs.Table.{agrees, first_index, is_read_of_put, second_index, with_cell, with_index}
use Rattle.ac_ground.specs.Wide.{is_wide, is_wide_pair}
use Rattle.ac_ground.specs.Opened.{hidden, term_shape, term_child, array_shape, array_child}

abbrev pub part_eq : NumberedPart → NumberedPart → Bool
part_eq x y = int_eq x.factor y.factor && int_eq x.number y.number

-- the list without the first such part
abbrev pub without : NumberedPart → List NumberedPart → List NumberedPart
without x [] = []
without x (y ∷ ys) = if part_eq x y then ys else y ∷ without x ys

-- whether the parts can be paired
abbrev pub pairs_off : List NumberedPart → List NumberedPart → Bool
pairs_off [] [] = true
pairs_off [] (y ∷ ys) = false
pairs_off (x ∷ xs) ys = list_any (part_eq x) ys && pairs_off xs (without x ys)

abbrev pub sum_of_side : Valuation → List Part → List NumberedSum
sum_of_side v ps = if is_sum ps then record { parts = numbered v ps; number = number_of_side v ps } ∷ [] else []

abbrev pub sums_of_form : Valuation → Linear → List NumberedSum
sums_of_form v l = sum_of_side v (first_side l) ++ sum_of_side v (second_side l)

abbrev pub sums_of_difference : Valuation → Option Linear → List NumberedSum
sums_of_difference v None = []
sums_of_difference v (Some l) = sums_of_form v l

unfoldable pub sums_between : Valuation → Pair → List NumberedSum
unfolding hidden term_shape term_child array_shape array_child
sums_between v p = sums_of_difference v (normal_of (Difference p.left p.right))

abbrev pub sums_of : Valuation → List Pair → List NumberedSum
sums_of v [] = []
sums_of v (p ∷ ps) = sums_between v p ++ sums_of v ps

-- two sums as they have to be
abbrev pub sums_pass : NumberedSum → NumberedSum → Bool
sums_pass a b = int_eq a.number b.number || not (pairs_off a.parts b.parts)

-- the pairs of an index with others of its array
abbrev pub index_pairs_with : Index → List Index → List Pair
index_pairs_with x [] = []
index_pairs_with x (y ∷ ys) = (if array_eq x.array y.array then pair x.term y.term ∷ [] else []) ++ index_pairs_with x ys

abbrev pub index_pairs : List Index → List Index → List Pair
index_pairs [] ys = []
index_pairs (x ∷ xs) ys = index_pairs_with x ys ++ index_pairs xs ys

-- the pairs of a read of a `put`: with the written number, and with the inner read
abbrev pub put_pairs_at : ArrayTerm → Cell → List Pair
unfolding hidden term_shape term_child array_shape array_child
put_pairs_at (Array s) c = []
put_pairs_at (PutOf a i j w) c = pair (read c) w ∷ pair (read c) (read (cell a c.first c.second)) ∷ []

abbrev pub put_pairs : List Cell → List Pair
put_pairs [] = []
put_pairs (c ∷ cs) = put_pairs_at c.array c ++ put_pairs cs

-- the first and the second indexes of cells that are read and changed, each once
abbrev pub firsts_of : List Cell → List Cell → List Index
firsts_of rs cs = fold with_index (fold with_index [] (map first_index rs)) (map first_index cs)

abbrev pub seconds_of : List Cell → List Cell → List Index
seconds_of rs cs = fold with_index (fold with_index [] (map second_index rs)) (map second_index cs)

abbrev pub all_index_pairs : List Cell → List Cell → List Pair
all_index_pairs rs cs = index_pairs (firsts_of rs cs) (firsts_of rs cs) ++ index_pairs (seconds_of rs cs) (seconds_of rs cs)

-- the reads of a ground form, each once
abbrev pub distinct_reads : Formula → List Cell
distinct_reads g = fold with_cell [] (reads g)

-- the compared pairs of a ground form that have sums
abbrev pub sum_pairs : Formula → List Pair
sum_pairs g = comparisons g ++ all_index_pairs (distinct_reads g) (on_sides puts_in g) ++ put_pairs (distinct_reads g)

-- The clauses on reads, on reads of `put`s and on sums.
abbrev pub reads_pass : Valuation → List Cell → Bool
reads_pass v cs = list_all (λ c. list_all (agrees v c) cs) cs

abbrev pub puts_pass : Valuation → List Cell → Bool
puts_pass v cs = list_all (λ c. is_read_of_put v c.array c.first c.second) cs

abbrev pub all_sums_pass : List NumberedSum → Bool
all_sums_pass xs = list_all (λ a. list_all (sums_pass a) xs) xs

unfoldable pub is_in_order : Valuation → Formula → Bool
is_in_order v g = reads_pass v (distinct_reads g) && puts_pass v (distinct_reads g) && all_sums_pass (sums_of v (sum_pairs g))

-- a compared pair that is too wide: two reads are only where one of them is
unfoldable pub has_wide_pair : Formula → Bool
has_wide_pair g = list_any (λ c. is_wide (read c)) (distinct_reads g) || list_any (λ p. is_wide_pair p.left p.right) (sum_pairs g)
