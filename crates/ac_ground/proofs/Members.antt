-- The pairs that are gone through are the compared ones, but for two reads of one array.
use Rattle.std.proofs.Common.{◌≡◌, ◌⊎◌, inl, inr, Bool, true, false, List, [], ◌∷◌, ◌++◌, map, fold, refl, sym, ◌∙◌, ap, subst, if◌then◌else◌}
use Rattle.std.specs.Prelude.{Contains}
use Rattle.std.proofs.lemmas.Bool.{false≢true}
use Rattle.std.proofs.lemmas.List.Elements.{Contains-append_left, Contains-append_right, Contains-append_cases}
use Rattle.ac_logic.specs.declared.formula.ArrayTerm.{ArrayTerm}
use Rattle.ac_logic.specs.declared.formula.Formula.{Formula}
use Rattle.ac_logic.specs.declared.formula.Term.{Term}
use Rattle.ac_logic.specs.Patterns.{Array, PutOf}
use Rattle.ac_linear.specs.TermEquality.{array_eq}
use Rattle.ac_linear.proofs.Equal.{array_same}
use Rattle.ac_ground.specs.declared.cell.Cell.{Cell}
use Rattle.ac_ground.specs.declared.index.Index.{Index}
use Rattle.ac_ground.specs.declared.pair.Pair.{Pair}
use Rattle.ac_ground.specs.Compared.{comparisons, pair, IsCompared, sides, first_indexes, second_indexes, written, inner, two_reads}
use Rattle.ac_ground.specs.Reads.{accesses, cell, puts_in, on_sides, read, reads}
use Rattle.ac_ground.specs.Sums.{all_index_pairs, distinct_reads, firsts_of, index_pairs, index_pairs_with, put_pairs, put_pairs_at, seconds_of, sum_pairs}
use Rattle.ac_ground.specs.Table.{cell_eq, first_index, index_eq, second_index}
use Rattle.ac_ground.specs.Opened.{hidden, term_shape, term_child, array_shape, array_child}
use Rattle.ac_ground.proofs.Once.{array_true, came, cell_itself, cell_same, comes, first_or_rest, from_map, further, in_front, index_same, mapped, none_in_nil, stays, with_one}

-- ---- each read once

pub read_once : (g : Formula) (c : Cell) → Contains (reads g) c → Contains (distinct_reads g) c
read_once g c h = comes cell_eq cell_same (reads g) [] c h

pub once_read : (g : Formula) (c : Cell) → Contains (distinct_reads g) c → Contains (reads g) c
once_read g c h = elim (came cell_eq cell_same (reads g) [] c h) [ inl n ↦ none_in_nil c n | inr r ↦ r ]

-- ---- each index once

module _ (at : Cell → Index) (g : Formula) where
  abbrev table : List Index
  table = fold (with_one index_eq index_same) (fold (with_one index_eq index_same) [] (map at (distinct_reads g))) (map at (on_sides puts_in g))

  in_table : (c : Cell) → Contains (accesses g) c → Contains table (at c)
  in_table c h = elim (Contains-append_cases (reads g) (on_sides puts_in g) c h) [
    | inl r ↦ stays index_eq index_same (map at (on_sides puts_in g)) _ (at c) (comes index_eq index_same (map at (distinct_reads g)) [] (at c) (mapped at (distinct_reads g) c (read_once g c r)))
    | inr k ↦ comes index_eq index_same (map at (on_sides puts_in g)) _ (at c) (mapped at (on_sides puts_in g) c k)
  ]

  from_table : (x : Index) → Contains table x → (c : Cell) × Contains (accesses g) c × (at c ≡ x)
  from_table x h = elim (came index_eq index_same (map at (on_sides puts_in g)) _ x h) [
    | inl a ↦ elim (came index_eq index_same (map at (distinct_reads g)) [] x a) [
      | inl n ↦ none_in_nil x n
      | inr r ↦ (let m = from_map at (distinct_reads g) x r in (m.0, Contains-append_left (reads g) (on_sides puts_in g) m.0 (once_read g m.0 m.1), m.2))
    ]
    | inr k ↦ (let m = from_map at (on_sides puts_in g) x k in (m.0, Contains-append_right (reads g) (on_sides puts_in g) m.0 m.1, m.2))
  ]

-- ---- two indexes of one array

with_in : (x y : Index) (ys : List Index) → x.array ≡ y.array → Contains ys y → Contains (index_pairs_with x ys) (pair x.term y.term)
with_in x y [] a h = none_in_nil y h
with_in x y (z ∷ ys) a h = elim (first_or_rest z ys y h) [
  | inl e ↦ (let t : array_eq x.array z.array ≡ true = array_true x.array z.array (a ∙ ap (λ i. i.array) (sym e)) in Contains-append_left _ (index_pairs_with x ys) (pair x.term y.term) (rw t (rw (sym e) (in_front (pair x.term z.term) []))))
  | inr r ↦ Contains-append_right _ (index_pairs_with x ys) (pair x.term y.term) (with_in x y ys a r)
]

pairs_in : (x y : Index) (xs ys : List Index) → x.array ≡ y.array → Contains xs x → Contains ys y → Contains (index_pairs xs ys) (pair x.term y.term)
pairs_in x y [] ys a h k = none_in_nil x h
pairs_in x y (z ∷ xs) ys a h k = elim (first_or_rest z xs x h) [
  | inl e ↦ Contains-append_left (index_pairs_with z ys) (index_pairs xs ys) (pair x.term y.term) (rw e (with_in x y ys a k))
  | inr r ↦ Contains-append_right (index_pairs_with z ys) (index_pairs xs ys) (pair x.term y.term) (pairs_in x y xs ys a r k)
]

-- the indexes that a pair comes from
record ComesFrom (xs ys : List Index) (p : Pair) : Type 0 where
  first : Index
  second : Index
  in_first : Contains xs first
  in_second : Contains ys second
  array : first.array ≡ second.array
  is : pair first.term second.term ≡ p

one_pair : (x y : Index) (p : Pair) → Contains (if array_eq x.array y.array then pair x.term y.term ∷ [] else []) p → (x.array ≡ y.array) × (pair x.term y.term ≡ p)
one_pair x y p h =
    elim (array_eq x.array y.array) as (λ b. array_eq x.array y.array ≡ b → Contains (if b then pair x.term y.term ∷ [] else []) p → (x.array ≡ y.array) × (pair x.term y.term ≡ p)) [
      | true ↦ λ e k. elim (first_or_rest (pair x.term y.term) [] p k) [ inl q ↦ (array_same x.array y.array e, q) | inr n ↦ none_in_nil p n ]
      | false ↦ λ e k. none_in_nil p k
    ] refl h

with_from : (x : Index) (ys : List Index) (p : Pair) → Contains (index_pairs_with x ys) p → (y : Index) × Contains ys y × (x.array ≡ y.array) × (pair x.term y.term ≡ p)
with_from x [] p h = none_in_nil p h
with_from x (y ∷ ys) p h = elim (Contains-append_cases _ (index_pairs_with x ys) p h) [
  | inl a ↦ (let q = one_pair x y p a in (y, in_front y ys, q.0, q.1))
  | inr r ↦ (let m = with_from x ys p r in (m.0, further y ys m.0 m.1, m.2, m.3))
]

pairs_from : (xs ys : List Index) (p : Pair) → Contains (index_pairs xs ys) p → ComesFrom xs ys p
pairs_from [] ys p h = none_in_nil p h
pairs_from (x ∷ xs) ys p h = elim (Contains-append_cases (index_pairs_with x ys) (index_pairs xs ys) p h) [
  | inl a ↦ (let m = with_from x ys p a in record { first = x; second = m.0; in_first = in_front x xs; in_second = m.1; array = m.2; is = m.3 })
  | inr r ↦ (let m = pairs_from xs ys p r in record { first = m.first; second = m.second; in_first = further x xs m.first m.in_first; in_second = m.in_second; array = m.array; is = m.is })
]

-- ---- reads of `put`s

put_in_pairs : (c : Cell) (cs : List Cell) (p : Pair) → Contains cs c → Contains (put_pairs_at c.array c) p → Contains (put_pairs cs) p
put_in_pairs c [] p h k = none_in_nil c h
put_in_pairs c (d ∷ cs) p h k = elim (first_or_rest d cs c h) [
  | inl e ↦ Contains-append_left (put_pairs_at d.array d) (put_pairs cs) p (rw e k)
  | inr r ↦ Contains-append_right (put_pairs_at d.array d) (put_pairs cs) p (put_in_pairs c cs p r k)
]

puts_from : (cs : List Cell) (p : Pair) → Contains (put_pairs cs) p → (c : Cell) × Contains cs c × Contains (put_pairs_at c.array c) p
puts_from [] p h = none_in_nil p h
puts_from (c ∷ cs) p h = elim (Contains-append_cases (put_pairs_at c.array c) (put_pairs cs) p h) [
  | inl a ↦ (c, in_front c cs, a)
  | inr r ↦ (let m = puts_from cs p r in (m.0, further c cs m.0 m.1, m.2))
]

put_compared : (g : Formula) (c : Cell) (a : ArrayTerm) (p : Pair) → Contains (reads g) c → c.array ≡ a → Contains (put_pairs_at a c) p → IsCompared g p.left p.right
unfolding hidden term_shape term_child array_shape array_child
put_compared g c (Array s) p r e h = none_in_nil p h
put_compared g c (PutOf a i j w) p r e h = elim (first_or_rest (pair (read c) w) (pair (read c) (read (cell a c.first c.second)) ∷ []) p h) [
  | inl q ↦ written a i j w c r e (ap (λ x. x.left) (sym q)) (ap (λ x. x.right) (sym q))
  | inr k ↦ elim (first_or_rest (pair (read c) (read (cell a c.first c.second))) [] p k) [
    | inl q ↦ inner a i j w c r e (ap (λ x. x.left) (sym q)) (ap (λ x. x.right) (sym q))
    | inr n ↦ none_in_nil p n
  ]
]

-- ---- all of them

index_compared : (g : Formula) (p : Pair) → Contains (all_index_pairs (distinct_reads g) (on_sides puts_in g)) p → IsCompared g p.left p.right
index_compared g p h = elim (Contains-append_cases (index_pairs (firsts_of (distinct_reads g) (on_sides puts_in g)) (firsts_of (distinct_reads g) (on_sides puts_in g))) (index_pairs (seconds_of (distinct_reads g) (on_sides puts_in g)) (seconds_of (distinct_reads g) (on_sides puts_in g))) p h) [
  | inl a ↦ (let m = pairs_from _ _ p a in let c = from_table first_index g m.first m.in_first in let d = from_table first_index g m.second m.in_second in
      first_indexes c.0 d.0 c.1 d.1 (ap (λ x. x.array) c.2 ∙ (m.array ∙ ap (λ x. x.array) (sym d.2))) (ap (λ x. x.left) (sym m.is) ∙ ap (λ x. x.term) (sym c.2)) (ap (λ x. x.right) (sym m.is) ∙ ap (λ x. x.term) (sym d.2)))
  | inr b ↦ (let m = pairs_from _ _ p b in let c = from_table second_index g m.first m.in_first in let d = from_table second_index g m.second m.in_second in
      second_indexes c.0 d.0 c.1 d.1 (ap (λ x. x.array) c.2 ∙ (m.array ∙ ap (λ x. x.array) (sym d.2))) (ap (λ x. x.left) (sym m.is) ∙ ap (λ x. x.term) (sym c.2)) (ap (λ x. x.right) (sym m.is) ∙ ap (λ x. x.term) (sym d.2)))
]

pub is_compared : (g : Formula) (p : Pair) → Contains (sum_pairs g) p → IsCompared g p.left p.right
is_compared g p h = elim (Contains-append_cases (comparisons g ++ all_index_pairs (distinct_reads g) (on_sides puts_in g)) (put_pairs (distinct_reads g)) p h) [
  | inl b ↦ elim (Contains-append_cases (comparisons g) (all_index_pairs (distinct_reads g) (on_sides puts_in g)) p b) [
    | inl a ↦ sides a
    | inr i ↦ index_compared g p i
  ]
  | inr k ↦ (let m = puts_from (distinct_reads g) p k in put_compared g m.0 m.0.array p (once_read g m.0 m.1) refl m.2)
]

-- the three parts of the list
of_comparisons : (g : Formula) (p : Pair) → Contains (comparisons g) p → Contains (sum_pairs g) p
of_comparisons g p h = Contains-append_left (comparisons g ++ all_index_pairs (distinct_reads g) (on_sides puts_in g)) (put_pairs (distinct_reads g)) p (Contains-append_left (comparisons g) (all_index_pairs (distinct_reads g) (on_sides puts_in g)) p h)

of_indexes : (g : Formula) (p : Pair) → Contains (all_index_pairs (distinct_reads g) (on_sides puts_in g)) p → Contains (sum_pairs g) p
of_indexes g p h = Contains-append_left (comparisons g ++ all_index_pairs (distinct_reads g) (on_sides puts_in g)) (put_pairs (distinct_reads g)) p (Contains-append_right (comparisons g) (all_index_pairs (distinct_reads g) (on_sides puts_in g)) p h)

of_puts : (g : Formula) (p : Pair) → Contains (put_pairs (distinct_reads g)) p → Contains (sum_pairs g) p
of_puts g p h = Contains-append_right (comparisons g ++ all_index_pairs (distinct_reads g) (on_sides puts_in g)) (put_pairs (distinct_reads g)) p h

-- two reads
abbrev pub AreReads : Formula → Term → Term → Type 0
AreReads g s t = (c : Cell) × (d : Cell) × Contains (reads g) c × Contains (reads g) d × (s ≡ read c) × (t ≡ read d)

pub gone_through : (g : Formula) (s t : Term) → IsCompared g s t → Contains (sum_pairs g) (pair s t) ⊎ AreReads g s t
unfolding hidden term_shape term_child array_shape array_child
gone_through g s t (sides h) = inl (of_comparisons g (pair s t) h)
gone_through g s t (first_indexes c d h k a p q) =
    let x : Contains (index_pairs (firsts_of (distinct_reads g) (on_sides puts_in g)) (firsts_of (distinct_reads g) (on_sides puts_in g))) (pair c.first d.first) = pairs_in (first_index c) (first_index d) _ _ a (in_table first_index g c h) (in_table first_index g d k) in
    inl (of_indexes g (pair s t) (Contains-append_left _ (index_pairs (seconds_of (distinct_reads g) (on_sides puts_in g)) (seconds_of (distinct_reads g) (on_sides puts_in g))) (pair s t) (rw p (rw q x))))
gone_through g s t (second_indexes c d h k a p q) =
    let x : Contains (index_pairs (seconds_of (distinct_reads g) (on_sides puts_in g)) (seconds_of (distinct_reads g) (on_sides puts_in g))) (pair c.second d.second) = pairs_in (second_index c) (second_index d) _ _ a (in_table second_index g c h) (in_table second_index g d k) in
    inl (of_indexes g (pair s t) (Contains-append_right (index_pairs (firsts_of (distinct_reads g) (on_sides puts_in g)) (firsts_of (distinct_reads g) (on_sides puts_in g))) _ (pair s t) (rw p (rw q x))))
gone_through g s t (written a i j w c r e p q) =
    let x : Contains (put_pairs_at (PutOf a i j w) c) (pair (read c) w) = in_front (pair (read c) w) (pair (read c) (read (cell a c.first c.second)) ∷ []) in
    let y : Contains (put_pairs_at c.array c) (pair (read c) w) = subst (λ b. Contains (put_pairs_at b c) (pair (read c) w)) (sym e) x in
    let z : Contains (put_pairs (distinct_reads g)) (pair (read c) w) = put_in_pairs c (distinct_reads g) (pair (read c) w) (read_once g c r) y in
    inl (of_puts g (pair s t) (subst (λ u. Contains (put_pairs (distinct_reads g)) (pair u t)) (sym p) (subst (λ u. Contains (put_pairs (distinct_reads g)) (pair (read c) u)) (sym q) z)))
gone_through g s t (inner a i j w c r e p q) =
    let k : Term = read (cell a c.first c.second) in
    let x : Contains (put_pairs_at (PutOf a i j w) c) (pair (read c) k) = further (pair (read c) w) (pair (read c) k ∷ []) (pair (read c) k) (in_front (pair (read c) k) []) in
    let y : Contains (put_pairs_at c.array c) (pair (read c) k) = subst (λ b. Contains (put_pairs_at b c) (pair (read c) k)) (sym e) x in
    let z : Contains (put_pairs (distinct_reads g)) (pair (read c) k) = put_in_pairs c (distinct_reads g) (pair (read c) k) (read_once g c r) y in
    inl (of_puts g (pair s t) (subst (λ u. Contains (put_pairs (distinct_reads g)) (pair u t)) (sym p) (subst (λ u. Contains (put_pairs (distinct_reads g)) (pair (read c) u)) (sym q) z)))
gone_through g s t (two_reads c d h k a p q) = inr (c, d, h, k, p, q)
