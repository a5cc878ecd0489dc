-- Single steps at a read and a put, whose children are too many for a search.
use Rattle.std.proofs.Common.{◌≡◌, ◌∙◌, List, ◌∷◌, [], ◌++◌, sym, ap}
use Rattle.std.proofs.lemmas.List.{append_assoc}
use Rattle.ac_logic.specs.declared.formula.Term.{Term}
use Rattle.ac_logic.specs.declared.formula.ArrayTerm.{ArrayTerm}
use Rattle.ac_logic.specs.Patterns.{PutOf, ReadOf}
use Rattle.ac_ground.specs.declared.cell.Cell.{Cell}
use Rattle.ac_ground.specs.declared.pair.Pair.{Pair}
use Rattle.ac_ground.specs.Reads.{cell, puts_in, puts_in_array, reads_at, reads_in, reads_in_array}
use Rattle.ac_ground.specs.Opened.{hidden, term_shape, term_child, array_shape, array_child}

pub behind : (x y r0 r1 r2 : List Cell) → r1 ≡ r0 ++ x → r2 ≡ r1 ++ y → r2 ≡ r0 ++ (x ++ y)
behind x y r0 r1 r2 p q = q ∙ (ap (λ u. u ++ y) p ∙ append_assoc r0 x y)

pub pairs_behind : (x y r0 r1 r2 : List Pair) → r1 ≡ r0 ++ x → r2 ≡ r1 ++ y → r2 ≡ r0 ++ (x ++ y)
pairs_behind x y r0 r1 r2 p q = q ∙ (ap (λ u. u ++ y) p ∙ append_assoc r0 x y)

three : (r0 r1 r2 r3 x y z : List Cell) → r1 ≡ r0 ++ x → r2 ≡ r1 ++ y → r3 ≡ r2 ++ z → r3 ≡ r0 ++ ((x ++ y) ++ z)
three r0 r1 r2 r3 x y z p q r = behind (x ++ y) z r0 r2 r3 (behind x y r0 r1 r2 p q) r

four : (r0 r1 r2 r3 r4 w x y z : List Cell) → r1 ≡ r0 ++ w → r2 ≡ r1 ++ x → r3 ≡ r2 ++ y → r4 ≡ r3 ++ z → r4 ≡ r0 ++ (((w ++ x) ++ y) ++ z)
four r0 r1 r2 r3 r4 w x y z p q r s = behind ((w ++ x) ++ y) z r0 r3 r4 (three r0 r1 r2 r3 w x y p q r) s

pub read_reads : (t i i2 j j2 : Term) (a a2 : ArrayTerm) (r0 r1 r2 r3 r4 : List Cell) → t ≡ ReadOf a i j → a2 ≡ a → i2 ≡ i → j2 ≡ j → r1 ≡ r0 ++ reads_at a i j → r2 ≡ r1 ++ reads_in_array a2 → r3 ≡ r2 ++ reads_in i2 → r4 ≡ r3 ++ reads_in j2 → r4 ≡ r0 ++ reads_in t
unfolding hidden term_shape term_child array_shape array_child
read_reads t i i2 j j2 a a2 r0 r1 r2 r3 r4 is p q r h1 h2 h3 h4 =
    let x2 : r2 ≡ r1 ++ reads_in_array a = rw p at h2 in
    let x3 : r3 ≡ r2 ++ reads_in i = rw q at h3 in
    let x4 : r4 ≡ r3 ++ reads_in j = rw r at h4 in
    rw is (four r0 r1 r2 r3 r4 _ _ _ _ h1 x2 x3 x4)

pub read_puts : (t i i2 j j2 : Term) (a a2 : ArrayTerm) (r0 r2 r3 r4 : List Cell) → t ≡ ReadOf a i j → a2 ≡ a → i2 ≡ i → j2 ≡ j → r2 ≡ r0 ++ puts_in_array a2 → r3 ≡ r2 ++ puts_in i2 → r4 ≡ r3 ++ puts_in j2 → r4 ≡ r0 ++ puts_in t
unfolding hidden term_shape term_child array_shape array_child
read_puts t i i2 j j2 a a2 r0 r2 r3 r4 is p q r h2 h3 h4 =
    let x2 : r2 ≡ r0 ++ puts_in_array a = rw p at h2 in
    let x3 : r3 ≡ r2 ++ puts_in i = rw q at h3 in
    let x4 : r4 ≡ r3 ++ puts_in j = rw r at h4 in
    rw is (three r0 r2 r3 r4 _ _ _ x2 x3 x4)

pub put_reads : (t a a2 : ArrayTerm) (i i2 j j2 v v2 : Term) (r0 r1 r2 r3 r4 : List Cell) → t ≡ PutOf a i j v → a2 ≡ a → i2 ≡ i → j2 ≡ j → v2 ≡ v → r1 ≡ r0 ++ reads_in_array a2 → r2 ≡ r1 ++ reads_in i2 → r3 ≡ r2 ++ reads_in j2 → r4 ≡ r3 ++ reads_in v2 → r4 ≡ r0 ++ reads_in_array t
unfolding hidden term_shape term_child array_shape array_child
put_reads t a a2 i i2 j j2 v v2 r0 r1 r2 r3 r4 is p q r s h1 h2 h3 h4 =
    let x1 : r1 ≡ r0 ++ reads_in_array a = rw p at h1 in
    let x2 : r2 ≡ r1 ++ reads_in i = rw q at h2 in
    let x3 : r3 ≡ r2 ++ reads_in j = rw r at h3 in
    let x4 : r4 ≡ r3 ++ reads_in v = rw s at h4 in
    rw is (four r0 r1 r2 r3 r4 _ _ _ _ x1 x2 x3 x4)

pub put_puts : (t a a2 : ArrayTerm) (i i2 j j2 v v2 : Term) (r r0 r1 r2 r3 r4 : List Cell) → t ≡ PutOf a i j v → a2 ≡ a → i2 ≡ i → j2 ≡ j → v2 ≡ v → r0 ≡ r ++ cell a i j ∷ [] → r1 ≡ r0 ++ puts_in_array a2 → r2 ≡ r1 ++ puts_in i2 → r3 ≡ r2 ++ puts_in j2 → r4 ≡ r3 ++ puts_in v2 → r4 ≡ r ++ puts_in_array t
unfolding hidden term_shape term_child array_shape array_child
put_puts t a a2 i i2 j j2 v v2 r r0 r1 r2 r3 r4 is p q s u h0 h1 h2 h3 h4 =
    let x1 : r1 ≡ r0 ++ puts_in_array a = rw p at h1 in
    let x2 : r2 ≡ r1 ++ puts_in i = rw q at h2 in
    let x3 : r3 ≡ r2 ++ puts_in j = rw s at h3 in
    let x4 : r4 ≡ r3 ++ puts_in v = rw u at h4 in
    rw is (behind _ (puts_in v) r r3 r4 (four r r0 r1 r2 r3 (cell a i j ∷ []) _ _ _ h0 x1 x2 x3) x4)
