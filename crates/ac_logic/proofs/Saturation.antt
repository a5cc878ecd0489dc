-- Sums and maxima of saturated numbers, and what they make of a `Put`.
use Rattle.std.proofs.Common.{◌≡◌, ℕ, ◌+◌, ◌-◌, ◌^◌, min, max, arith}
use Rattle.ac_logic.specs.declared.formula.Term.{Term}
use Rattle.ac_logic.specs.declared.formula.ArrayTerm.{ArrayTerm}
use Rattle.ac_logic.specs.Patterns.{PutOf}
use Rattle.ac_logic.specs.Opened.{hidden, term_shape, term_child, array_shape, array_child}
use Rattle.ac_logic.specs.Size.{saturated, size_of_term, size_of_array, depth_of_term, depth_of_array}

capped_sum : (m a b x y z : ℕ) → x ≡ min a m → y ≡ min b m → z ≡ min (x + y) m → z ≡ min (a + b) m
capped_sum m a b x y z p q r = grind arith

capped_one : (m a x z : ℕ) → x ≡ min a m → z ≡ min (x + 1) m → z ≡ min (a + 1) m
capped_one m a x z p r = grind arith

capped_max : (m a b x y z : ℕ) → x ≡ min a m → y ≡ min b m → z ≡ max x y → z ≡ min (max a b) m
capped_max m a b x y z p q r = grind arith

pub put_size : (t a a2 : ArrayTerm) (i i2 j j2 v v2 : Term) (ra ri rj rv p q u z : ℕ) → t ≡ PutOf a i j v → a2 ≡ a → i2 ≡ i → j2 ≡ j → v2 ≡ v → ra ≡ saturated (size_of_array a2) → ri ≡ saturated (size_of_term i2) → rj ≡ saturated (size_of_term j2) → rv ≡ saturated (size_of_term v2) → p ≡ saturated (ra + ri) → q ≡ saturated (p + rj) → u ≡ saturated (q + rv) → z ≡ saturated (u + 1) → z ≡ saturated (size_of_array t)
unfolding hidden term_shape term_child array_shape array_child
put_size t a a2 i i2 j j2 v v2 ra ri rj rv p q u z e ea ei ej ev ha hi hj hv hp hq hu hz =
    let x1 : ra ≡ saturated (size_of_array a) = rw ea at ha in
    let x2 : ri ≡ saturated (size_of_term i) = rw ei at hi in
    let x3 : rj ≡ saturated (size_of_term j) = rw ej at hj in
    let x4 : rv ≡ saturated (size_of_term v) = rw ev at hv in
    rw e (capped_one _ _ _ _ (capped_sum _ _ _ _ _ _ (capped_sum _ _ _ _ _ _ (capped_sum _ _ _ _ _ _ x1 x2 hp) x3 hq) x4 hu) hz)

pub put_depth : (t a a2 : ArrayTerm) (i i2 j j2 v v2 : Term) (ra ri rj rv p q u z : ℕ) → t ≡ PutOf a i j v → a2 ≡ a → i2 ≡ i → j2 ≡ j → v2 ≡ v → ra ≡ saturated (depth_of_array a2) → ri ≡ saturated (depth_of_term i2) → rj ≡ saturated (depth_of_term j2) → rv ≡ saturated (depth_of_term v2) → p ≡ max ra ri → q ≡ max p rj → u ≡ max q rv → z ≡ saturated (u + 1) → z ≡ saturated (depth_of_array t)
unfolding hidden term_shape term_child array_shape array_child
put_depth t a a2 i i2 j j2 v v2 ra ri rj rv p q u z e ea ei ej ev ha hi hj hv hp hq hu hz =
    let x1 : ra ≡ saturated (depth_of_array a) = rw ea at ha in
    let x2 : ri ≡ saturated (depth_of_term i) = rw ei at hi in
    let x3 : rj ≡ saturated (depth_of_term j) = rw ej at hj in
    let x4 : rv ≡ saturated (depth_of_term v) = rw ev at hv in
    rw e (capped_one _ _ _ _ (capped_max _ _ _ _ _ _ (capped_max _ _ _ _ _ _ (capped_max _ _ _ _ _ _ x1 x2 hp) x3 hq) x4 hu) hz)
