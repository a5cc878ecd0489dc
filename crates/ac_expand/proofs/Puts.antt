-- Single steps at a read and a put, whose children are too many for a search.
use Rattle.std.proofs.Common.{◌≡◌, ◌∙◌, ℕ, Bool, ◌&&◌, List, ◌++◌, Option}
use Rattle.ac_logic.specs.declared.formula.Term.{Term}
use Rattle.ac_logic.specs.declared.formula.ArrayTerm.{ArrayTerm}
use Rattle.ac_logic.specs.Patterns.{PutOf, ReadOf}
use Rattle.ac_logic.specs.Answer.{renewed}
use Rattle.ac_expand.specs.Digest.{mixed, digest_of, digest_of_array}
use Rattle.ac_expand.specs.Ground.{with_terms, array_with_terms}
use Rattle.ac_expand.specs.Index.{index, indexes_in, indexes_in_array, is_ground, is_ground_array}
use Rattle.ac_expand.specs.Opened.{hidden, term_shape, term_child, array_shape, array_child}
use Rattle.ac_expand.proofs.Lists.{in_front}

pub put_with : (e : List Term) (t a a2 : ArrayTerm) (i i2 j j2 v v2 : Term) (b : Option ArrayTerm) (k l u : Option Term) (new : Option ArrayTerm) → t ≡ PutOf a i j v → a2 ≡ a → i2 ≡ i → j2 ≡ j → v2 ≡ v → renewed a2 b ≡ array_with_terms e a2 → renewed i2 k ≡ with_terms e i2 → renewed j2 l ≡ with_terms e j2 → renewed v2 u ≡ with_terms e v2 → renewed (PutOf a i j v) new ≡ PutOf (renewed a b) (renewed i k) (renewed j l) (renewed v u) → renewed t new ≡ array_with_terms e t
unfolding hidden term_shape term_child array_shape array_child
put_with e t a a2 i i2 j j2 v v2 b k l u new is p q r s pa qi rj sv h =
    let x1 : renewed a b ≡ array_with_terms e a = rw p at pa in
    let x2 : renewed i k ≡ with_terms e i = rw q at qi in
    let x3 : renewed j l ≡ with_terms e j = rw r at rj in
    let x4 : renewed v u ≡ with_terms e v = rw s at sv in
    rw is (h ∙ λ m. PutOf (x1 m) (x2 m) (x3 m) (x4 m))

pub read_with : (e : List Term) (t : Term) (a a2 : ArrayTerm) (i i2 j j2 : Term) (b : Option ArrayTerm) (k l : Option Term) (new : Option Term) → t ≡ ReadOf a i j → a2 ≡ a → i2 ≡ i → j2 ≡ j → renewed a2 b ≡ array_with_terms e a2 → renewed i2 k ≡ with_terms e i2 → renewed j2 l ≡ with_terms e j2 → renewed (ReadOf a i j) new ≡ ReadOf (renewed a b) (renewed i k) (renewed j l) → renewed t new ≡ with_terms e t
unfolding hidden term_shape term_child array_shape array_child
read_with e t a a2 i i2 j j2 b k l new is p q r pa qi rj h =
    let x1 : renewed a b ≡ array_with_terms e a = rw p at pa in
    let x2 : renewed i k ≡ with_terms e i = rw q at qi in
    let x3 : renewed j l ≡ with_terms e j = rw r at rj in
    rw is (h ∙ λ m. ReadOf (x1 m) (x2 m) (x3 m))

pub put_digest : (t a a2 : ArrayTerm) (i i2 j v v2 : Term) (ra x ri y rv z : ℕ) → t ≡ PutOf a i j v → a2 ≡ a → i2 ≡ i → v2 ≡ v → ra ≡ digest_of_array a2 → x ≡ mixed 11 ra → ri ≡ digest_of i2 → y ≡ mixed x ri → rv ≡ digest_of v2 → z ≡ mixed y rv → z ≡ digest_of_array t
unfolding hidden term_shape term_child array_shape array_child
put_digest t a a2 i i2 j v v2 ra x ri y rv z is p q s ha hx hi hy hv hz =
    let x1 : ra ≡ digest_of_array a = rw p at ha in
    let x2 : ri ≡ digest_of i = rw q at hi in
    let x3 : rv ≡ digest_of v = rw s at hv in
    let y1 : x ≡ mixed 11 (digest_of_array a) = hx ∙ λ m. mixed 11 (x1 m) in
    let y2 : y ≡ mixed (mixed 11 (digest_of_array a)) (digest_of i) = hy ∙ λ m. mixed (y1 m) (x2 m) in
    rw is (hz ∙ λ m. mixed (y2 m) (x3 m))

pub put_indexes : (t a a2 : ArrayTerm) (i j v v2 : Term) (r0 r1 r2 r3 r4 : List Term) → t ≡ PutOf a i j v → a2 ≡ a → v2 ≡ v → r1 ≡ indexes_in v2 ++ r0 → r2 ≡ (index j ++ indexes_in j) ++ r1 → r3 ≡ (index i ++ indexes_in i) ++ r2 → r4 ≡ indexes_in_array a2 ++ r3 → r4 ≡ indexes_in_array t ++ r0
unfolding hidden term_shape term_child array_shape array_child
put_indexes t a a2 i j v v2 r0 r1 r2 r3 r4 is p s hv hj hi ha =
    let x1 : r1 ≡ indexes_in v ++ r0 = rw s at hv in
    let x2 : r4 ≡ indexes_in_array a ++ r3 = rw p at ha in
    rw is (in_front _ _ r0 r1 r4 x1 (in_front _ _ r1 r2 r4 hj (in_front _ _ r2 r3 r4 hi x2)))

pub put_ground : (t a a2 : ArrayTerm) (i j v v2 : Term) (b k l u r : Bool) → t ≡ PutOf a i j v → a2 ≡ a → v2 ≡ v → u ≡ is_ground v2 → l ≡ is_ground j → k ≡ is_ground i → b ≡ is_ground_array a2 → r ≡ (b && k && l && u) → r ≡ is_ground_array t
unfolding hidden term_shape term_child array_shape array_child
put_ground t a a2 i j v v2 b k l u r is p s hu hl hk hb h =
    let x1 : u ≡ is_ground v = rw s at hu in
    let x2 : b ≡ is_ground_array a = rw p at hb in
    rw is (h ∙ λ m. x2 m && hk m && hl m && x1 m)
