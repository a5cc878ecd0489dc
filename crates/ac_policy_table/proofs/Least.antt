-- Of texts that ascend, the first that passes a test is the least that does.
use Rattle.std.proofs.Common.{◌≡◌, Bool, true, false, List, [], ◌∷◌, Option, Some, None, ap, sym, refl, Less, nat_cmp, filter}
use Rattle.std.specs.List.{find, AllByRecursion}
use Rattle.std.specs.List.Sorted.{IsStrictlySortedBy}
use Rattle.std.specs.Ordering.{is_lt}
use Rattle.std.specs.Cmp.Lexicographic.{slice_cmp}
use Rattle.ac_policy_table.specs.Keys.{Bytes, lesser, least}

below-lesser : (k y : Bytes) (r : Option Bytes) → slice_cmp nat_cmp k y ≡ Less → lesser k r ≡ k → lesser k (Some (lesser y r)) ≡ k
below-lesser k y None e h = rw e refl
below-lesser k y (Some l) e h = go (is_lt (slice_cmp nat_cmp y l)) refl
  where
    go : (b : Bool) → is_lt (slice_cmp nat_cmp y l) ≡ b → lesser k (Some (lesser y (Some l))) ≡ k
    go true t = rw (t, e) refl
    go false t = rw t h

below-least : (p : Bytes → Bool) (k : Bytes) (ks : List Bytes) → AllByRecursion (λ y. slice_cmp nat_cmp k y ≡ Less) ks → lesser k (least (filter p ks)) ≡ k
below-least p k [] h = refl
below-least p k (y ∷ ys) h = go (p y) refl (below-least p k ys h.1)
  where
    go : (b : Bool) → p y ≡ b → lesser k (least (filter p ys)) ≡ k → lesser k (least (filter p (y ∷ ys))) ≡ k
    go true e more = rw e (below-lesser k y (least (filter p ys)) h.0 more)
    go false e more = rw e more

pub find-least : (p : Bytes → Bool) (ks : List Bytes) → IsStrictlySortedBy (slice_cmp nat_cmp) ks → find p ks ≡ least (filter p ks)
unfolding IsStrictlySortedBy
find-least p [] h = refl
find-least p (k ∷ ks) h = go (p k) refl (find-least p ks h.1)
  where
    go : (b : Bool) → p k ≡ b → find p ks ≡ least (filter p ks) → find p (k ∷ ks) ≡ least (filter p (k ∷ ks))
    go true e more = rw e (ap Some (sym (below-least p k ks h.0)))
    go false e more = rw e more
