-- Entries stay in the order of their prints, so that a place among them is found by halving.
use Rattle.std.proofs.Common.{◌≡◌, ℕ, zero, suc, ◌+◌, ◌<◌, ◌≤◌, ℤ, pos, ◌+ℤ◌, ◌*ℤ◌, List, [], ◌∷◌, length, drop, get_or, true, false, Some, option_map, refl, sym, ◌∙◌, ap, if◌then◌else◌, arith}
use Rattle.std.specs.Prelude.{◌≢◌, ⊤, IfSome}
use Rattle.std.specs.List.{AllWithin}
use Rattle.std.specs.List.Sorted.{IsPartitionedBy}
use Rattle.std.specs.Ordering.{int_eq, is_lt, nat_cmp, ordering_reverse}
use Rattle.std.specs.Cmp.{tied_back}
use Rattle.std.specs.Cmp.Lexicographic.{slice_cmp, nat_list_cmp_total}
use Rattle.std.specs.declared.cmp.Ordering.{Ordering}
use Rattle.std.specs.declared.cmp.Ordering.TheVariants.{Less, Equal, Greater}
use Rattle.ac_logic.specs.declared.formula.Term.{Term}
use Rattle.ac_linear.specs.declared.entry.Entry.{Entry}
use Rattle.ac_linear.specs.declared.entry.Form.{Form}
use Rattle.ac_linear.specs.declared.place.Place.TheVariants as at_place
use Rattle.ac_linear.specs.declared.place.Side.{Side}
use Rattle.ac_linear.specs.declared.place.Side.TheVariants.{Before, Same, Behind}
use Rattle.ac_linear.specs.declared.range.Range.{Range}
use Rattle.ac_linear.specs.TermEquality.{term_eq}
use Rattle.ac_linear.specs.NormalForm.{within, with_factor, by_order, side, by_side, put_in, put_multiple, put_all, plus, form_of}
use Rattle.ac_linear.specs.Places.{IsBelow, InOrder, has_less, place_from}
use Rattle.ac_linear.proofs.Values.{then_some, map_some, either_some, said}
use Rattle.ac_linear.proofs.Ordered.{AheadOf, Kept, FormKept, form_kept, below, reversed, clash_greater, level_clash}

-- ---- the order stays

-- what the side tells of the prints
abbrev Told : Side → Entry → Entry → Type 0
Told Before p q = slice_cmp nat_cmp p.print q.print ≡ Less
Told Same p q = ⊤
Told Behind p q = slice_cmp nat_cmp q.print p.print ≢ Greater

told : (p q : Entry) → Told (side p q) p q
told p q =
    elim (slice_cmp nat_cmp p.print q.print) as (λ o. slice_cmp nat_cmp p.print q.print ≡ o → Told (by_order o Before (if term_eq p.unit q.unit then Same else Behind) Behind) p q) [
      | Less ↦ λ e. e
      | Equal ↦ λ e. elim (term_eq p.unit q.unit) as (λ b. Told (if b then Same else Behind) p q) [ true ↦ tt | false ↦ λ g. level_clash _ (tied_back nat_list_cmp_total p.print q.print e) g ]
      | Greater ↦ λ e g. clash_greater _ (reversed p.print q.print e) g
    ] refl

below_too : (a b : List ℕ) (qs : List Entry) → slice_cmp nat_cmp a b ≡ Less → IsBelow b qs → IsBelow a qs
below_too a b [] l h = tt
below_too a b (q ∷ qs) l h = (λ g. clash_greater _ (below a b q.print l h.0) g, below_too a b qs l h.1)

factor_below : (t : List ℕ) (q : Entry) (qs : List Entry) (f : ℤ) → IsBelow t (q ∷ qs) → IsBelow t (with_factor q qs f)
factor_below t q qs f h = elim (int_eq f (pos 0)) as (λ b. IsBelow t (if b then qs else record q { factor = f } ∷ qs)) [ true ↦ h.1 | false ↦ h ]

put_below : (r : Range) (t : List ℕ) (p : Entry) (qs : List Entry) → IsBelow t qs → slice_cmp nat_cmp t p.print ≢ Greater → IfSome (put_in r p qs) (IsBelow t)
put_below r t p [] h a = (a, tt)
put_below r t p (q ∷ qs) h a =
    let behind : IfSome (option_map (λ rest. q ∷ rest) (put_in r p qs)) (IsBelow t) = map_some (put_in r p qs) (λ rest. q ∷ rest) (IsBelow t) (λ rest e. (h.0, said (put_in r p qs) rest (IsBelow t) e (put_below r t p qs h.1 a))) in
    elim (side p q) as (λ o. IfSome (by_side o (Some (p ∷ q ∷ qs)) (option_map (with_factor q qs) (within r (q.factor +ℤ p.factor))) (option_map (λ rest. q ∷ rest) (put_in r p qs))) (IsBelow t)) [
      | Before ↦ (a, h)
      | Same ↦ map_some (within r (q.factor +ℤ p.factor)) (with_factor q qs) (IsBelow t) (λ f _. factor_below t q qs f h)
      | Behind ↦ behind
    ]

factor_order : (q : Entry) (qs : List Entry) (f : ℤ) → InOrder (q ∷ qs) → InOrder (with_factor q qs f)
factor_order q qs f h = elim (int_eq f (pos 0)) as (λ b. InOrder (if b then qs else record q { factor = f } ∷ qs)) [ true ↦ h.1 | false ↦ h ]

put_order : (r : Range) (p : Entry) (qs : List Entry) → InOrder qs → IfSome (put_in r p qs) InOrder
put_order r p [] h = (tt, tt)
put_order r p (q ∷ qs) h =
    let behind : Told Behind p q → IfSome (option_map (λ rest. q ∷ rest) (put_in r p qs)) InOrder = λ a. map_some (put_in r p qs) (λ rest. q ∷ rest) InOrder (λ rest e. (said (put_in r p qs) rest (IsBelow q.print) e (put_below r q.print p qs h.0 a), said (put_in r p qs) rest InOrder e (put_order r p qs h.1))) in
    elim (side p q) as (λ o. Told o p q → IfSome (by_side o (Some (p ∷ q ∷ qs)) (option_map (with_factor q qs) (within r (q.factor +ℤ p.factor))) (option_map (λ rest. q ∷ rest) (put_in r p qs))) InOrder) [
      | Before ↦ λ l. ((λ g. clash_greater _ l g, below_too p.print q.print qs l h.0), h)
      | Same ↦ λ _. map_some (within r (q.factor +ℤ p.factor)) (with_factor q qs) InOrder (λ f _. factor_order q qs f h)
      | Behind ↦ behind
    ] (told p q)

multiple_order : (r : Range) (k : ℤ) (q : Entry) (ps : List Entry) → InOrder ps → IfSome (put_multiple r k q ps) InOrder
multiple_order r k q ps h =
    then_some (within r (k *ℤ q.factor)) (λ f. if int_eq f (pos 0) then Some ps else put_in r (record q { factor = f }) ps) InOrder (λ f _.
    either_some (int_eq f (pos 0)) (Some ps) (put_in r (record q { factor = f }) ps) InOrder
    (λ _. h)
    (λ _. put_order r (record q { factor = f }) ps h))

pub multiple_in_order : (r : Range) (k : ℤ) (q : Entry) (ps rs : List Entry) → InOrder ps → Some rs ≡ put_multiple r k q ps → InOrder rs
multiple_in_order r k q ps rs h e = said (put_multiple r k q ps) rs InOrder (sym e) (multiple_order r k q ps h)

all_order : (r : Range) (ps : List Entry) (k : ℤ) (qs : List Entry) → InOrder ps → IfSome (put_all r ps k qs) InOrder
all_order r ps k [] h = h
all_order r ps k (q ∷ qs) h =
    then_some (put_multiple r k q ps) (λ more. put_all r more k qs) InOrder (λ more e.
    all_order r more k qs (said (put_multiple r k q ps) more InOrder e (multiple_order r k q ps h)))

abbrev FormOrder : Form → Type 0
FormOrder x = InOrder x.entries

plus_order : (r : Range) (x : Form) (k : ℤ) (y : Form) → FormOrder x → IfSome (plus r x k y) FormOrder
plus_order r x k y h =
    then_some (within r (k *ℤ y.constant)) _ FormOrder (λ a _.
    then_some (within r (x.constant +ℤ a)) _ FormOrder (λ n _.
    map_some (put_all r x.entries k y.entries) (λ entries. record { constant = n; entries = entries }) FormOrder (λ entries e.
    said (put_all r x.entries k y.entries) entries InOrder e (all_order r x.entries k y.entries h))))

pub plus_in_order : (r : Range) (x : Form) (k : ℤ) (y z : Form) → InOrder x.entries → Some z ≡ plus r x k y → InOrder z.entries
plus_in_order r x k y z h e = said (plus r x k y) z FormOrder (sym e) (plus_order r x k y h)

ahead_below : (u : Term) (t : List ℕ) (qs : List Entry) → AheadOf u t qs → IsBelow t qs
ahead_below u t [] h = tt
ahead_below u t (q ∷ qs) h = (h.0.1, ahead_below u t qs h.1)

kept_order : (ps : List Entry) → Kept ps → InOrder ps
kept_order [] k = tt
kept_order (p ∷ ps) k = (ahead_below p.unit p.print ps k.2, kept_order ps k.3)

pub form_in_order : (t : Term) (x : Form) → Some x ≡ form_of t → InOrder x.entries
form_in_order t x e = kept_order x.entries (said (form_of t) x FormKept (sym e) (form_kept t))

-- ---- halving

only_less : (o : Ordering) → is_lt o ≡ true → o ≡ Less
only_less Less h = refl
only_less Equal h = cc
only_less Greater h = cc

less_through : (a b t : List ℕ) → slice_cmp nat_cmp a b ≢ Greater → is_lt (slice_cmp nat_cmp b t) ≡ true → is_lt (slice_cmp nat_cmp a t) ≡ true
less_through a b t h up =
    elim (slice_cmp nat_cmp a b) as (λ o. slice_cmp nat_cmp a b ≡ o → is_lt (slice_cmp nat_cmp a t) ≡ true) [
      | Less ↦ λ e. ap is_lt (nat_list_cmp_total.trans a b t e (only_less _ up))
      | Equal ↦ λ e. ap is_lt (nat_list_cmp_total.congr a b t e) ∙ up
      | Greater ↦ λ e. absurd (h e)
    ] refl

below_at : (a : List ℕ) (qs : List Entry) (j : ℕ) (d : Entry) → IsBelow a qs → j < length qs → slice_cmp nat_cmp a (get_or qs j d).print ≢ Greater
below_at a [] j d h l = absurd (omega arith)
below_at a (q ∷ qs) zero d h l = h.0
below_at a (q ∷ qs) (suc j) d h l = below_at a qs j d h.1 (omega arith)

pub parted : (t : List ℕ) (qs : List Entry) → InOrder qs → IsPartitionedBy (has_less t) qs
parted t [] o i j d l m up = absurd (omega arith)
parted t (q ∷ qs) o zero zero d l m up = up
parted t (q ∷ qs) o zero (suc j) d l m up = less_through q.print (get_or qs j d).print t (below_at q.print qs j d o.0 (omega arith)) up
parted t (q ∷ qs) o (suc i) zero d l m up = absurd (omega arith)
parted t (q ∷ qs) o (suc i) (suc j) d l m up = parted t qs o.1 i j d (omega arith) (omega arith) up

less_behind : (p q : Entry) → has_less p.print q ≡ true → side p q ≡ Behind
less_behind p q h =
    let e : slice_cmp nat_cmp p.print q.print ≡ Greater = nat_list_cmp_total.antisymm p.print q.print ∙ ap ordering_reverse (only_less _ h) in
    ap (λ o. by_order o Before (if term_eq p.unit q.unit then Same else Behind) Behind) e

walk_past : (n : ℕ) (p : Entry) (qs : List Entry) (i : ℕ) → AllWithin (λ q. has_less p.print q ≡ true) qs 0 i → i ≤ length qs → place_from n p qs ≡ place_from (n + i) p (drop i qs)
walk_past n p [] zero h l = ap (λ m. place_from m p []) (let e : n ≡ n + 0 = omega arith in e)
walk_past n p (q ∷ qs) zero h l = ap (λ m. place_from m p (q ∷ qs)) (let e : n ≡ n + 0 = omega arith in e)
walk_past n p [] (suc i) h l = absurd (omega arith)
walk_past n p (q ∷ qs) (suc i) h l =
    let first : side p q ≡ Behind = less_behind p q (h 0 q (omega arith) (omega arith)) in
    let e : suc n + i ≡ n + suc i = omega arith in
    ap (λ o. by_side o (at_place.Before n) (at_place.At n) (place_from (suc n) p qs)) first ∙ (walk_past (suc n) p qs i (λ k d a b. h (suc k) d (omega arith) (omega arith)) (omega arith) ∙ ap (λ m. place_from m p (drop i qs)) e)

pub place_behind : (p : Entry) (qs : List Entry) (i : ℕ) → AllWithin (λ q. has_less p.print q ≡ true) qs 0 i → i ≤ length qs → place_from 0 p qs ≡ place_from i p (drop i qs)
place_behind p qs i h l = walk_past 0 p qs i h l ∙ ap (λ m. place_from m p (drop i qs)) (let e : 0 + i ≡ i = omega arith in e)
