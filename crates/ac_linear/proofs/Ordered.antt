-- The parts of each normal form and of each combination are in order, because a part is put into its place.
use Rattle.std.proofs.Common.{◌≡◌, ℕ, ℤ, pos, negsuc, ◌+ℤ◌, ◌*ℤ◌, List, [], ◌∷◌, map, Bool, true, false, Some, option_map, refl, sym, ◌∙◌, ap, if◌then◌else◌, arith}
use Rattle.std.specs.Prelude.{◌≢◌, ⊤, IfSome, All, AllPairs}
use Rattle.std.specs.Ordering.{int_eq, nat_cmp, ordering_reverse}
use Rattle.std.specs.Cmp.{alike_right, tied_back, tied_itself}
use Rattle.std.specs.Cmp.Lexicographic.{slice_cmp, nat_list_cmp_total}
use Rattle.std.specs.declared.cmp.Ordering.{Ordering}
use Rattle.std.specs.declared.cmp.Ordering.TheVariants.{Less, Equal, Greater}
use Rattle.std.proofs.lemmas.List.Elements.{All-nil, All-cons}
use Rattle.std.proofs.lemmas.List.Kept.{AllPairs-cons}
use Rattle.ac_logic.specs.declared.formula.Term.{Term, Num, Bound}
use Rattle.ac_logic.specs.Patterns.{Scalar, ReadOf, Sum, Difference, Product, Negative}
use Rattle.ac_formula_printer.specs.Printing.{text_of_term}
use Rattle.ac_linear.specs.declared.entry.Entry.{Entry}
use Rattle.ac_linear.specs.declared.entry.Form.{Form}
use Rattle.ac_linear.specs.declared.linear.Linear.{Linear}
use Rattle.ac_linear.specs.declared.linear.Part.{Part}
use Rattle.ac_linear.specs.declared.place.Side.{Side}
use Rattle.ac_linear.specs.declared.place.Side.TheVariants.{Before, Same, Behind}
use Rattle.ac_linear.specs.declared.range.Range.{Range}
use Rattle.ac_linear.specs.declared.range.Range.TheVariants.{Coefficient, Machine}
use Rattle.ac_linear.specs.Opened.{hidden, term_shape, term_child, array_shape, array_child}
use Rattle.ac_linear.specs.TermEquality.{term_eq}
use Rattle.ac_linear.specs.NormalForm.{within, number_form, unit_form, with_factor, by_order, side, by_side, put_in, put_multiple, put_all, plus, term_of_form, unit_product, times, unit_read, form_of, part_of, linear_of, normal_of}
use Rattle.ac_linear.specs.Combination.{entry_of_part, form_of_linear, combined_with, combination_of}
use Rattle.ac_linear.specs.WellOrdered.{IsOrdered}
use Rattle.ac_linear.proofs.Equal.{term_true}
use Rattle.ac_linear.proofs.Values.{then_some, map_some, either_some, said}

-- the print is that of the unit
abbrev Made : Entry → Type 0
Made p = p.print ≡ text_of_term 0 p.unit

abbrev pub AllMade : List Entry → Type 0
AllMade [] = ⊤
AllMade (p ∷ ps) = Made p × AllMade ps

-- A unit and its print may stand before an entry: another unit, and no greater print.
abbrev pub Apart : Term → List ℕ → Entry → Type 0
Apart u t q = (u ≢ q.unit) × (slice_cmp nat_cmp t q.print ≢ Greater)

abbrev pub AheadOf : Term → List ℕ → List Entry → Type 0
AheadOf u t [] = ⊤
AheadOf u t (q ∷ qs) = Apart u t q × AheadOf u t qs

-- what the entries of a form keep on the way
abbrev pub Kept : List Entry → Type 0
Kept [] = ⊤
Kept (p ∷ ps) = Made p × (p.factor ≢ pos 0) × AheadOf p.unit p.print ps × Kept ps

-- ---- two entries side by side

clash_equal : (o : Ordering) → o ≡ Less → o ≡ Equal → ⊥
clash_equal o h k = cc

pub clash_greater : (o : Ordering) → o ≡ Less → o ≡ Greater → ⊥
clash_greater o h k = cc

pub level_clash : (o : Ordering) → o ≡ Equal → o ≡ Greater → ⊥
level_clash o h k = cc

truth_clash : (b : Bool) → b ≡ true → b ≡ false → ⊥
truth_clash b h k = cc

nonzero : (f : ℤ) → int_eq f (pos 0) ≡ false → f ≢ pos 0
nonzero f e h = truth_clash (int_eq f (pos 0)) (ap (λ x. int_eq x (pos 0)) h) e

level : (a b : List ℕ) → a ≡ b → slice_cmp nat_cmp a b ≡ Equal
level a b h = ap (slice_cmp nat_cmp a) (sym h) ∙ tied_itself nat_list_cmp_total a

less_apart : (p q : Entry) → Made p → Made q → slice_cmp nat_cmp p.print q.print ≡ Less → Apart p.unit p.print q
less_apart p q hp hq h = (λ u. clash_equal _ h (level p.print q.print (hp ∙ (ap (text_of_term 0) u ∙ sym hq))), λ g. clash_greater _ h g)

pub reversed : (a b : List ℕ) → slice_cmp nat_cmp a b ≡ Greater → slice_cmp nat_cmp b a ≡ Less
reversed a b h = nat_list_cmp_total.antisymm b a ∙ ap ordering_reverse h

level_apart : (p q : Entry) → slice_cmp nat_cmp p.print q.print ≡ Equal → term_eq p.unit q.unit ≡ false → Apart q.unit q.print p
level_apart p q h k = (λ u. truth_clash _ (term_true p.unit q.unit (sym u)) k, λ g. level_clash _ (tied_back nat_list_cmp_total p.print q.print h) g)

-- what the side tells
abbrev Told : Side → Entry → Entry → Type 0
Told Before p q = slice_cmp nat_cmp p.print q.print ≡ Less
Told Same p q = ⊤
Told Behind p q = Apart q.unit q.print p

told : (p q : Entry) → Made p → Made q → Told (side p q) p q
told p q hp hq =
    elim (slice_cmp nat_cmp p.print q.print) as (λ o. slice_cmp nat_cmp p.print q.print ≡ o → Told (by_order o Before (if term_eq p.unit q.unit then Same else Behind) Behind) p q) [
      | Less ↦ λ e. e
      | Equal ↦ λ e. elim (term_eq p.unit q.unit) as (λ b. term_eq p.unit q.unit ≡ b → Told (if b then Same else Behind) p q) [ true ↦ λ t. tt | false ↦ λ t. level_apart p q e t ] refl
      | Greater ↦ λ e. less_apart q p hq hp (reversed p.print q.print e)
    ] refl

-- ---- an entry put into its place

pub below : (a b c : List ℕ) → slice_cmp nat_cmp a b ≡ Less → slice_cmp nat_cmp b c ≢ Greater → slice_cmp nat_cmp a c ≡ Less
below a b c h k =
    elim (slice_cmp nat_cmp b c) as (λ o. slice_cmp nat_cmp b c ≡ o → slice_cmp nat_cmp a c ≡ Less) [
      | Less ↦ λ e. nat_list_cmp_total.trans a b c h e
      | Equal ↦ λ e. sym (alike_right nat_list_cmp_total b c a e) ∙ h
      | Greater ↦ λ e. absurd (k e)
    ] refl

ahead_too : (p q : Entry) (qs : List Entry) → Made p → slice_cmp nat_cmp p.print q.print ≡ Less → AheadOf q.unit q.print qs → Kept qs → AheadOf p.unit p.print qs
ahead_too p q [] m l h k = tt
ahead_too p q (s ∷ qs) m l h k = (less_apart p s m k.0 (below p.print q.print s.print l h.0.1), ahead_too p q qs m l h.1 k.3)

factor_ahead : (u : Term) (t : List ℕ) (q : Entry) (qs : List Entry) (f : ℤ) → AheadOf u t (q ∷ qs) → AheadOf u t (with_factor q qs f)
factor_ahead u t q qs f h = elim (int_eq f (pos 0)) as (λ b. AheadOf u t (if b then qs else record q { factor = f } ∷ qs)) [ true ↦ h.1 | false ↦ h ]

put_ahead : (r : Range) (u : Term) (t : List ℕ) (p : Entry) (qs : List Entry) → AheadOf u t qs → Apart u t p → IfSome (put_in r p qs) (AheadOf u t)
put_ahead r u t p [] h a = (a, tt)
put_ahead r u t p (q ∷ qs) h a =
    let behind : IfSome (option_map (λ rest. q ∷ rest) (put_in r p qs)) (AheadOf u t) = map_some (put_in r p qs) (λ rest. q ∷ rest) (AheadOf u t) (λ rest e. (h.0, said (put_in r p qs) rest (AheadOf u t) e (put_ahead r u t p qs h.1 a))) in
    elim (side p q) as (λ o. IfSome (by_side o (Some (p ∷ q ∷ qs)) (option_map (with_factor q qs) (within r (q.factor +ℤ p.factor))) (option_map (λ rest. q ∷ rest) (put_in r p qs))) (AheadOf u t)) [
      | Before ↦ (a, h)
      | Same ↦ map_some (within r (q.factor +ℤ p.factor)) (with_factor q qs) (AheadOf u t) (λ f _. factor_ahead u t q qs f h)
      | Behind ↦ behind
    ]

factor_kept : (q : Entry) (qs : List Entry) (f : ℤ) → Kept (q ∷ qs) → Kept (with_factor q qs f)
factor_kept q qs f k = elim (int_eq f (pos 0)) as (λ b. int_eq f (pos 0) ≡ b → Kept (if b then qs else record q { factor = f } ∷ qs)) [ true ↦ λ _. k.3 | false ↦ λ e. (k.0, nonzero f e, k.2, k.3) ] refl

put_kept : (r : Range) (p : Entry) (qs : List Entry) → Made p → p.factor ≢ pos 0 → Kept qs → IfSome (put_in r p qs) Kept
put_kept r p [] m z k = (m, z, tt, tt)
put_kept r p (q ∷ qs) m z k =
    let behind : Told Behind p q → IfSome (option_map (λ rest. q ∷ rest) (put_in r p qs)) Kept = λ a. map_some (put_in r p qs) (λ rest. q ∷ rest) Kept (λ rest e. (k.0, k.1, said (put_in r p qs) rest (AheadOf q.unit q.print) e (put_ahead r q.unit q.print p qs k.2 a), said (put_in r p qs) rest Kept e (put_kept r p qs m z k.3))) in
    elim (side p q) as (λ o. Told o p q → IfSome (by_side o (Some (p ∷ q ∷ qs)) (option_map (with_factor q qs) (within r (q.factor +ℤ p.factor))) (option_map (λ rest. q ∷ rest) (put_in r p qs))) Kept) [
      | Before ↦ λ l. (m, z, (less_apart p q m k.0 l, ahead_too p q qs m l k.2 k.3), k)
      | Same ↦ λ _. map_some (within r (q.factor +ℤ p.factor)) (with_factor q qs) Kept (λ f _. factor_kept q qs f k)
      | Behind ↦ behind
    ] (told p q m k.0)

-- ---- sums and multiples

multiple_kept : (r : Range) (k : ℤ) (q : Entry) (ps : List Entry) → Made q → Kept ps → IfSome (put_multiple r k q ps) Kept
multiple_kept r k q ps m h =
    then_some (within r (k *ℤ q.factor)) (λ f. if int_eq f (pos 0) then Some ps else put_in r (record q { factor = f }) ps) Kept (λ f _.
    either_some (int_eq f (pos 0)) (Some ps) (put_in r (record q { factor = f }) ps) Kept
    (λ _. h)
    (λ e. put_kept r (record q { factor = f }) ps m (nonzero f e) h))

pub all_kept : (r : Range) (ps : List Entry) (k : ℤ) (qs : List Entry) → Kept ps → AllMade qs → IfSome (put_all r ps k qs) Kept
all_kept r ps k [] h m = h
all_kept r ps k (q ∷ qs) h m =
    then_some (put_multiple r k q ps) (λ more. put_all r more k qs) Kept (λ more e.
    all_kept r more k qs (said (put_multiple r k q ps) more Kept e (multiple_kept r k q ps m.0 h)) m.1)

pub kept_made : (ps : List Entry) → Kept ps → AllMade ps
kept_made [] k = tt
kept_made (p ∷ ps) k = (k.0, kept_made ps k.3)

abbrev pub FormKept : Form → Type 0
FormKept x = Kept x.entries

pub plus_kept : (r : Range) (x : Form) (k : ℤ) (y : Form) → FormKept x → AllMade y.entries → IfSome (plus r x k y) FormKept
plus_kept r x k y h m =
    then_some (within r (k *ℤ y.constant)) _ FormKept (λ a _.
    then_some (within r (x.constant +ℤ a)) _ FormKept (λ n _.
    map_some (put_all r x.entries k y.entries) (λ entries. record { constant = n; entries = entries }) FormKept (λ entries e.
    said (put_all r x.entries k y.entries) entries Kept e (all_kept r x.entries k y.entries h m))))

-- ---- normal forms

one_no_zero : pos 1 ≢ pos 0
one_no_zero h = nonzero (pos 1) refl h

unit_kept : (t : Term) → FormKept (unit_form t)
unit_kept t = (refl, one_no_zero, tt, tt)

scaled_kept : (k : ℤ) (y : Form) → FormKept y → IfSome (plus Coefficient (number_form (pos 0)) k y) FormKept
scaled_kept k y h = plus_kept Coefficient (number_form (pos 0)) k y tt (kept_made y.entries h)

times_kept : (x y : Form) (xs ys : List Entry) → FormKept x → FormKept y → IfSome (times x y xs ys) FormKept
times_kept x y [] ys h k = scaled_kept x.constant y k
times_kept x y (p ∷ xs) [] h k = scaled_kept y.constant x h
times_kept x y (p ∷ xs) (q ∷ ys) h k =
    then_some (term_of_form x) _ FormKept (λ s _. map_some (term_of_form y) (λ t. unit_form (unit_product s t)) FormKept (λ t _. unit_kept (unit_product s t)))

pub form_kept : (t : Term) → IfSome (form_of t) FormKept
unfolding hidden term_shape term_child array_shape array_child
form_kept (Num n) = map_some (within Coefficient n) number_form FormKept (λ m _. tt)
form_kept (Scalar s) = unit_kept (Scalar s)
form_kept (Bound k) = unit_kept (Bound k)
form_kept (ReadOf a i j) =
    then_some (form_of i) _ FormKept (λ x _. then_some (form_of j) _ FormKept (λ y _.
    then_some (term_of_form x) _ FormKept (λ k _. map_some (term_of_form y) (unit_read a k) FormKept (λ l _. unit_kept (ReadOf a k l)))))
form_kept (Sum s t) =
    then_some (form_of s) _ FormKept (λ x hx. then_some (form_of t) _ FormKept (λ y hy.
    plus_kept Coefficient x (pos 1) y (said (form_of s) x FormKept hx (form_kept s)) (kept_made y.entries (said (form_of t) y FormKept hy (form_kept t)))))
form_kept (Difference s t) =
    then_some (form_of s) _ FormKept (λ x hx. then_some (form_of t) _ FormKept (λ y hy.
    plus_kept Coefficient x (negsuc 0) y (said (form_of s) x FormKept hx (form_kept s)) (kept_made y.entries (said (form_of t) y FormKept hy (form_kept t)))))
form_kept (Product s t) =
    then_some (form_of s) _ FormKept (λ x hx. then_some (form_of t) _ FormKept (λ y hy.
    times_kept x y x.entries y.entries (said (form_of s) x FormKept hx (form_kept s)) (said (form_of t) y FormKept hy (form_kept t))))
form_kept (Negative t) =
    then_some (form_of t) _ FormKept (λ y hy. scaled_kept (negsuc 0) y (said (form_of t) y FormKept hy (form_kept t)))

-- ---- combinations

parts_made : (ps : List Part) → AllMade (map entry_of_part ps)
parts_made [] = tt
parts_made (p ∷ ps) = (refl, parts_made ps)

combined_kept : (x : Form) (ls : List Linear) (ks : List ℕ) → FormKept x → IfSome (combined_with x ls ks) FormKept
combined_kept x [] ks h = h
combined_kept x (l ∷ ls) [] h = h
combined_kept x (l ∷ ls) (k ∷ ks) h =
    then_some (plus Machine x (pos k) (form_of_linear l)) (λ y. combined_with y ls ks) FormKept (λ y e.
    combined_kept y ls ks (said (plus Machine x (pos k) (form_of_linear l)) y FormKept e (plus_kept Machine x (pos k) (form_of_linear l) h (parts_made l.parts))))

-- ---- without the prints

abbrev IsOther : Part → Part → Type 0
IsOther p q = p.unit ≢ q.unit

abbrev IsNoGreater : Part → Part → Type 0
IsNoGreater p q = slice_cmp nat_cmp (text_of_term 0 p.unit) (text_of_term 0 q.unit) ≢ Greater

others : (p : Part) (t : List ℕ) (qs : List Entry) → AheadOf p.unit t qs → All (IsOther p) (map part_of qs)
others p t [] h = All-nil (IsOther p)
others p t (q ∷ qs) h = All-cons (IsOther p) (part_of q) (map part_of qs) h.0.0 (others p t qs h.1)

no_greater : (p : Part) (t : List ℕ) (qs : List Entry) → t ≡ text_of_term 0 p.unit → AheadOf p.unit t qs → AllMade qs → All (IsNoGreater p) (map part_of qs)
no_greater p t [] e h m = All-nil (IsNoGreater p)
no_greater p t (q ∷ qs) e h m =
    let n : q.print ≡ text_of_term 0 q.unit = m.0 in
    All-cons (IsNoGreater p) (part_of q) (map part_of qs) (λ g. h.0.1 ((λ i. slice_cmp nat_cmp (e i) (n i)) ∙ g)) (no_greater p t qs e h.1 m.1)

no_pairs : (R : Part → Part → Type 0) → AllPairs R []
no_pairs R i j d a b = absurd (omega arith)

parts_ordered : (ps : List Entry) → Kept ps → IsOrdered (map part_of ps)
parts_ordered [] k = record { no_zero = All-nil (λ p. p.factor ≢ pos 0); once = no_pairs IsOther; in_order = no_pairs IsNoGreater }
parts_ordered (p ∷ ps) k =
    let rest : IsOrdered (map part_of ps) = parts_ordered ps k.3 in
    record {
      no_zero = All-cons (λ p. p.factor ≢ pos 0) (part_of p) (map part_of ps) k.1 rest.no_zero;
      once = AllPairs-cons IsOther (part_of p) (map part_of ps) (others (part_of p) p.print ps k.2) rest.once;
      in_order = AllPairs-cons IsNoGreater (part_of p) (map part_of ps) (no_greater (part_of p) p.print ps k.0 k.2 (kept_made ps k.3)) rest.in_order;
    }

abbrev LinearOrdered : Linear → Type 0
LinearOrdered l = IsOrdered l.parts

-- the laws at an answer
pub normal_ordered : (t : Term) (l : Linear) → normal_of t ≡ Some l → IsOrdered l.parts
normal_ordered t l h = said (normal_of t) l LinearOrdered h (map_some (form_of t) linear_of LinearOrdered (λ x e. parts_ordered x.entries (said (form_of t) x FormKept e (form_kept t))))

pub combination_ordered : (ls : List Linear) (ks : List ℕ) (l : Linear) → combination_of ls ks ≡ Some l → IsOrdered l.parts
combination_ordered ls ks l h =
    let start : Form = number_form (pos 0) in
    said (combination_of ls ks) l LinearOrdered h (map_some (combined_with start ls ks) linear_of LinearOrdered (λ x e. parts_ordered x.entries (said (combined_with start ls ks) x FormKept e (combined_kept start ls ks tt))))
