-- Normal forms have numbers of at most 2^62 in magnitude, so the sum of fewer than 2^64 of them stays within 128 bits.
use Rattle.std.proofs.Common.{◌≡◌, ◌⊎◌, inl, inr, ⊎_elim, ℕ, suc, ◌+◌, ◌*◌, ◌≤◌, ◌<◌, ◌^◌, ◌-◌, ℤ, pos, negsuc, neg_ℤ, ◌+ℤ◌, ◌*ℤ◌, ◌≤ℤ◌, List, [], ◌∷◌, length, map, true, false, Option, Some, None, option_map, refl, sym, ◌∙◌, ap, subst, if◌then◌else◌, arith}
use Rattle.std.specs.Prelude.{IfSome, All, AllPairs, ◌≢◌, ⊤}
use Rattle.std.specs.Ordering.{int_eq}
use Rattle.std.proofs.lemmas.Int.{ints}
use Rattle.ac_logic.specs.declared.formula.Term.{Term, Num, Bound}
use Rattle.ac_logic.specs.Patterns.{Scalar, ReadOf, Sum, Difference, Product, Negative}
use Rattle.ac_linear.specs.declared.entry.Entry.{Entry}
use Rattle.ac_linear.specs.declared.entry.Form.{Form}
use Rattle.ac_linear.specs.declared.range.Range.TheVariants.{Coefficient, Machine}
use Rattle.ac_linear.specs.declared.place.Side.TheVariants.{Before, Same, Behind}
use Rattle.ac_linear.specs.declared.linear.Part.{Part}
use Rattle.ac_linear.specs.declared.linear.Linear.{Linear}
use Rattle.ac_linear.specs.Opened.{hidden, term_shape, term_child, array_shape, array_child}
use Rattle.ac_linear.specs.NormalForm.{is_in, within, and_then, number_form, unit_form, with_factor, side, by_side, put_in, put_multiple, put_all, plus, term_of_form, unit_product, times, unit_read, form_of, part_of, linear_of, normal_of}
use Rattle.ac_linear.specs.Combination.{entry_of_part, form_of_linear, combined_with, combination_of}
use Rattle.ac_linear.specs.WellOrdered.{IsOrdered}
use Rattle.ac_linear.proofs.Ring.{one_mul}
use Rattle.ac_linear.proofs.Values.{then_some, map_some, said, either_some}
use Rattle.ac_steps.specs.FactDifferences.{once}
use Rattle.ac_steps.proofs.Weights.{same_unit}

-- at most b in magnitude
pub record Small (b : ℕ) (n : ℤ) : Type 0 where
  pub low : neg_ℤ (pos b) ≤ℤ n
  pub high : n ≤ℤ pos b

abbrev pub limit : ℕ
limit = 2 ^ 62

abbrev pub most : ℕ
most = 2 ^ 127 - 1

wider : (b c : ℕ) (n : ℤ) → b ≤ c → Small b n → Small c n
wider b c n h s = let low = s.low in let high = s.high in record { low = omega (arith, ints, low); high = omega (arith, ints, high) }

both_small : (b c : ℕ) (m n : ℤ) → Small b m → Small c n → Small (b + c) (m +ℤ n)
both_small b c m n s t =
    let sl = s.low in let sh = s.high in let tl = t.low in let th = t.high in
    record { low = omega (arith, ints, sl, tl); high = omega (arith, ints, sh, th) }

-- ---- what is within a range

in_coefficients : (n : ℤ) → is_in Coefficient n ≡ true → Small limit n
in_coefficients n h = record { low = grind (arith, ints); high = grind (arith, ints) }

coefficient : (n m : ℤ) → within Coefficient n ≡ Some m → Small limit m
coefficient n m h =
    said (within Coefficient n) m (Small limit) h
    (either_some (is_in Coefficient n) (Some n) None (Small limit) (λ e. in_coefficients n e) (λ _. tt))

in_machine : (n : ℤ) → Small most n → is_in Machine n ≡ true
in_machine n h = let low = h.low in let high = h.high in grind (arith, ints)

machine : (n : ℤ) → Small most n → within Machine n ≡ Some n
machine n h = ap (λ b. if b then Some n else None) (in_machine n h)

-- ---- the numbers of normal forms

abbrev pub AllSmall : ℕ → List Entry → Type 0
AllSmall b [] = ⊤
AllSmall b (p ∷ ps) = Small b p.factor × AllSmall b ps

abbrev pub IsSmall : ℕ → Form → Type 0
IsSmall b x = Small b x.constant × AllSmall b x.entries

factor_small : (q : Entry) (qs : List Entry) (f : ℤ) → Small limit f → AllSmall limit qs → AllSmall limit (with_factor q qs f)
factor_small q qs f h k = elim (int_eq f (pos 0)) as (λ b. AllSmall limit (if b then qs else record q { factor = f } ∷ qs)) [ true ↦ k | false ↦ (h, k) ]

put_small : (p : Entry) (qs : List Entry) → Small limit p.factor → AllSmall limit qs → IfSome (put_in Coefficient p qs) (AllSmall limit)
put_small p [] h k = (h, tt)
put_small p (q ∷ qs) h k =
    elim (side p q) as (λ o. IfSome (by_side o (Some (p ∷ q ∷ qs)) (option_map (with_factor q qs) (within Coefficient (q.factor +ℤ p.factor))) (option_map (λ rest. q ∷ rest) (put_in Coefficient p qs))) (AllSmall limit)) [
      | Before ↦ (h, k)
      | Same ↦ map_some (within Coefficient (q.factor +ℤ p.factor)) (with_factor q qs) (AllSmall limit) (λ f e. factor_small q qs f (coefficient (q.factor +ℤ p.factor) f e) k.1)
      | Behind ↦ map_some (put_in Coefficient p qs) (λ rest. q ∷ rest) (AllSmall limit) (λ rest e. (k.0, said (put_in Coefficient p qs) rest (AllSmall limit) e (put_small p qs h k.1)))
    ]

multiple_small : (k : ℤ) (q : Entry) (ps : List Entry) → AllSmall limit ps → IfSome (put_multiple Coefficient k q ps) (AllSmall limit)
multiple_small k q ps h =
    then_some (within Coefficient (k *ℤ q.factor)) (λ f. if int_eq f (pos 0) then Some ps else put_in Coefficient (record q { factor = f }) ps) (AllSmall limit) (λ f e.
    either_some (int_eq f (pos 0)) (Some ps) (put_in Coefficient (record q { factor = f }) ps) (AllSmall limit)
    (λ _. h)
    (λ _. put_small (record q { factor = f }) ps (coefficient (k *ℤ q.factor) f e) h))

all_small : (ps : List Entry) (k : ℤ) (qs : List Entry) → AllSmall limit ps → IfSome (put_all Coefficient ps k qs) (AllSmall limit)
all_small ps k [] h = h
all_small ps k (q ∷ qs) h =
    then_some (put_multiple Coefficient k q ps) (λ more. put_all Coefficient more k qs) (AllSmall limit) (λ more e.
    all_small more k qs (said (put_multiple Coefficient k q ps) more (AllSmall limit) e (multiple_small k q ps h)))

plus_small : (x : Form) (k : ℤ) (y : Form) → AllSmall limit x.entries → IfSome (plus Coefficient x k y) (IsSmall limit)
plus_small x k y h =
    then_some (within Coefficient (k *ℤ y.constant)) _ (IsSmall limit) (λ a _.
    then_some (within Coefficient (x.constant +ℤ a)) _ (IsSmall limit) (λ n e.
    map_some (put_all Coefficient x.entries k y.entries) (λ entries. record { constant = n; entries = entries }) (IsSmall limit) (λ entries f.
    (coefficient (x.constant +ℤ a) n e, said (put_all Coefficient x.entries k y.entries) entries (AllSmall limit) f (all_small x.entries k y.entries h)))))

zero_small : Small limit (pos 0)
zero_small = record { low = omega (arith, ints); high = omega (arith, ints) }

one_small : Small limit (pos 1)
one_small = record { low = omega (arith, ints); high = omega (arith, ints) }

unit_small : (t : Term) → IsSmall limit (unit_form t)
unit_small t = (zero_small, (one_small, tt))

times_small : (x y : Form) (xs ys : List Entry) → IfSome (times x y xs ys) (IsSmall limit)
times_small x y [] ys = plus_small (number_form (pos 0)) x.constant y tt
times_small x y (p ∷ xs) [] = plus_small (number_form (pos 0)) y.constant x tt
times_small x y (p ∷ xs) (q ∷ ys) =
    then_some (term_of_form x) _ (IsSmall limit) (λ s _. map_some (term_of_form y) (λ t. unit_form (unit_product s t)) (IsSmall limit) (λ t _. unit_small (unit_product s t)))

form_small : (t : Term) → IfSome (form_of t) (IsSmall limit)
unfolding hidden term_shape term_child array_shape array_child
form_small (Num n) = map_some (within Coefficient n) number_form (IsSmall limit) (λ m e. (coefficient n m e, tt))
form_small (Scalar s) = unit_small (Scalar s)
form_small (Bound k) = unit_small (Bound k)
form_small (ReadOf a i j) =
    then_some (form_of i) _ (IsSmall limit) (λ x _. then_some (form_of j) _ (IsSmall limit) (λ y _.
    then_some (term_of_form x) _ (IsSmall limit) (λ k _. map_some (term_of_form y) (unit_read a k) (IsSmall limit) (λ l _. unit_small (ReadOf a k l)))))
form_small (Sum s t) =
    then_some (form_of s) _ (IsSmall limit) (λ x hx. then_some (form_of t) _ (IsSmall limit) (λ y _.
    plus_small x (pos 1) y (said (form_of s) x (IsSmall limit) hx (form_small s)).1))
form_small (Difference s t) =
    then_some (form_of s) _ (IsSmall limit) (λ x hx. then_some (form_of t) _ (IsSmall limit) (λ y _.
    plus_small x (negsuc 0) y (said (form_of s) x (IsSmall limit) hx (form_small s)).1))
form_small (Product s t) =
    then_some (form_of s) _ (IsSmall limit) (λ x _. then_some (form_of t) _ (IsSmall limit) (λ y _. times_small x y x.entries y.entries))
form_small (Negative t) =
    then_some (form_of t) _ (IsSmall limit) (λ y _. plus_small (number_form (pos 0)) (negsuc 0) y tt)

-- ---- the same of their parts

abbrev pub SmallParts : List Part → Type 0
SmallParts [] = ⊤
SmallParts (p ∷ ps) = Small limit p.factor × SmallParts ps

small_parts : (ps : List Entry) → AllSmall limit ps → SmallParts (map part_of ps)
small_parts [] h = tt
small_parts (p ∷ ps) h = (h.0, small_parts ps h.1)

-- a fact as a step takes it: small, and each unit once
pub record IsNarrow (l : Linear) : Type 0 where
  pub constant : Small limit l.constant
  pub parts : SmallParts l.parts
  pub once : AllPairs (λ p q. p.unit ≢ q.unit) l.parts

pub normal_narrow : (t : Term) (l : Linear) → normal_of t ≡ Some l → IsOrdered l.parts → IsNarrow l
normal_narrow t l e o =
    let s : Small limit l.constant × SmallParts l.parts = said (normal_of t) l (λ m. Small limit m.constant × SmallParts m.parts) e
    (map_some (form_of t) linear_of (λ m. Small limit m.constant × SmallParts m.parts) (λ x f.
    let r : IsSmall limit x = said (form_of t) x (IsSmall limit) f (form_small t) in (r.0, small_parts x.entries r.1))) in
    record { constant = s.0; parts = s.1; once = o.once }

-- ---- the sum on its way

-- Numbers of at most b + 2^62 in magnitude, and of at most b where the unit is still to come.
abbrev Comes : Term → List Part → Type 0
Comes u [] = ⊥
Comes u (q ∷ qs) = (u ≡ q.unit) ⊎ Comes u qs

pub record HasRoom (b : ℕ) (qs : List Part) (p : Entry) : Type 0 where
  pub now : Small (b + limit) p.factor
  pub still : Comes p.unit qs → Small b p.factor

abbrev AllRoom : ℕ → List Part → List Entry → Type 0
AllRoom b qs [] = ⊤
AllRoom b qs (p ∷ ps) = HasRoom b qs p × AllRoom b qs ps

less_room : (b : ℕ) (q : Part) (qs : List Part) (ps : List Entry) → AllRoom b (q ∷ qs) ps → AllRoom b qs ps
less_room b q qs [] h = tt
less_room b q qs (p ∷ ps) h = (record { now = h.0.now; still = λ c. h.0.still (inr c) }, less_room b q qs ps h.1)

start_room : (b : ℕ) (qs : List Part) (ps : List Entry) → AllSmall b ps → AllRoom b qs ps
start_room b qs [] h = tt
start_room b qs (p ∷ ps) h = (record { now = wider b (b + limit) p.factor (omega arith) h.0; still = λ _. h.0 }, start_room b qs ps h.1)

end_room : (b : ℕ) (ps : List Entry) → AllRoom b [] ps → AllSmall (b + limit) ps
end_room b [] h = tt
end_room b (p ∷ ps) h = (h.0.now, end_room b ps h.1)

-- ---- what is given within the range

abbrev Gives : {A : Type 0} → Option A → (A → Type 0) → Type 0
Gives {A} o P = (x : A) × (o ≡ Some x) × P x

module _ {A B : Type 0} where
  gives_then : (o : Option A) (f : A → Option B) (x : A) (P : B → Type 0) → o ≡ Some x → Gives (f x) P → Gives (and_then o f) P
  gives_then o f x P e g = (g.0, ap (λ y. and_then y f) e ∙ g.1, g.2)

  gives_map : (o : Option A) (f : A → B) (x : A) (P : B → Type 0) → o ≡ Some x → P (f x) → Gives (option_map f o) P
  gives_map o f x P e h = (f x, ap (option_map f) e, h)

module _ (b : ℕ) (h : b + limit ≤ most) where
  sum_within : (m n : ℤ) → Small b m → Small limit n → within Machine (m +ℤ n) ≡ Some (m +ℤ n)
  sum_within m n s t = machine (m +ℤ n) (wider (b + limit) most (m +ℤ n) h (both_small b limit m n s t))

  once_within : (n : ℤ) → Small limit n → (within Machine (pos 1 *ℤ n) ≡ Some (pos 1 *ℤ n)) × Small limit (pos 1 *ℤ n)
  once_within n s =
      let t : Small limit (pos 1 *ℤ n) = subst (Small limit) (sym (one_mul n)) s in
      (machine (pos 1 *ℤ n) (wider limit most (pos 1 *ℤ n) (omega arith) t), t)

  factor_room : (q : Part) (qs : List Part) (x : Entry) (ps : List Entry) (f : ℤ) → x.unit ≡ q.unit → (Comes q.unit qs → ⊥) → Small (b + limit) f → AllRoom b qs ps → AllRoom b qs (with_factor x ps f)
  factor_room q qs x ps f u new s r =
      elim (int_eq f (pos 0)) as (λ c. AllRoom b qs (if c then ps else record x { factor = f } ∷ ps)) [
        | true ↦ r
        | false ↦ (record { now = s; still = λ c. absurd (new (subst (λ v. Comes v qs) u c)) }, r)
      ]

  put_gives : (q : Part) (qs : List Part) (e : Entry) → e.unit ≡ q.unit → Small limit e.factor → (Comes q.unit qs → ⊥) → (ps : List Entry) → AllRoom b (q ∷ qs) ps → Gives (put_in Machine e ps) (AllRoom b qs)
  put_gives q qs e u s new [] r = (e ∷ [], refl, (record { now = wider limit (b + limit) e.factor (omega arith) s; still = λ c. absurd (new (subst (λ v. Comes v qs) u c)) }, tt))
  put_gives q qs e u s new (x ∷ ps) r =
      elim (side e x) as (λ o. side e x ≡ o → Gives (by_side o (Some (e ∷ x ∷ ps)) (option_map (with_factor x ps) (within Machine (x.factor +ℤ e.factor))) (option_map (λ rest. x ∷ rest) (put_in Machine e ps))) (AllRoom b qs)) [
        | Before ↦ λ _. (e ∷ (x ∷ ps), refl, (record { now = wider limit (b + limit) e.factor (omega arith) s; still = λ c. absurd (new (subst (λ v. Comes v qs) u c)) }, less_room b q qs (x ∷ ps) r))
        | Same ↦ λ same.
            let v : x.unit ≡ q.unit = sym (same_unit e x same) ∙ u in
            let old : Small b x.factor = r.0.still (inl v) in
            gives_map (within Machine (x.factor +ℤ e.factor)) (with_factor x ps) (x.factor +ℤ e.factor) (AllRoom b qs) (sum_within x.factor e.factor old s)
            (factor_room q qs x ps (x.factor +ℤ e.factor) v new (both_small b limit x.factor e.factor old s) (less_room b q qs ps r.1))
        | Behind ↦ λ _.
            let rest = put_gives q qs e u s new ps r.1 in
            gives_map (put_in Machine e ps) (λ more. x ∷ more) rest.0 (AllRoom b qs) rest.1 (record { now = r.0.now; still = λ c. r.0.still (inr c) }, rest.2)
      ] refl

  multiple_gives : (q : Part) (qs : List Part) (ps : List Entry) → Small limit q.factor → (Comes q.unit qs → ⊥) → AllRoom b (q ∷ qs) ps → Gives (put_multiple Machine (pos 1) (entry_of_part q) ps) (AllRoom b qs)
  multiple_gives q qs ps s new r =
      let w = once_within q.factor s in
      let f : ℤ → Option (List Entry) = (λ k. if int_eq k (pos 0) then Some ps else put_in Machine (record (entry_of_part q) { factor = k }) ps) in
      gives_then (within Machine (pos 1 *ℤ q.factor)) f (pos 1 *ℤ q.factor) (AllRoom b qs) w.0
      (elim (int_eq (pos 1 *ℤ q.factor) (pos 0)) as (λ c. Gives (if c then Some ps else put_in Machine (record (entry_of_part q) { factor = pos 1 *ℤ q.factor }) ps) (AllRoom b qs)) [
        | true ↦ (ps, refl, less_room b q qs ps r)
        | false ↦ put_gives q qs (record (entry_of_part q) { factor = pos 1 *ℤ q.factor }) refl w.1 new ps r
      ])

  abbrev Distinct : List Part → Type 0
  Distinct [] = ⊤
  Distinct (q ∷ qs) = (Comes q.unit qs → ⊥) × Distinct qs

  all_gives : (qs : List Part) (ps : List Entry) → SmallParts qs → Distinct qs → AllRoom b qs ps → Gives (put_all Machine ps (pos 1) (map entry_of_part qs)) (AllSmall (b + limit))
  all_gives [] ps s d r = (ps, refl, end_room b ps r)
  all_gives (q ∷ qs) ps s d r =
      let first = multiple_gives q qs ps s.0 d.0 r in
      gives_then (put_multiple Machine (pos 1) (entry_of_part q) ps) (λ more. put_all Machine more (pos 1) (map entry_of_part qs)) first.0 (AllSmall (b + limit)) first.1 (all_gives qs first.0 s.1 d.1 first.2)

  not_coming : (u : Term) (qs : List Part) → All (λ q. u ≢ q.unit) qs → Comes u qs → ⊥
  not_coming u [] h c = c
  not_coming u (q ∷ qs) h c = ⊎_elim (λ e. h 0 q (omega arith) e) (λ d. not_coming u qs (λ n x lt. h (suc n) x (omega arith)) d) c

  distinct : (qs : List Part) → AllPairs (λ p q. p.unit ≢ q.unit) qs → Distinct qs
  distinct [] h = tt
  distinct (q ∷ qs) h = (not_coming q.unit qs (λ n x lt. h 0 (suc n) x (omega arith) (omega arith)), distinct qs (λ i j x p q. h (suc i) (suc j) x (omega arith) (omega arith)))

  plus_gives : (x : Form) (l : Linear) → IsNarrow l → IsSmall b x → Gives (plus Machine x (pos 1) (form_of_linear l)) (IsSmall (b + limit))
  plus_gives x l n s =
      let w = once_within l.constant n.constant in
      let m : ℤ = pos 1 *ℤ l.constant in
      let entries = all_gives l.parts x.entries n.parts (distinct l.parts n.once) (start_room b l.parts x.entries s.1) in
      gives_then (within Machine m) (λ k. and_then (within Machine (x.constant +ℤ k)) (λ c. option_map (λ es. record { constant = c; entries = es }) (put_all Machine x.entries (pos 1) (map entry_of_part l.parts)))) m (IsSmall (b + limit)) w.0
      (gives_then (within Machine (x.constant +ℤ m)) (λ c. option_map (λ es. record { constant = c; entries = es }) (put_all Machine x.entries (pos 1) (map entry_of_part l.parts))) (x.constant +ℤ m) (IsSmall (b + limit)) (sum_within x.constant m s.0 w.1)
      (gives_map (put_all Machine x.entries (pos 1) (map entry_of_part l.parts)) (λ es. record { constant = x.constant +ℤ m; entries = es }) entries.0 (IsSmall (b + limit)) entries.1 (both_small b limit x.constant m s.0 w.1, entries.2)))

abbrev pub AllNarrow : List Linear → Type 0
AllNarrow [] = ⊤
AllNarrow (l ∷ ls) = IsNarrow l × AllNarrow ls

combined_gives : (ls : List Linear) (x : Form) (b : ℕ) → AllNarrow ls → IsSmall b x → b + length ls * limit ≤ most → Gives (combined_with x ls (once ls)) (λ z. ⊤)
combined_gives [] x b n s h = (x, refl, tt)
combined_gives (l ∷ ls) x b n s h =
    let first = plus_gives b (omega arith) x l n.0 s in
    gives_then (plus Machine x (pos 1) (form_of_linear l)) (λ y. combined_with y ls (once ls)) first.0 (λ z. ⊤) first.1 (combined_gives ls first.0 (b + limit) n.1 first.2 (omega arith))

pub combination_exists : (ls : List Linear) → AllNarrow ls → length ls < 2 ^ 64 → (sum : Linear) × (combination_of ls (once ls) ≡ Some sum)
combination_exists ls n h =
    let nothing : Small 0 (pos 0) = record { low = omega (arith, ints); high = omega (arith, ints) } in
    let g = combined_gives ls (number_form (pos 0)) 0 n (nothing, tt) (omega arith) in
    (linear_of g.0, ap (option_map linear_of) g.1)
