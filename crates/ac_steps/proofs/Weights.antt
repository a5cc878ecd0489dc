-- The number_of_parts of a form: the sum of factor times the number_of_parts of the unit, whatever units weigh.
use Rattle.std.proofs.Common.{◌≡◌, suc, ℤ, pos, ◌+ℤ◌, ◌*ℤ◌, List, [], ◌∷◌, map, true, false, Some, option_map, refl, sym, ◌∙◌, ap, if◌then◌else◌, arith}
use Rattle.std.specs.Prelude.{IfSome, All, ◌≢◌}
use Rattle.std.specs.Ordering.{int_eq, nat_cmp}
use Rattle.std.specs.Cmp.Lexicographic.{slice_cmp}
use Rattle.std.specs.declared.cmp.Ordering.TheVariants.{Less, Equal, Greater}
use Rattle.std.proofs.lemmas.Int.{ints}
use Rattle.std.proofs.Math.IntN.{zero-*ℤ, *ℤ-zero, *ℤ_comm}
use Rattle.ac_logic.specs.declared.formula.Term.{Term}
use Rattle.ac_linear.specs.declared.entry.Entry.{Entry}
use Rattle.ac_linear.specs.declared.entry.Form.{Form}
use Rattle.ac_linear.specs.declared.range.Range.{Range}
use Rattle.ac_linear.specs.declared.range.Range.TheVariants.{Machine}
use Rattle.ac_linear.specs.declared.place.Side.TheVariants.{Before, Same, Behind}
use Rattle.ac_linear.specs.declared.linear.Part.{Part}
use Rattle.ac_linear.specs.declared.linear.Linear.{Linear}
use Rattle.ac_linear.specs.TermEquality.{term_eq}
use Rattle.ac_linear.specs.NormalForm.{within, number_form, with_factor, by_order, side, by_side, put_in, put_multiple, put_all, plus, part_of, linear_of}
use Rattle.ac_linear.specs.Combination.{entry_of_part, form_of_linear, combined_with, combination_of}
use Rattle.ac_linear.specs.WellOrdered.{IsOrdered}
use Rattle.ac_linear.proofs.Ring.{add_mul, mul_assoc, mul_add, one_mul}
use Rattle.ac_linear.proofs.Equal.{term_same, term_true, term_false}
use Rattle.ac_linear.proofs.Values.{then_some, map_some, said, weaker, either_some, within_itself}
use Rattle.ac_steps.specs.FactDifferences.{number_of_parts, once}

pub same_unit : (p q : Entry) → side p q ≡ Same → p.unit ≡ q.unit
same_unit p q =
    elim (slice_cmp nat_cmp p.print q.print) as (λ o. by_order o Before (if term_eq p.unit q.unit then Same else Behind) Behind ≡ Same → p.unit ≡ q.unit) [
      | Less ↦ λ h. cc
      | Equal ↦ elim (term_eq p.unit q.unit) as (λ b. term_eq p.unit q.unit ≡ b → (if b then Same else Behind) ≡ Same → p.unit ≡ q.unit) [ true ↦ λ t h. term_same p.unit q.unit t | false ↦ λ t h. cc ] refl
      | Greater ↦ λ h. cc
    ]

pub zero_test : (f : ℤ) → int_eq f (pos 0) ≡ true → f ≡ pos 0
zero_test f h = grind arith

abbrev pub constants : List Linear → ℤ
constants [] = pos 0
constants (l ∷ ls) = l.constant +ℤ constants ls

module _ (g : Term → ℤ) where
  abbrev pub entries_weight : List Entry → ℤ
  entries_weight [] = pos 0
  entries_weight (p ∷ ps) = (p.factor *ℤ g p.unit) +ℤ entries_weight ps

  abbrev pub weights : List Linear → ℤ
  weights [] = pos 0
  weights (l ∷ ls) = number_of_parts g l.parts +ℤ weights ls

  entries_of_parts : (ps : List Part) → entries_weight (map entry_of_part ps) ≡ number_of_parts g ps
  entries_of_parts [] = refl
  entries_of_parts (p ∷ ps) = ap (λ x. (p.factor *ℤ g p.unit) +ℤ x) (entries_of_parts ps)

  pub parts_of_entries : (ps : List Entry) → number_of_parts g (map part_of ps) ≡ entries_weight ps
  parts_of_entries [] = refl
  parts_of_entries (p ∷ ps) = ap (λ x. (p.factor *ℤ g p.unit) +ℤ x) (parts_of_entries ps)

  with_factor_weight : (q : Entry) (qs : List Entry) (f : ℤ) → entries_weight (with_factor q qs f) ≡ (f *ℤ g q.unit) +ℤ entries_weight qs
  with_factor_weight q qs f =
      elim (int_eq f (pos 0)) as (λ b. int_eq f (pos 0) ≡ b → entries_weight (if b then qs else record q { factor = f } ∷ qs) ≡ (f *ℤ g q.unit) +ℤ entries_weight qs) [
        | true ↦ λ h. (let z : f *ℤ g q.unit ≡ pos 0 = ap (λ x. x *ℤ g q.unit) (zero_test f h) ∙ zero-*ℤ (g q.unit) in omega (arith, ints, z))
        | false ↦ λ h. refl
      ] refl

  behind_sum : (a b c d : ℤ) → d ≡ a +ℤ c → b +ℤ d ≡ a +ℤ (b +ℤ c)
  behind_sum a b c d h = omega (arith, ints, h)

  joined_sum : (f q p v u n : ℤ) → f ≡ q +ℤ p → v ≡ u → n ≡ (p *ℤ u) +ℤ ((q *ℤ v)) → (f *ℤ v) ≡ n
  joined_sum f q p v u n h k m = ap (λ x. x *ℤ v) h ∙ (add_mul q p v ∙ (let a : p *ℤ v ≡ p *ℤ u = ap (λ x. p *ℤ x) k in omega (arith, ints, a, m)))

  put_in_weight : (r : Range) (p : Entry) (qs : List Entry) → IfSome (put_in r p qs) (λ rs. entries_weight rs ≡ (p.factor *ℤ g p.unit) +ℤ entries_weight qs)
  put_in_weight r p [] = refl
  put_in_weight r p (q ∷ qs) =
      let P : List Entry → Type 0 = (λ rs. entries_weight rs ≡ (p.factor *ℤ g p.unit) +ℤ ((q.factor *ℤ g q.unit) +ℤ entries_weight qs)) in
      let behind : IfSome (option_map (λ rest. q ∷ rest) (put_in r p qs)) P = map_some (put_in r p qs) (λ rest. q ∷ rest) P (λ rest h. behind_sum _ _ _ _ (said (put_in r p qs) rest _ h (put_in_weight r p qs))) in
      elim (side p q) as (λ o. side p q ≡ o → IfSome (by_side o (Some (p ∷ q ∷ qs)) (option_map (with_factor q qs) (within r (q.factor +ℤ p.factor))) (option_map (λ rest. q ∷ rest) (put_in r p qs))) P) [
        | Before ↦ λ _. refl
        | Same ↦ λ same. map_some (within r (q.factor +ℤ p.factor)) (with_factor q qs) P (λ f h.
            let u : g q.unit ≡ g p.unit = ap g (sym (same_unit p q same)) in
            let s : f *ℤ g q.unit ≡ (p.factor *ℤ g p.unit) +ℤ (q.factor *ℤ g q.unit) = joined_sum f q.factor p.factor _ _ _ (within_itself r _ f h) u refl in
            with_factor_weight q qs f ∙ omega (arith, ints, s))
        | Behind ↦ λ _. behind
      ] refl

  multiple_sum : (k f n v a b : ℤ) → f ≡ k *ℤ n → a ≡ (f *ℤ v) +ℤ b → a ≡ b +ℤ (k *ℤ (n *ℤ v))
  multiple_sum k f n v a b h i = (let x : f *ℤ v ≡ k *ℤ (n *ℤ v) = ap (λ y. y *ℤ v) h ∙ mul_assoc k n v in omega (arith, ints, x, i))

  multiple_weight : (r : Range) (k : ℤ) (q : Entry) (ps : List Entry) → IfSome (put_multiple r k q ps) (λ rs. entries_weight rs ≡ entries_weight ps +ℤ (k *ℤ (q.factor *ℤ g q.unit)))
  multiple_weight r k q ps =
      let P : List Entry → Type 0 = (λ rs. entries_weight rs ≡ entries_weight ps +ℤ (k *ℤ (q.factor *ℤ g q.unit))) in
      then_some (within r (k *ℤ q.factor)) (λ f. if int_eq f (pos 0) then Some ps else put_in r (record q { factor = f }) ps) P (λ f hf.
      let n : f ≡ k *ℤ q.factor = within_itself r _ f hf in
      either_some (int_eq f (pos 0)) (Some ps) (put_in r (record q { factor = f }) ps) P
      (λ t. multiple_sum k f q.factor (g q.unit) _ _ n (let z : f *ℤ g q.unit ≡ pos 0 = ap (λ x. x *ℤ g q.unit) (zero_test f t) ∙ zero-*ℤ (g q.unit) in omega (arith, ints, z)))
      (λ _. weaker (put_in r (record q { factor = f }) ps) _ P (λ rs h. multiple_sum k f q.factor (g q.unit) _ _ n h) (put_in_weight r (record q { factor = f }) ps)))

  put_all_weight : (r : Range) (ps : List Entry) (k : ℤ) (qs : List Entry) → IfSome (put_all r ps k qs) (λ rs. entries_weight rs ≡ entries_weight ps +ℤ (k *ℤ entries_weight qs))
  put_all_weight r ps k [] = (let z : k *ℤ pos 0 ≡ pos 0 = *ℤ-zero k in omega (arith, ints, z))
  put_all_weight r ps k (q ∷ qs) =
      let P : List Entry → Type 0 = (λ rs. entries_weight rs ≡ entries_weight ps +ℤ (k *ℤ ((q.factor *ℤ g q.unit) +ℤ entries_weight qs))) in
      then_some (put_multiple r k q ps) (λ more. put_all r more k qs) P (λ more hm.
      let m : entries_weight more ≡ entries_weight ps +ℤ (k *ℤ (q.factor *ℤ g q.unit)) = said (put_multiple r k q ps) more _ hm (multiple_weight r k q ps) in
      let d : k *ℤ ((q.factor *ℤ g q.unit) +ℤ entries_weight qs) ≡ (k *ℤ (q.factor *ℤ g q.unit)) +ℤ (k *ℤ entries_weight qs) = mul_add k (q.factor *ℤ g q.unit) (entries_weight qs) in
      weaker (put_all r more k qs) _ P (λ rs h. omega (arith, ints, m, d, h)) (put_all_weight r more k qs))

  -- the constant and the number_of_parts of x and k times y
  abbrev pub Added : Form → ℤ → Form → Form → Type 0
  Added x k y z = (z.constant ≡ x.constant +ℤ (k *ℤ y.constant)) × (entries_weight z.entries ≡ entries_weight x.entries +ℤ (k *ℤ entries_weight y.entries))

  pub plus_weight : (r : Range) (x : Form) (k : ℤ) (y : Form) → IfSome (plus r x k y) (Added x k y)
  plus_weight r x k y =
      then_some (within r (k *ℤ y.constant)) _ (Added x k y) (λ m hm.
      then_some (within r (x.constant +ℤ m)) _ (Added x k y) (λ n hn.
      map_some (put_all r x.entries k y.entries) (λ entries. record { constant = n; entries = entries }) (Added x k y) (λ entries he.
      let a : m ≡ k *ℤ y.constant = within_itself r _ m hm in
      let b : n ≡ x.constant +ℤ m = within_itself r _ n hn in
      let c : entries_weight entries ≡ entries_weight x.entries +ℤ (k *ℤ entries_weight y.entries) = said _ entries _ he (put_all_weight r x.entries k y.entries) in
      (omega (arith, ints, a, b), c))))

  abbrev AllAdded : Form → List Linear → Form → Type 0
  AllAdded x ls z = (z.constant ≡ x.constant +ℤ constants ls) × (entries_weight z.entries ≡ entries_weight x.entries +ℤ weights ls)

  once_more : (x y z : Form) (l : Linear) (ls : List Linear) → Added x (pos 1) (form_of_linear l) y → AllAdded y ls z → AllAdded x (l ∷ ls) z
  once_more x y z l ls a c =
      let o : pos 1 *ℤ l.constant ≡ l.constant = one_mul l.constant in
      let d : pos 1 *ℤ entries_weight (map entry_of_part l.parts) ≡ entries_weight (map entry_of_part l.parts) = one_mul (entries_weight (map entry_of_part l.parts)) in
      let e : entries_weight (map entry_of_part l.parts) ≡ number_of_parts g l.parts = entries_of_parts l.parts in
      (omega (arith, ints, a.0, c.0, o), omega (arith, ints, a.1, c.1, d, e))

  combined_weight : (x : Form) (ls : List Linear) → IfSome (combined_with x ls (once ls)) (AllAdded x ls)
  combined_weight x [] = (omega (arith, ints), omega (arith, ints))
  combined_weight x (l ∷ ls) =
      then_some (plus Machine x (pos 1) (form_of_linear l)) (λ y. combined_with y ls (once ls)) (AllAdded x (l ∷ ls)) (λ y h.
      let a : Added x (pos 1) (form_of_linear l) y = said (plus Machine x (pos 1) (form_of_linear l)) y (Added x (pos 1) (form_of_linear l)) h (plus_weight Machine x (pos 1) (form_of_linear l)) in
      weaker (combined_with y ls (once ls)) (AllAdded y ls) (AllAdded x (l ∷ ls)) (λ z c. once_more x y z l ls a c) (combined_weight y ls))

  -- the combination of facts, each once: its constant and its number_of_parts are the sums
  pub combination_weight : (ls : List Linear) (sum : Linear) → combination_of ls (once ls) ≡ Some sum → (sum.constant ≡ constants ls) × (number_of_parts g sum.parts ≡ weights ls)
  combination_weight ls sum h =
      let P : Linear → Type 0 = (λ s. (s.constant ≡ constants ls) × (number_of_parts g s.parts ≡ weights ls)) in
      said (combination_of ls (once ls)) sum P h
      (map_some (combined_with (number_form (pos 0)) ls (once ls)) linear_of P (λ z e.
      let c : AllAdded (number_form (pos 0)) ls z = said (combined_with (number_form (pos 0)) ls (once ls)) z (AllAdded (number_form (pos 0)) ls) e (combined_weight (number_form (pos 0)) ls) in
      let w : number_of_parts g (map part_of z.entries) ≡ entries_weight z.entries = parts_of_entries z.entries in
      (omega (arith, ints, c.0), omega (arith, ints, c.1, w))))

-- The number_of_parts that tells one unit from all others.
abbrev pub only : Term → Term → ℤ
only t u = if term_eq t u then pos 1 else pos 0

others : (t : Term) (ps : List Part) → All (λ q. t ≢ q.unit) ps → number_of_parts (only t) ps ≡ pos 0
others t [] h = refl
others t (p ∷ ps) h =
    let e : only t p.unit ≡ pos 0 = ap (λ b. if b then pos 1 else pos 0) (term_false t p.unit (h 0 p (omega arith))) in
    let a : p.factor *ℤ only t p.unit ≡ pos 0 = ap (λ x. p.factor *ℤ x) e ∙ *ℤ-zero p.factor in
    let b : number_of_parts (only t) ps ≡ pos 0 = others t ps (λ n d lt. h (suc n) d (omega arith)) in
    omega (arith, ints, a, b)

one_times : (x : ℤ) → x *ℤ pos 1 ≡ x
one_times x = *ℤ_comm x (pos 1) ∙ one_mul x

-- Parts of different units, none with factor 0, that weigh 0 whatever units weigh: there are none.
pub no_parts : (ps : List Part) → IsOrdered ps → ((g : Term → ℤ) → number_of_parts g ps ≡ pos 0) → ps ≡ []
no_parts [] o h = refl
no_parts (p ∷ ps) o h =
    let e : only p.unit p.unit ≡ pos 1 = ap (λ b. if b then pos 1 else pos 0) (term_true p.unit p.unit refl) in
    let a : p.factor *ℤ only p.unit p.unit ≡ p.factor = ap (λ x. p.factor *ℤ x) e ∙ one_times p.factor in
    let r : number_of_parts (only p.unit) ps ≡ pos 0 = others p.unit ps (λ n d lt. o.once 0 (suc n) d (omega arith) (omega arith)) in
    let w : (p.factor *ℤ only p.unit p.unit) +ℤ number_of_parts (only p.unit) ps ≡ pos 0 = h (only p.unit) in
    let z : p.factor ≡ pos 0 = omega (arith, ints, a, r, w) in
    absurd (o.no_zero 0 p (omega arith) z)
