-- A valuation is in order, as computed, exactly where it is by the clauses.
use Rattle.std.proofs.Common.{◌≡◌, ◌⊎◌, inl, inr, ◌↔◌, Bool, true, false, List, [], ◌∷◌, ◌++◌, Option, None, Some, refl, sym, ◌∙◌, ap, subst, if◌then◌else◌, ◌&&◌}
use Rattle.std.specs.Prelude.{Contains, IsTrue}
use Rattle.std.specs.List.{list_all}
use Rattle.std.proofs.lemmas.Bool.{false≢true}
use Rattle.std.proofs.lemmas.List.Elements.{Contains-append_left, Contains-append_right, Contains-append_cases}
use Rattle.ac_logic.specs.declared.formula.Formula.{Formula}
use Rattle.ac_logic.specs.declared.formula.Term.{Term}
use Rattle.ac_logic.specs.Patterns.{Difference}
use Rattle.ac_linear.specs.declared.linear.Linear.{Linear}
use Rattle.ac_linear.specs.declared.linear.Part.{Part}
use Rattle.ac_linear.specs.NormalForm.{normal_of}
use Rattle.ac_ground.specs.declared.cell.Cell.{Cell}
use Rattle.ac_ground.specs.declared.pair.Pair.{Pair}
use Rattle.ac_ground.specs.declared.sum.NumberedSum.{NumberedSum}
use Rattle.ac_ground.specs.declared.valuation.Valuation.{Valuation}
use Rattle.ac_ground.specs.Compared.{IsCompared, IsSide, IsSum, is_sum, pair}
use Rattle.ac_ground.specs.Falsifies.{AgreeInParts, AgreeOn, FalsifiesGround, IsReadOfPut}
use Rattle.ac_ground.specs.Numbers.{first_side, second_side}
use Rattle.ac_ground.specs.Reads.{reads}
use Rattle.ac_ground.specs.Sums.{all_sums_pass, distinct_reads, is_in_order, puts_pass, reads_pass, sum_of_side, sum_pairs, sums_between, sums_of, sums_of_difference, sums_of_form, sums_pass}
use Rattle.ac_ground.specs.Table.{agrees, is_read_of_put}
use Rattle.ac_ground.specs.Truth.{truth}
use Rattle.ac_ground.specs.Opened.{hidden, term_shape, term_child, array_shape, array_child}
use Rattle.ac_ground.proofs.Agreement.{agree, agree_back, numbered_sum, put, put_back, sums, sums_back}
use Rattle.ac_ground.proofs.Members.{gone_through, is_compared, once_read, read_once}
use Rattle.ac_ground.proofs.Once.{both, first_or_rest, further, in_front, left, none_in_nil, pass_from, right, to_pass}
use Rattle.ac_ground.proofs.Sides.{no_sum}

-- ---- reads and `put`s

all_agree : (v : Valuation) (g : Formula) → reads_pass v (distinct_reads g) ≡ true → (c d : Cell) → Contains (reads g) c → Contains (reads g) d → AgreeOn v c d
all_agree v g h c d p q =
    agree v c d (pass_from (agrees v c) (distinct_reads g) d (pass_from (λ c. list_all (agrees v c) (distinct_reads g)) (distinct_reads g) c h (read_once g c p)) (read_once g d q))

all_agree_back : (v : Valuation) (g : Formula) → ((c d : Cell) → Contains (reads g) c → Contains (reads g) d → AgreeOn v c d) → reads_pass v (distinct_reads g) ≡ true
all_agree_back v g f =
    to_pass (λ c. list_all (agrees v c) (distinct_reads g)) (distinct_reads g) (λ c p. to_pass (agrees v c) (distinct_reads g) (λ d q. agree_back v c d (f c d (once_read g c p) (once_read g d q))))

all_puts : (v : Valuation) (g : Formula) → puts_pass v (distinct_reads g) ≡ true → (c : Cell) → Contains (reads g) c → IsReadOfPut v c.array c.first c.second
all_puts v g h c p = put v c.array c.first c.second (pass_from (λ c. is_read_of_put v c.array c.first c.second) (distinct_reads g) c h (read_once g c p))

all_puts_back : (v : Valuation) (g : Formula) → ((c : Cell) → Contains (reads g) c → IsReadOfPut v c.array c.first c.second) → puts_pass v (distinct_reads g) ≡ true
all_puts_back v g f = to_pass (λ c. is_read_of_put v c.array c.first c.second) (distinct_reads g) (λ c p. put_back v c.array c.first c.second (f c (once_read g c p)))

-- ---- sums

side_sum : (v : Valuation) (ps : List Part) → is_sum ps ≡ true → Contains (sum_of_side v ps) (numbered_sum v ps)
side_sum v ps h = rw h (in_front (numbered_sum v ps) [])

form_sum : (v : Valuation) (l : Linear) (ps : List Part) → (ps ≡ first_side l) ⊎ (ps ≡ second_side l) → is_sum ps ≡ true → Contains (sums_of_form v l) (numbered_sum v ps)
form_sum v l ps (inl e) h = Contains-append_left (sum_of_side v (first_side l)) (sum_of_side v (second_side l)) (numbered_sum v ps) (subst (λ qs. Contains (sum_of_side v qs) (numbered_sum v ps)) e (side_sum v ps h))
form_sum v l ps (inr e) h = Contains-append_right (sum_of_side v (first_side l)) (sum_of_side v (second_side l)) (numbered_sum v ps) (subst (λ qs. Contains (sum_of_side v qs) (numbered_sum v ps)) e (side_sum v ps h))

pair_sum : (v : Valuation) (p : Pair) (l : Linear) (ps : List Part) → normal_of (Difference p.left p.right) ≡ Some l → (ps ≡ first_side l) ⊎ (ps ≡ second_side l) → is_sum ps ≡ true → Contains (sums_between v p) (numbered_sum v ps)
unfolding sums_between hidden term_shape term_child array_shape array_child
pair_sum v p l ps n s h = subst (λ o. Contains (sums_of_difference v o) (numbered_sum v ps)) (sym n) (form_sum v l ps s h)

in_sums : (v : Valuation) (pairs : List Pair) (p : Pair) (a : NumberedSum) → Contains pairs p → Contains (sums_between v p) a → Contains (sums_of v pairs) a
in_sums v [] p a h k = none_in_nil p h
in_sums v (q ∷ pairs) p a h k = elim (first_or_rest q pairs p h) [
  | inl e ↦ Contains-append_left (sums_between v q) (sums_of v pairs) a (subst (λ r. Contains (sums_between v r) a) (sym e) k)
  | inr r ↦ Contains-append_right (sums_between v q) (sums_of v pairs) a (in_sums v pairs p a r k)
]

-- the side that a sum is
record IsSumOf (v : Valuation) (p : Pair) (a : NumberedSum) : Type 0 where
  form : Linear
  side : List Part
  normal : normal_of (Difference p.left p.right) ≡ Some form
  among : (side ≡ first_side form) ⊎ (side ≡ second_side form)
  sum : is_sum side ≡ true
  is : numbered_sum v side ≡ a

from_side : (v : Valuation) (ps : List Part) (a : NumberedSum) → Contains (sum_of_side v ps) a → (is_sum ps ≡ true) × (numbered_sum v ps ≡ a)
from_side v ps a h =
    elim (is_sum ps) as (λ b. is_sum ps ≡ b → Contains (if b then numbered_sum v ps ∷ [] else []) a → (is_sum ps ≡ true) × (numbered_sum v ps ≡ a)) [
      | true ↦ λ e k. elim (first_or_rest (numbered_sum v ps) [] a k) [ inl q ↦ (e, q) | inr n ↦ none_in_nil a n ]
      | false ↦ λ e k. none_in_nil a k
    ] refl h

from_option : (v : Valuation) (p : Pair) (o : Option Linear) (a : NumberedSum) → normal_of (Difference p.left p.right) ≡ o → Contains (sums_of_difference v o) a → IsSumOf v p a
from_option v p None a n h = none_in_nil a h
from_option v p (Some l) a n h = elim (Contains-append_cases (sum_of_side v (first_side l)) (sum_of_side v (second_side l)) a h) [
  | inl k ↦ (let s = from_side v (first_side l) a k in record { form = l; side = first_side l; normal = n; among = inl refl; sum = s.0; is = s.1 })
  | inr k ↦ (let s = from_side v (second_side l) a k in record { form = l; side = second_side l; normal = n; among = inr refl; sum = s.0; is = s.1 })
]

from_pair : (v : Valuation) (p : Pair) (a : NumberedSum) → Contains (sums_between v p) a → IsSumOf v p a
unfolding sums_between hidden term_shape term_child array_shape array_child
from_pair v p a h = from_option v p (normal_of (Difference p.left p.right)) a refl h

from_sums : (v : Valuation) (pairs : List Pair) (a : NumberedSum) → Contains (sums_of v pairs) a → (p : Pair) × Contains pairs p × IsSumOf v p a
from_sums v [] a h = none_in_nil a h
from_sums v (p ∷ pairs) a h = elim (Contains-append_cases (sums_between v p) (sums_of v pairs) a h) [
  | inl k ↦ (p, in_front p pairs, from_pair v p a k)
  | inr k ↦ (let m = from_sums v pairs a k in (m.0, further p pairs m.0 m.1, m.2))
]

none_of : (ps : List Part) (l : Linear) → (is_sum (first_side l) ≡ false) × (is_sum (second_side l) ≡ false) → (ps ≡ first_side l) ⊎ (ps ≡ second_side l) → is_sum ps ≡ true → ⊥
none_of ps l n (inl e) h = false≢true (sym n.0 ∙ (ap is_sum (sym e) ∙ h))
none_of ps l n (inr e) h = false≢true (sym n.1 ∙ (ap is_sum (sym e) ∙ h))

reads_form : (s t u w : Term) (l : Linear) → s ≡ u → t ≡ w → normal_of (Difference s t) ≡ Some l → normal_of (Difference u w) ≡ Some l
unfolding hidden term_shape term_child array_shape array_child
reads_form s t u w l p q n = (λ z. normal_of (Difference (sym p z) (sym q z))) ∙ n

-- each sum is gone through
goes_through : (v : Valuation) (g : Formula) (ps : List Part) → IsSum g ps → Contains (sums_of v (sum_pairs g)) (numbered_sum v ps)
unfolding hidden term_shape term_child array_shape array_child
goes_through v g ps s = elim (gone_through g s.0.left s.0.right s.0.compared) [
  | inl k ↦ in_sums v (sum_pairs g) (pair s.0.left s.0.right) (numbered_sum v ps) k (pair_sum v (pair s.0.left s.0.right) s.0.form ps s.0.is_normal s.0.is_side s.1)
  | inr r ↦ (let n = no_sum r.0 r.1 s.0.form (reads_form _ _ _ _ s.0.form r.4 r.5 s.0.is_normal) in absurd (none_of ps s.0.form n s.0.is_side s.1))
]

all_sums : (v : Valuation) (g : Formula) → all_sums_pass (sums_of v (sum_pairs g)) ≡ true → (ps qs : List Part) → IsSum g ps → IsSum g qs → AgreeInParts v ps qs
all_sums v g h ps qs p q =
    let xs = sums_of v (sum_pairs g) in
    sums v ps qs (pass_from (sums_pass (numbered_sum v ps)) xs (numbered_sum v qs) (pass_from (λ a. list_all (sums_pass a) xs) xs (numbered_sum v ps) h (goes_through v g ps p)) (goes_through v g qs q))

is_side : (v : Valuation) (g : Formula) (a : NumberedSum) → Contains (sums_of v (sum_pairs g)) a → (ps : List Part) × IsSum g ps × (numbered_sum v ps ≡ a)
is_side v g a h =
    let m = from_sums v (sum_pairs g) a h in
    let s = m.2 in
    (s.side, (record { left = m.0.left; right = m.0.right; form = s.form; compared = is_compared g m.0 m.1; is_normal = s.normal; is_side = s.among }, s.sum), s.is)

all_sums_back : (v : Valuation) (g : Formula) → ((ps qs : List Part) → IsSum g ps → IsSum g qs → AgreeInParts v ps qs) → all_sums_pass (sums_of v (sum_pairs g)) ≡ true
all_sums_back v g f =
    let xs = sums_of v (sum_pairs g) in
    to_pass (λ a. list_all (sums_pass a) xs) xs (λ a p. to_pass (sums_pass a) xs (λ b q.
    let m = is_side v g a p in let n = is_side v g b q in
    rw (sym m.2) (rw (sym n.2) (sums_back v m.0 n.0 (f m.0 n.0 m.1 n.1)))))

-- ---- all clauses

pub falsified : (v : Valuation) (g : Formula) (r : Bool) → truth v g ≡ false → r ≡ is_in_order v g → IsTrue r ↔ FalsifiesGround v g
unfolding is_in_order
falsified v g r t h = (
  λ e. (let o : is_in_order v g ≡ true = sym h ∙ e in
      record {
        is_false = t;
        reads_agree = all_agree v g (left _ _ (left _ _ o));
        puts_agree = all_puts v g (right _ _ (left _ _ o));
        sums_agree = all_sums v g (right _ _ o);
      }),
  λ f. h ∙ both _ _ (both _ _ (all_agree_back v g f.reads_agree) (all_puts_back v g f.puts_agree)) (all_sums_back v g f.sums_agree),
)

pub not_false : (v : Valuation) (g : Formula) (r t : Bool) → t ≡ truth v g → t ≡ true → r ≡ false → IsTrue r ↔ FalsifiesGround v g
not_false v g r t h k e = (λ i. absurd (false≢true (sym e ∙ i)), λ f. absurd (false≢true (sym f.is_false ∙ (sym h ∙ k))))
