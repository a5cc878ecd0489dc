-- Some compared pair is too wide exactly where one that is gone through is, or a read.
use Rattle.std.proofs.Common.{◌≡◌, ◌⊎◌, inl, inr, ◌↔◌, Bool, true, false, not, List, [], ◌∷◌, ℤ, pos, negsuc, ◌+ℤ◌, Option, None, Some, option_map, refl, sym, ◌∙◌, ap, subst, ◌||◌}
use Rattle.std.specs.Prelude.{Contains, IfSome, IsTrue}
use Rattle.std.specs.List.{list_any}
use Rattle.std.specs.Option.{is_some}
use Rattle.std.proofs.lemmas.Bool.{false≢true}
use Rattle.ac_logic.specs.declared.formula.Formula.{Formula}
use Rattle.ac_logic.specs.declared.formula.Term.{Term, Num}
use Rattle.ac_logic.specs.Patterns.{ReadOf, Sum, Difference}
use Rattle.ac_linear.specs.declared.entry.Entry.{Entry}
use Rattle.ac_linear.specs.declared.entry.Form.{Form}
use Rattle.ac_linear.specs.declared.linear.Linear.{Linear}
use Rattle.ac_linear.specs.declared.place.Side.TheVariants as on_side
use Rattle.ac_linear.specs.declared.range.Range.TheVariants.{Coefficient}
use Rattle.ac_linear.specs.NormalForm.{and_then, by_side, entry_of, form_of, linear_of, normal_of, plus, put_in, side, unit_form, with_factor, within}
use Rattle.ac_linear.proofs.Values.{said}
use Rattle.ac_ground.specs.declared.cell.Cell.{Cell}
use Rattle.ac_ground.specs.declared.pair.Pair.{Pair}
use Rattle.ac_ground.specs.Boxes.{next}
use Rattle.ac_ground.specs.Compared.{IsCompared, pair, two_reads}
use Rattle.ac_ground.specs.Reads.{read, reads}
use Rattle.ac_ground.specs.Sums.{distinct_reads, has_wide_pair, sum_pairs}
use Rattle.ac_ground.specs.Wide.{is_wide, is_wide_pair, IsWide}
use Rattle.ac_ground.specs.Opened.{hidden, term_shape, term_child, array_shape, array_child}
use Rattle.ac_ground.proofs.Members.{gone_through, is_compared, once_read, read_once}
use Rattle.ac_ground.proofs.Once.{first_or_rest, further, in_front, none_in_nil}
use Rattle.ac_ground.proofs.Sides.{IsUnitForm, read_unit}

-- ---- tests that some element passes

behind : (b c : Bool) → c ≡ true → (b || c) ≡ true
behind true c h = refl
behind false c h = h

either : (b c : Bool) → (b || c) ≡ true → (b ≡ true) ⊎ (c ≡ true)
either true c h = inl refl
either false c h = inr h

front : (b c : Bool) → b ≡ true → (b || c) ≡ true
front b c h = ap (λ x. x || c) h

any_in : {X : Type 0} (p : X → Bool) (xs : List X) (x : X) → Contains xs x → p x ≡ true → list_any p xs ≡ true
any_in p [] x h e = none_in_nil x h
any_in p (y ∷ xs) x h e = elim (first_or_rest y xs x h) [
  | inl q ↦ ap (λ b. b || list_any p xs) (ap p q ∙ e)
  | inr r ↦ behind (p y) (list_any p xs) (any_in p xs x r e)
]

any_from : {X : Type 0} (p : X → Bool) (xs : List X) → list_any p xs ≡ true → (x : X) × Contains xs x × (p x ≡ true)
any_from p [] h = absurd (false≢true h)
any_from p (y ∷ xs) h = elim (p y) as (λ b. p y ≡ b → (b || list_any p xs) ≡ true → (x : _) × Contains (y ∷ xs) x × (p x ≡ true)) [
  | true ↦ λ e k. (y, in_front y xs, e)
  | false ↦ λ e k. (let m = any_from p xs k in (m.0, further y xs m.0 m.1, m.2))
] refl h

-- ---- two reads

abbrev the_form : ℤ → List Entry → Form
the_form n es = record { constant = n; entries = es }

wide_form : (t : Term) → is_wide t ≡ not (is_some (form_of t))
wide_form t = elim (form_of t) as (λ o. not (is_some (option_map linear_of o)) ≡ not (is_some o)) [ None ↦ refl | Some x ↦ refl ]

-- units of any two reads, once or with 1 more, one taken from the other
apart : (u w : Term) → is_some (plus Coefficient (unit_form u) (negsuc 0) (unit_form w)) ≡ true
apart u w =
    elim (side (record (entry_of w (pos 1)) { factor = negsuc 0 }) (entry_of u (pos 1))) as (λ s. is_some (option_map (λ (es : List Entry). the_form (pos 0) es) (and_then (by_side s (Some (record (entry_of w (pos 1)) { factor = negsuc 0 } ∷ entry_of u (pos 1) ∷ [])) (option_map (with_factor (entry_of u (pos 1)) []) (within Coefficient (pos 1 +ℤ negsuc 0))) (option_map (λ rest. entry_of u (pos 1) ∷ rest) (put_in Coefficient (record (entry_of w (pos 1)) { factor = negsuc 0 }) []))) (λ more. Some more))) ≡ true) [
      | on_side.Before ↦ refl
      | on_side.Same ↦ refl
      | on_side.Behind ↦ refl
    ]

next_apart : (u w : Term) → is_some (plus Coefficient (record (unit_form u) { constant = pos 1 }) (negsuc 0) (unit_form w)) ≡ true
next_apart u w =
    elim (side (record (entry_of w (pos 1)) { factor = negsuc 0 }) (entry_of u (pos 1))) as (λ s. is_some (option_map (λ (es : List Entry). the_form (pos 1) es) (and_then (by_side s (Some (record (entry_of w (pos 1)) { factor = negsuc 0 } ∷ entry_of u (pos 1) ∷ [])) (option_map (with_factor (entry_of u (pos 1)) []) (within Coefficient (pos 1 +ℤ negsuc 0))) (option_map (λ rest. entry_of u (pos 1) ∷ rest) (put_in Coefficient (record (entry_of w (pos 1)) { factor = negsuc 0 }) []))) (λ more. Some more))) ≡ true) [
      | on_side.Before ↦ refl
      | on_side.Same ↦ refl
      | on_side.Behind ↦ refl
    ]

-- the form of a read is there, and is once a unit
abbrev Unit_at : Term → Type 0
Unit_at t = (u : Term) × (form_of t ≡ Some (unit_form u))

unit_at : (c : Cell) → is_wide (read c) ≡ false → Unit_at (read c)
unit_at c h =
    elim (form_of (read c)) as (λ o. form_of (read c) ≡ o → not (is_some (option_map linear_of o)) ≡ false → Unit_at (read c)) [
      | None ↦ λ e k. absurd (false≢true (sym k))
      | Some x ↦ λ e k. (let m : IsUnitForm x = said (form_of (read c)) x IsUnitForm e (read_unit c) in (m.0, e ∙ ap Some (sym m.1)))
    ] refl h

narrow : (s t u w : Term) → form_of s ≡ Some (unit_form u) → form_of t ≡ Some (unit_form w) → is_wide (Difference s t) ≡ false
unfolding hidden term_shape term_child array_shape array_child
narrow s t u w p q =
    let e : form_of (Difference s t) ≡ plus Coefficient (unit_form u) (negsuc 0) (unit_form w) = λ z. and_then (p z) (λ x. and_then (q z) (λ y. plus Coefficient x (negsuc 0) y)) in
    wide_form (Difference s t) ∙ ap (λ o. not (is_some o)) e ∙ ap not (apart u w)

narrow_next : (s t u w : Term) → form_of s ≡ Some (unit_form u) → form_of t ≡ Some (unit_form w) → is_wide (Difference (next s) t) ≡ false
unfolding hidden term_shape term_child array_shape array_child
narrow_next s t u w p q =
    let e : form_of (Difference (next s) t) ≡ plus Coefficient (record (unit_form u) { constant = pos 1 }) (negsuc 0) (unit_form w) = λ z. and_then (and_then (p z) (λ x. plus Coefficient x (pos 1) (record { constant = pos 1; entries = [] }))) (λ x. and_then (q z) (λ y. plus Coefficient x (negsuc 0) y)) in
    wide_form (Difference (next s) t) ∙ ap (λ o. not (is_some o)) e ∙ ap not (next_apart u w)

none_wide : (s t u w : Term) → form_of s ≡ Some (unit_form u) → form_of t ≡ Some (unit_form w) → is_wide_pair s t ≡ false
unfolding hidden term_shape term_child array_shape array_child
none_wide s t u w p q = λ z. narrow s t u w p q z || narrow t s w u q p z || narrow_next s t u w p q z || narrow_next t s w u q p z

-- a read that is too wide makes its pair with itself too wide
wide_difference : (t : Term) → is_wide t ≡ true → is_wide (Difference t t) ≡ true
unfolding hidden term_shape term_child array_shape array_child
wide_difference t h =
    elim (form_of t) as (λ o. form_of t ≡ o → not (is_some (option_map linear_of o)) ≡ true → is_wide (Difference t t) ≡ true) [
      | None ↦ λ e k. wide_form (Difference t t) ∙ ap (λ o. not (is_some (and_then o (λ x. and_then (form_of t) (λ y. plus Coefficient x (negsuc 0) y))))) e
      | Some x ↦ λ e k. absurd (false≢true k)
    ] refl h

read_wide : (g : Formula) (c : Cell) → Contains (reads g) c → is_wide (read c) ≡ true → IsWide g
unfolding hidden term_shape term_child array_shape array_child
read_wide g c r h = record {
  left = read c;
  right = read c;
  compared = two_reads c c r r refl refl refl;
  wide = front _ _ (front _ _ (front _ _ (wide_difference (read c) h)));
}

-- ---- all of them

found_wide : (g : Formula) → has_wide_pair g ≡ true → IsWide g
unfolding has_wide_pair
found_wide g h = elim (either (list_any (λ c. is_wide (read c)) (distinct_reads g)) _ h) [
  | inl a ↦ (let m = any_from (λ c. is_wide (read c)) (distinct_reads g) a in read_wide g m.0 (once_read g m.0 m.1) m.2)
  | inr b ↦ (let m = any_from (λ p. is_wide_pair p.left p.right) (sum_pairs g) b in record { left = m.0.left; right = m.0.right; compared = is_compared g m.0 m.1; wide = m.2 })
]

reads_wide : (g : Formula) (c d : Cell) → Contains (reads g) c → Contains (reads g) d → is_wide_pair (read c) (read d) ≡ true → list_any (λ c. is_wide (read c)) (distinct_reads g) ≡ true
reads_wide g c d p q h =
    elim (is_wide (read c)) as (λ b. is_wide (read c) ≡ b → list_any (λ c. is_wide (read c)) (distinct_reads g) ≡ true) [
      | true ↦ λ e. any_in (λ c. is_wide (read c)) (distinct_reads g) c (read_once g c p) e
      | false ↦ λ e. elim (is_wide (read d)) as (λ b. is_wide (read d) ≡ b → list_any (λ c. is_wide (read c)) (distinct_reads g) ≡ true) [
        | true ↦ λ f. any_in (λ c. is_wide (read c)) (distinct_reads g) d (read_once g d q) f
        | false ↦ λ f. (let u = unit_at c e in let w = unit_at d f in absurd (false≢true (sym (none_wide (read c) (read d) u.0 w.0 u.1 w.1) ∙ h)))
      ] refl
    ] refl

wide_found : (g : Formula) → IsWide g → has_wide_pair g ≡ true
unfolding has_wide_pair
wide_found g w = elim (gone_through g w.left w.right w.compared) [
  | inl k ↦ behind (list_any (λ c. is_wide (read c)) (distinct_reads g)) _ (any_in (λ p. is_wide_pair p.left p.right) (sum_pairs g) (pair w.left w.right) k w.wide)
  | inr r ↦ front _ _ (reads_wide g r.0 r.1 r.2 r.3 ((λ z. is_wide_pair (sym r.4 z) (sym r.5 z)) ∙ w.wide))
]

pub decided : (g : Formula) (b : Bool) → b ≡ has_wide_pair g → IsTrue b ↔ IsWide g
decided g b h = (λ e. found_wide g (sym h ∙ e), λ w. h ∙ wide_found g w)
