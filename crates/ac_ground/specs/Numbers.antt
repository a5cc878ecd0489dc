-- The numbers that a valuation gives: to units, to the sides of a compared pair, to a difference.
use Rattle.std.specs.Prelude.{ℤ, pos, ◌+ℤ◌, ◌-ℤ◌, neg_ℤ, int_lt, List, [], ◌∷◌, map, fold, Bool, false, not, if◌then◌else◌, Option, None, Some, option_map}
use Rattle.std.specs.List.{filter}
use Rattle.std.specs.Ordering.{int_eq}
use Rattle.ac_logic.specs.declared.formula.Term.{Term, Num}
use Rattle.ac_logic.specs.Patterns.{Sum, Difference, Product}
use Rattle.ac_linear.specs.declared.linear.Linear.{Linear}
use Rattle.ac_linear.specs.declared.linear.Part.{Part}
use Rattle.ac_linear.specs.NormalForm.{normal_of}
use Rattle.ac_linear.specs.TermEquality.{term_eq}
use Rattle.ac_ground.specs.declared.valuation.Entry.{Entry}
use Rattle.ac_ground.specs.declared.valuation.Valuation.{Valuation}
use Rattle.ac_ground.specs.Opened.{hidden, term_shape, term_child, array_shape, array_child}

-- the number of a unit: that of its entry, and 0 where it has none
abbrev pub number_among : List Entry → Term → ℤ
number_among [] t = pos 0
number_among (x ∷ xs) t = if term_eq x.unit t then x.value else number_among xs t

abbrev pub number : Valuation → Term → ℤ
number v t = number_among v.entries t

-- The sides of a normal form: the parts with a positive factor, and those with a negative one, which counts as positive there.
abbrev pub is_positive : Part → Bool
is_positive p = int_lt (pos 0) p.factor

abbrev pub negated : Part → Part
negated p = record p { factor = neg_ℤ p.factor }

abbrev pub first_side : Linear → List Part
first_side l = filter is_positive l.parts

abbrev pub second_side : Linear → List Part
second_side l = map negated (filter (λ p. not (is_positive p)) l.parts)

-- a part as a term, and parts as a term in their order
abbrev pub multiple : Part → Term
unfolding hidden term_shape term_child array_shape array_child
multiple p = if int_eq p.factor (pos 1) then p.unit else Product (Num p.factor) p.unit

abbrev pub added : Term → List Part → Term
unfolding hidden term_shape term_child array_shape array_child
added t ps = fold (λ s p. Sum s (multiple p)) t ps

-- The unit that a side is: none where it has no part, its one part where that has the factor 1, else the sum of its parts,
-- which is a unit of its own.
abbrev pub term_of_side : List Part → Option Term
term_of_side [] = None
term_of_side (p ∷ ps) = Some (added (multiple p) ps)

abbrev pub number_or_zero : Valuation → Option Term → ℤ
number_or_zero v None = pos 0
number_or_zero v (Some t) = number v t

abbrev pub number_of_side : Valuation → List Part → ℤ
number_of_side v ps = number_or_zero v (term_of_side ps)

-- the constant plus the first side minus the second
abbrev pub number_of_form : Valuation → Linear → ℤ
number_of_form v l = (l.constant +ℤ number_of_side v (first_side l)) -ℤ number_of_side v (second_side l)

-- The number of the difference of two terms; none where its normal form is too wide.
unfoldable pub gap : Valuation → Term → Term → Option ℤ
unfolding hidden term_shape term_child array_shape array_child
gap v s t = option_map (number_of_form v) (normal_of (Difference s t))

abbrev pub passes : (ℤ → Bool) → Option ℤ → Bool
passes test None = false
passes test (Some n) = test n

-- Whether the valuation makes `s <= t` true, and `s = t`. Neither is true where the difference is too wide.
abbrev pub at_most : Valuation → Term → Term → Bool
at_most v s t = passes (λ n. not (int_lt (pos 0) n)) (gap v s t)

abbrev pub equal : Valuation → Term → Term → Bool
equal v s t = passes (λ n. int_eq n (pos 0)) (gap v s t)
