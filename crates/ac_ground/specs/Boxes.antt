-- Box combinations of the facts of a valuation: a fact or the sum of two, whose parts are bounded one by one.
use Rattle.std.specs.Prelude.{◌≡◌, ◌⊎◌, ℕ, ◌+◌, ◌^◌, ◌<◌, ◌≤◌, ℤ, pos, negsuc, ◌+ℤ◌, ◌*ℤ◌, ◌<ℤ◌, ◌≤ℤ◌, List, [], ◌∷◌, ◌++◌, if◌then◌else◌, Some, Contains, slice_get, unsigned_abs}
use Rattle.std.specs.List.{sum_by}
use Rattle.ac_logic.specs.declared.formula.Term.{Term, Num}
use Rattle.ac_logic.specs.declared.formula.Formula.{Formula, True, False, Le, Eq}
use Rattle.ac_logic.specs.Patterns.{Sum, Difference, Negation, Conjunction, Disjunction, Implication, Every, Labelled}
use Rattle.ac_linear.specs.declared.linear.Linear.{Linear}
use Rattle.ac_linear.specs.declared.linear.Part.{Part}
use Rattle.ac_linear.specs.NormalForm.{and_then, normal_of}
use Rattle.ac_linear.specs.Combination.{combination_of}
use Rattle.ac_ground.specs.declared.valuation.Valuation.{Valuation}
use Rattle.ac_ground.specs.Numbers.{at_most, equal}
use Rattle.ac_ground.specs.Opened.{hidden, formula_shape, formula_child, term_shape, term_child, array_shape, array_child}

abbrev pub next : Term → Term
unfolding hidden term_shape term_child array_shape array_child
next t = Sum t (Num (pos 1))

-- Terms that are at most 0 where the valuation is right on a comparison.
abbrev pub facts_of_le : Valuation → Term → Term → List Term
unfolding hidden term_shape term_child array_shape array_child
facts_of_le v s t = if at_most v s t then Difference s t ∷ [] else Difference (next t) s ∷ []

abbrev pub facts_of_eq : Valuation → Term → Term → List Term
unfolding hidden term_shape term_child array_shape array_child
facts_of_eq v s t = if equal v s t then Difference s t ∷ Difference t s ∷ [] else (if at_most v s t then Difference (next s) t ∷ [] else Difference (next t) s ∷ [])

-- the facts of the comparisons of a ground form
abbrev pub fact_terms : Valuation → Formula → List Term
unfolding hidden formula_shape formula_child
fact_terms v True = []
fact_terms v False = []
fact_terms v (Le s t) = facts_of_le v s t
fact_terms v (Eq s t) = facts_of_eq v s t
fact_terms v (Negation f) = fact_terms v f
fact_terms v (Conjunction f g) = fact_terms v f ++ fact_terms v g
fact_terms v (Disjunction f g) = fact_terms v f ++ fact_terms v g
fact_terms v (Implication f g) = fact_terms v f ++ fact_terms v g
fact_terms v (Every f) = []
fact_terms v (Labelled l f) = fact_terms v f

-- terms and their normal forms, one for each
pub data AreForms : List Term → List Linear → Type 0 where
  none : AreForms [] []
  more : (t : Term) (l : Linear) (ts : List Term) (ls : List Linear) → normal_of t ≡ Some l → AreForms ts ls → AreForms (t ∷ ts) (l ∷ ls)

-- the sum of the magnitudes of all factors
abbrev pub weight : Linear → ℕ
weight l = sum_by (λ p. unsigned_abs p.factor) l.parts

-- The base of a combination: one fact, or the sum of two at different places of the list. The magnitudes of all factors of
-- the one or two facts sum to at most 2^62.
pub data IsBase (ls : List Linear) (base : Linear) : Type 0 where
  one : Contains ls base → weight base ≤ 2 ^ 62 → IsBase ls base
  two : (i j : ℕ) (l m : Linear) → i < j → slice_get ls i ≡ Some l → slice_get ls j ≡ Some m → weight l + weight m ≤ 2 ^ 62 → combination_of (l ∷ m ∷ []) (1 ∷ 1 ∷ []) ≡ Some base → IsBase ls base

-- a fact of that unit alone, with a factor 1 or -1 of the other sign
abbrev pub IsAgainst : Part → Linear → Type 0
IsAgainst p l = ((pos 0 <ℤ p.factor) × (l.parts ≡ record p { factor = negsuc 0 } ∷ [])) ⊎ ((p.factor <ℤ pos 0) × (l.parts ≡ record p { factor = pos 1 } ∷ []))

-- The parts of a base, each against a fact that is taken as often as the magnitude of its factor: the sum of the constants.
pub data AreAgainst (ls : List Linear) : List Part → ℤ → Type 0 where
  none : AreAgainst ls [] (pos 0)
  more : (p : Part) (ps : List Part) (l : Linear) (n : ℤ) → Contains ls l → IsAgainst p l → AreAgainst ls ps n → AreAgainst ls (p ∷ ps) ((pos (unsigned_abs p.factor) *ℤ l.constant) +ℤ n)

-- No box combination contradicts: none has a constant above 0, where all parts cancel.
abbrev pub NoneContradicts : List Linear → Type 0
NoneContradicts ls = (base : Linear) (n : ℤ) → IsBase ls base → AreAgainst ls base.parts n → (base.constant +ℤ n) ≤ℤ pos 0

-- the clause on the facts of a valuation
abbrev pub NoBoxContradicts : Valuation → Formula → Type 0
NoBoxContradicts v g = (ls : List Linear) → AreForms (fact_terms v g) ls → NoneContradicts ls
