-- A formula that is too large stays too large, whatever is made of it.
use Rattle.std.proofs.Common.{◌≡◌, ℕ, ◌+◌, ◌-◌, ◌^◌, ◌<◌, ◌≤◌, min, List, refl, sym, ◌∙◌, ap, subst, arith}
use Rattle.ac_logic.specs.declared.formula.ArrayTerm.{ArrayTerm}
use Rattle.ac_logic.specs.declared.formula.Change.{Change}
use Rattle.ac_logic.specs.declared.formula.Formula.{Formula}
use Rattle.ac_logic.specs.declared.formula.Sym.{Sym}
use Rattle.ac_logic.specs.declared.formula.Term.{Term, Num, Bound}
use Rattle.ac_logic.specs.declared.label.Label.{Label}
use Rattle.ac_logic.specs.Patterns.{Scalar, Array, ReadOf, Sum, Difference, Product, Negative, PutOf, Conjunction, Implication, Labelled}
use Rattle.ac_logic.specs.Size.{saturated, size_of}
use Rattle.ac_logic.specs.Substitution.{scalar_after, array_symbol_after, formula_after}
use Rattle.ac_conditions.proofs.WeightsHold.{size_is, size_after, size_grows}
use Rattle.ac_conditions.specs.Weights.{Weights, ones, term_weight, array_weight, weight, after}
use Rattle.ac_profile.specs.declared.measure.Measure.{Measure}
use Rattle.ac_profile.specs.declared.measure.Measure.TheVariants.{TooLarge, Known}
use Rattle.ac_profile.specs.declared.profile.Profile.{Profile}
use Rattle.ac_profile.specs.Measure.{IsMeasure}
use Rattle.ac_profile.specs.Opened.{hidden, formula_shape, formula_child, term_shape, term_child, array_shape, array_child}
use Rattle.ac_profile.specs.Profile.{IsProfile}

above_told : (m l s z : ℕ) → s ≡ min z m → l < s → l < z
above_told m l s z e h = omega (arith, e, h)

pub above_limit : (f : Formula) (s l : ℕ) → s ≡ saturated (size_of f) → l ≡ 200000 → l < s → IsMeasure TooLarge f
above_limit f s l e k h = above_told (2 ^ 64 - 1) 200000 s (size_of f) e (subst (λ n. n < s) k h)

-- no change makes a formula smaller

one_or_more : (t : Term) → 1 ≤ term_weight ◌+◌ ones t
unfolding hidden term_shape term_child array_shape array_child
one_or_more (Num n) = omega arith
one_or_more (Scalar s) = omega arith
one_or_more (Bound k) = omega arith
one_or_more (ReadOf a i j) = omega arith
one_or_more (Sum s t) = omega arith
one_or_more (Difference s t) = omega arith
one_or_more (Product s t) = omega arith
one_or_more (Negative t) = omega arith

one_or_more_array : (a : ArrayTerm) → 1 ≤ array_weight ◌+◌ ones a
unfolding hidden term_shape term_child array_shape array_child
one_or_more_array (Array s) = omega arith
one_or_more_array (PutOf a i j v) = omega arith

pub never_smaller : (cs : List Change) (f : Formula) → size_of f ≤ size_of (formula_after cs f)
never_smaller cs f = between _ _ _ _ (size_is f) (size_after cs f) (size_grows ones (after ◌+◌ ones cs) (λ s. one_or_more (scalar_after cs s)) (λ s. one_or_more_array (array_symbol_after cs s)) f)
  where
    between : (a b x y : ℕ) → a ≡ x → b ≡ y → x ≤ y → a ≤ b
    between a b x y e h k = omega (arith, e, h, k)

larger : (l a b : ℕ) → l < a → a ≤ b → l < b
larger l a b h k = omega (arith, h, k)

-- what is made of a formula that is too large

pub known : (m : Measure) (p : Profile) (f : Formula) → m ≡ Known p → IsMeasure m f → IsProfile p f
known m p f e h = subst (λ (x : Measure). IsMeasure x f) e h

too_large : (m : Measure) (f : Formula) → m ≡ TooLarge → IsMeasure m f → 200000 < size_of f
too_large m f e h = subst (λ (x : Measure). IsMeasure x f) e h

pub still_large : (m : Measure) (f : Formula) → m ≡ TooLarge → IsMeasure m f → IsMeasure TooLarge f
still_large m f e h = too_large m f e h

pub labelled_large : (m : Measure) (l : Label) (f : Formula) → m ≡ TooLarge → IsMeasure m f → IsMeasure TooLarge (Labelled l f)
unfolding hidden formula_shape formula_child term_shape term_child array_shape array_child
labelled_large m l f e h = larger 200000 (size_of f) (size_of f + 1) (too_large m f e h) (omega arith)

pub first_large : (m : Measure) (f g : Formula) → m ≡ TooLarge → IsMeasure m f → IsMeasure TooLarge (Conjunction f g)
unfolding hidden formula_shape formula_child term_shape term_child array_shape array_child
first_large m f g e h = larger 200000 (size_of f) (size_of f + size_of g + 1) (too_large m f e h) (omega arith)

pub second_large : (m : Measure) (f g : Formula) → m ≡ TooLarge → IsMeasure m g → IsMeasure TooLarge (Conjunction f g)
unfolding hidden formula_shape formula_child term_shape term_child array_shape array_child
second_large m f g e h = larger 200000 (size_of g) (size_of f + size_of g + 1) (too_large m g e h) (omega arith)

pub implied_large : (m : Measure) (f g : Formula) → m ≡ TooLarge → IsMeasure m g → IsMeasure TooLarge (Implication f g)
unfolding hidden formula_shape formula_child term_shape term_child array_shape array_child
implied_large m f g e h = larger 200000 (size_of g) (size_of f + size_of g + 1) (too_large m g e h) (omega arith)

pub changed_large : (m : Measure) (cs : List Change) (f : Formula) → m ≡ TooLarge → IsMeasure m f → IsMeasure TooLarge (formula_after cs f)
changed_large m cs f e h = larger 200000 (size_of f) (size_of (formula_after cs f)) (too_large m f e h) (never_smaller cs f)
