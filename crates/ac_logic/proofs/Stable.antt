-- What doesn't fail holds: truth is two-valued without an axiom, as the whole numbers are decidable.
use Rattle.std.proofs.Common.{◌≡◌, ℤ, ◌≤ℤ◌, List, ◌∷◌, Bool, true, false, T}
use lib.IntN.{ℤ_discrete}
use lib.Signed.{le_z}
use Rattle.ac_logic.specs.declared.formula.Formula.{Formula, True, False, Le, Eq}
use Rattle.ac_logic.specs.Patterns.{Negation, Conjunction, Disjunction, Implication, Every, Labelled}
use Rattle.ac_logic.specs.Opened.{hidden, formula_shape, formula_child}
use Rattle.ac_logic.specs.Meaning.{Valuation, HoldsIn}

stable_eq : (a b : ℤ) → ((a ≡ b → ⊥) → ⊥) → a ≡ b
stable_eq a b h = elim (ℤ_discrete a b) [ yes p ↦ p | no f ↦ absurd (h f) ]

stable_t : (b : Bool) → ((T b → ⊥) → ⊥) → T b
stable_t true h = tt
stable_t false h = h (λ x. x)

stable_le : (a b : ℤ) → ((a ≤ℤ b → ⊥) → ⊥) → a ≤ℤ b
stable_le a b h = record { le = stable_t (le_z a b) (λ n. h (λ q. n q.le)) }

pub stable : (w : Valuation) (e : List ℤ) (f : Formula) → ((HoldsIn w e f → ⊥) → ⊥) → HoldsIn w e f
unfolding hidden formula_shape formula_child
stable w e True h = tt
stable w e False h = h (λ x. x)
stable w e (Le a b) h = stable_le _ _ h
stable w e (Eq a b) h = stable_eq _ _ h
stable w e (Negation f) h = λ x. h (λ n. n x)
stable w e (Conjunction f g) h = (stable w e f (λ n. h (λ p. n p.0)), stable w e g (λ n. h (λ p. n p.1)))
stable w e (Disjunction f g) h = λ a b. h (λ o. o a b)
stable w e (Implication f g) h = λ x. stable w e g (λ n. h (λ i. n (i x)))
stable w e (Every f) h = λ m. stable w (m ∷ e) f (λ n. h (λ all. n (all m)))
stable w e (Labelled l f) h = stable w e f h
