-- A rewrite changes no truth and brings no label.
use Rattle.std.proofs.Common.{◌≡◌, ℕ, ℤ, List, ◌∷◌, Bool, true, false, T, refl, sym, subst, ◌≤ℤ◌}
use Rattle.std.specs.Ordering.{int_eq}
use Rattle.std.proofs.lemmas.Bool.Decides.{Decides-int_eq}
use lib.Signed.{le_z}
use Rattle.ac_logic.specs.declared.formula.Formula.{Formula}
use Rattle.ac_logic.specs.Meaning.{Valuation, HoldsIn}
use Rattle.ac_logic.proofs.Stable.{stable}
use Rattle.ac_simplify.specs.declared.rule.RewriteRule.{RewriteRule}
use Rattle.ac_simplify.specs.declared.rewrite.Rewrite.{Rewrite}
use Rattle.ac_simplify.specs.Rewriting as rewriting
use Rattle.ac_simplify.specs.Rewriting.{truth, Applies, AppliesAt, Replays}
use Rattle.ac_simplify.specs.Opened.{hidden, formula_shape, formula_child, term_shape, term_child, array_shape, array_child}

module _ (w : Valuation) where
  -- both hold alike
  abbrev Alike : List ℤ → Formula → Formula → Type 0
  Alike e a b = (HoldsIn w e a → HoldsIn w e b) × (HoldsIn w e b → HoldsIn w e a)

  le_truth : (e : List ℤ) (m n : ℤ) (b : Bool) → b ≡ le_z m n → (m ≤ℤ n → HoldsIn w e (truth b)) × (HoldsIn w e (truth b) → m ≤ℤ n)
  unfolding hidden formula_shape formula_child
  le_truth e m n true s = (λ _. tt, λ _. record { le = subst (λ (b : Bool). T b) s tt })
  le_truth e m n false s = (λ p. subst (λ (b : Bool). T b) (sym s) p.le, λ f. absurd f)

  eq_truth : (e : List ℤ) (m n : ℤ) (b : Bool) → b ≡ int_eq m n → (m ≡ n → HoldsIn w e (truth b)) × (HoldsIn w e (truth b) → m ≡ n)
  unfolding hidden formula_shape formula_child
  eq_truth e m n true s = (λ _. tt, λ _. (Decides-int_eq m n).0 (cc))
  eq_truth e m n false s = (λ p. let q = (Decides-int_eq m n).1 p in cc, λ f. absurd f)

  holds_alike : (e : List ℤ) {r : RewriteRule} {a b : Formula} → Applies r a b → Alike e a b
  unfolding hidden formula_shape formula_child term_shape term_child array_shape array_child
  holds_alike e (rewriting.true_and x) = (λ p. p.1, λ p. (tt, p))
  holds_alike e (rewriting.and_true x) = (λ p. p.0, λ p. (p, tt))
  holds_alike e (rewriting.false_and x) = (λ p. p.0, λ p. absurd p)
  holds_alike e (rewriting.and_false x) = (λ p. p.1, λ p. absurd p)
  holds_alike e (rewriting.true_or x) = (λ _. tt, λ _ n m. n tt)
  holds_alike e (rewriting.or_true x) = (λ _. tt, λ _ n m. m tt)
  holds_alike e (rewriting.false_or x) = (λ o. stable w e x (λ n. o (λ f. f) n), λ p n m. m p)
  holds_alike e (rewriting.or_false x) = (λ o. stable w e x (λ n. o n (λ f. f)), λ p n m. n p)
  holds_alike e (rewriting.true_implies x) = (λ i. i tt, λ p _. p)
  holds_alike e (rewriting.false_implies x) = (λ _. tt, λ _ f. absurd f)
  holds_alike e (rewriting.implies_true x) = (λ _. tt, λ _ _. tt)
  holds_alike e rewriting.not_true = (λ n. n tt, λ f. absurd f)
  holds_alike e rewriting.not_false = (λ _. tt, λ _ f. f)
  holds_alike e (rewriting.compared m n) = le_truth e m n (le_z m n) refl
  holds_alike e (rewriting.equated m n) = eq_truth e m n (int_eq m n) refl
  holds_alike e (rewriting.labelled_true l) = (λ p. p, λ p. p)
  holds_alike e rewriting.every_true = (λ _. tt, λ _ _. tt)

  holds_alike_at : (e : List ℤ) {p : List ℕ} {r : RewriteRule} {a b : Formula} → AppliesAt p r a b → Alike e a b
  unfolding hidden formula_shape formula_child
  holds_alike_at e (rewriting.at_root d) = holds_alike e d
  holds_alike_at e (rewriting.in_negation d) = let k = holds_alike_at e d in (λ n x. n (k.1 x), λ n x. n (k.0 x))
  holds_alike_at e (rewriting.in_conjunction_left c d) = let k = holds_alike_at e d in (λ p. (k.0 p.0, p.1), λ p. (k.1 p.0, p.1))
  holds_alike_at e (rewriting.in_conjunction_right c d) = let k = holds_alike_at e d in (λ p. (p.0, k.0 p.1), λ p. (p.0, k.1 p.1))
  holds_alike_at e (rewriting.in_disjunction_left c d) = let k = holds_alike_at e d in (λ o n m. o (λ x. n (k.0 x)) m, λ o n m. o (λ x. n (k.1 x)) m)
  holds_alike_at e (rewriting.in_disjunction_right c d) = let k = holds_alike_at e d in (λ o n m. o n (λ x. m (k.0 x)), λ o n m. o n (λ x. m (k.1 x)))
  holds_alike_at e (rewriting.in_implication_left c d) = let k = holds_alike_at e d in (λ i x. i (k.1 x), λ i x. i (k.0 x))
  holds_alike_at e (rewriting.in_implication_right c d) = let k = holds_alike_at e d in (λ i x. k.0 (i x), λ i x. k.1 (i x))
  holds_alike_at e (rewriting.in_every d) = (λ all n. (holds_alike_at (n ∷ e) d).0 (all n), λ all n. (holds_alike_at (n ∷ e) d).1 (all n))
  holds_alike_at e (rewriting.in_label l d) = holds_alike_at e d

  pub holds_after : (e : List ℤ) {ws : List Rewrite} {a b : Formula} → Replays ws a b → Alike e a b
  holds_after e rewriting.done = (λ p. p, λ p. p)
  holds_after e (rewriting.then s d) = let j = holds_alike_at e s in let k = holds_after e d in (λ p. k.0 (j.0 p), λ p. j.1 (k.1 p))
