-- Which hypotheses a plan uses, by the list of its premises.
use Rattle.std.proofs.Common.{◌≡◌, ℕ, zero, suc, ◌+◌, ◌<◌, ◌≤◌, List, [], ◌∷◌, length, ◌⊎◌, inl, inr, ⊎_elim, Some, slice_get, get_or, true, false, nat_lt, refl, sym, ap, subst, ◌∙◌, arith}
use Rattle.std.proofs.lemmas.Bool.Decides.{nat_tests}
use denote.Hole.Carrier as carrier
use Rattle.ac_logic.specs.declared.formula.Formula.{Formula}
use Rattle.ac_steps.specs.declared.plan.Plan.{Plan, Plan', out-Plan, end_of-Plan as no_more, more_of-Plan as shared, items-the_row-Plan-premises-1, items_shown-the_row-Plan-premises-1-1}
use Rattle.ac_steps.specs.declared.plan.Plan.TheBlock.{Row_of-Plan-premises-1 as Row_of-Plans, end_of-Plan-premises-1 as end_of-Plans, more_of-Plan-premises-1 as more_of-Plans}
use Rattle.ac_steps.specs.Contexts.{IsHypothesis, Uses, SomeUses}
use Rattle.ac_steps.proofs.Rows.{here, plan_at}

module _ (f : Formula) where
  abbrev SomeOf : List Plan → Type 0
  SomeOf [] = ⊥
  SomeOf (p ∷ ps) = Uses f p ⊎ SomeOf ps

  uses-items : (n : _) (row : Row_of-Plans n) → SomeUses f row ≡ SomeOf (items-the_row-Plan-premises-1 n row)
  uses-items n end_of-Plans = refl
  uses-items n (more_of-Plans s (shared p no_more) row) = λ k. Uses f (here s p k) ⊎ uses-items _ row k

  uses-out : (p : Plan) → Uses f p ≡ (IsHypothesis f (out-Plan p).way (out-Plan p).goal ⊎ SomeOf (out-Plan p).premises)
  unfolding out-Plan carrier.out
  uses-out (Plan' way g s row) = (λ k. IsHypothesis f way g ⊎ uses-items _ row k) ∙ ap (λ ps. IsHypothesis f way g ⊎ SomeOf ps) (sym (items_shown-the_row-Plan-premises-1-1 s row))

  pub used_here : (p : Plan) → IsHypothesis f (out-Plan p).way (out-Plan p).goal → Uses f p
  used_here p h = subst (λ (X : Type 0). X) (sym (uses-out p)) (inl h)

  some_at : (ps : List Plan) (i : ℕ) (q : Plan) → slice_get ps i ≡ Some q → Uses f q → SomeOf ps
  some_at [] i q e u = cc
  some_at (p ∷ ps) zero q e u = let m : p ≡ q = cc in inl (subst (Uses f) (sym m) u)
  some_at (p ∷ ps) (suc i) q e u = inr (some_at ps i q e u)

  pub used_below : (p : Plan) (qs : List Plan) (i : ℕ) (x : Plan) → qs ≡ (out-Plan p).premises → i < length qs → x ≡ get_or qs i x → Uses f x → Uses f p
  used_below p qs i x e lt is u =
      let l : length qs ≡ length (out-Plan p).premises = ap length e in
      subst (λ (X : Type 0). X) (sym (uses-out p)) (inr (some_at (out-Plan p).premises i x (plan_at (out-Plan p).premises qs i x e (omega (arith, lt, l)) is) u))

  none_of : (ps : List Plan) → ((k : ℕ) (q : Plan) → k < length ps → slice_get ps k ≡ Some q → Uses f q → ⊥) → SomeOf ps → ⊥
  none_of [] h u = u
  none_of (p ∷ ps) h u = ⊎_elim (λ a. h zero p (omega arith) refl a) (λ b. none_of ps (λ k q lt e. h (suc k) q (omega arith) e) b) u

  pub not_used : (p : Plan) (qs : List Plan) (i : ℕ) → qs ≡ (out-Plan p).premises → length qs ≤ i → (IsHypothesis f (out-Plan p).way (out-Plan p).goal → ⊥) → ((k : ℕ) (q : Plan) → k < i → slice_get qs k ≡ Some q → Uses f q → ⊥) → Uses f p → ⊥
  not_used p qs i e long here below u =
      let l : length qs ≡ length (out-Plan p).premises = ap length e in
      ⊎_elim here (none_of (out-Plan p).premises (λ k q lt s. below k q (omega arith) (subst (λ xs. slice_get xs k ≡ Some q) (sym e) s))) (subst (λ (X : Type 0). X) (uses-out p) u)

  item_same : (qs : List Plan) (i : ℕ) (x q : Plan) → x ≡ get_or qs i x → slice_get qs i ≡ Some q → x ≡ q
  item_same [] i x q a e = cc
  item_same (p ∷ qs) zero x q a e = let m : p ≡ q = cc in a ∙ m
  item_same (p ∷ qs) (suc i) x q a e = item_same qs i x q a e

  pub none_more : (qs : List Plan) (i : ℕ) (x : Plan) → x ≡ get_or qs i x → ((k : ℕ) (q : Plan) → k < i → slice_get qs k ≡ Some q → Uses f q → ⊥) → (Uses f x → ⊥) → (k : ℕ) (q : Plan) → k < i + 1 → slice_get qs k ≡ Some q → Uses f q → ⊥
  none_more qs i x is before here k q lt e =
      elim (nat_lt k i) as (λ b. nat_lt k i ≡ b → Uses f q → ⊥) [
        | true ↦ λ r. before k q (grind (arith, nat_tests)) e
        | false ↦ λ r. let m : k ≡ i = grind (arith, nat_tests) in λ u. here (subst (Uses f) (sym (item_same qs i x q is (subst (λ n. slice_get qs n ≡ Some q) m e))) u)
      ] refl
