-- A linear combination of facts that hold is at most 0.
use Rattle.std.proofs.Common.{◌≡◌, ℕ, zero, suc, ℤ, pos, ◌+ℤ◌, ◌*ℤ◌, ◌-ℤ◌, ◌≤ℤ◌, List, [], ◌∷◌, Option, Some, None, option_map, refl, sym, subst, arith}
use Rattle.std.proofs.lemmas.Int.{ints}
use Rattle.std.proofs.Math.IntN.{zero-*ℤ, suc_ℤ-*ℤ}
use lib.Signed.{◌<ℤ◌, ≤ℤ_refl}
use Rattle.ac_logic.specs.declared.formula.Term.TheVariants.{Sub}
use Rattle.ac_logic.specs.declared.formula.Formula.{Formula, Le}
use Rattle.ac_logic.specs.Meaning.{Valuation, value, Holds}
use Rattle.ac_linear.specs.declared.linear.Linear.{Linear}
use Rattle.ac_linear.specs.NormalForm.{and_then}
use Rattle.ac_linear.specs.Combination.{combination_of}
use Rattle.ac_linear.specs.LinearValue.{linear_value, parts_value, weighted}
use Rattle.ac_linear.proofs.Values.{normal_has_value}
use Rattle.ac_linear.proofs.Combined.{combination_has_value}
use Rattle.ac_proof.specs.Opened.{hidden, formula_shape, formula_child, term_shape, term_child, array_shape, array_child}
use Rattle.ac_proof.specs.Linear.{fact, facts, IsContradiction}
use Rattle.ac_proof.specs.Soundness.{HoldAll}

abbrev AtMostZero : Valuation → List Linear → Type 0
AtMostZero w [] = Unit {0}
AtMostZero w (l ∷ ls) = (linear_value w [] l ≤ℤ pos 0) × AtMostZero w ls

difference_low : (x u v : ℤ) → x ≡ u -ℤ v → u ≤ℤ v → x ≤ℤ pos 0
difference_low x u v e h = omega (arith, ints)

fact_low : (w : Valuation) (f : Formula) (l : Linear) → fact f ≡ Some l → Holds w f → linear_value w [] l ≤ℤ pos 0
unfolding formula_shape formula_child term_shape term_child array_shape array_child hidden
fact_low w (Le u v) l e h = difference_low (linear_value w [] l) (value w [] u) (value w [] v) (normal_has_value w [] (Sub u v) l e) h
fact_low w f l e h = cc

behind_some : (l : Linear) (o : Option (List Linear)) (ls : List Linear) → option_map (λ more. l ∷ more) o ≡ Some ls → (more : List Linear) × (o ≡ Some more) × (l ∷ more ≡ ls)
behind_some l None ls e = cc
behind_some l (Some more) ls e = (more, refl, cc)

facts_first : (o : Option Linear) (p : Option (List Linear)) (ls : List Linear) → and_then o (λ l. option_map (λ more. l ∷ more) p) ≡ Some ls → (l : Linear) × (o ≡ Some l) × (option_map (λ more. l ∷ more) p ≡ Some ls)
facts_first None p ls e = cc
facts_first (Some l) p ls e = (l, refl, e)

-- the facts of formulas that hold
pub facts_low : (w : Valuation) (fs : List Formula) (ls : List Linear) → facts fs ≡ Some ls → HoldAll w fs → AtMostZero w ls
facts_low w [] ls e h = let q : [] ≡ ls = cc in subst (AtMostZero w) q tt
facts_low w (f ∷ fs) ls e h =
    let a = facts_first (fact f) (facts fs) ls e in
    let b = behind_some a.0 (facts fs) ls a.2 in
    subst (AtMostZero w) b.2 (fact_low w f a.0 a.1 h.0, facts_low w fs b.0 b.1 h.1)

sum_low : (x y : ℤ) → x ≤ℤ pos 0 → y ≤ℤ pos 0 → (x +ℤ y) ≤ℤ pos 0
sum_low x y h k = omega (arith, ints)

scaled_low : (k : ℕ) (x : ℤ) → x ≤ℤ pos 0 → (pos k *ℤ x) ≤ℤ pos 0
scaled_low zero x h = subst (λ y. y ≤ℤ pos 0) (sym (zero-*ℤ x)) (≤ℤ_refl (pos 0))
scaled_low (suc k) x h =
    let r : (pos k *ℤ x) ≤ℤ pos 0 = scaled_low k x h in
    let e : pos (suc k) *ℤ x ≡ (pos k *ℤ x) +ℤ x = suc_ℤ-*ℤ (pos k) x in
    let s : ((pos k *ℤ x) +ℤ x) ≤ℤ pos 0 = sum_low (pos k *ℤ x) x r h in
    subst (λ y. y ≤ℤ pos 0) (sym e) s

weighted_low : (w : Valuation) (ls : List Linear) (ks : List ℕ) → AtMostZero w ls → weighted w [] ls ks ≤ℤ pos 0
weighted_low w [] ks h = ≤ℤ_refl (pos 0)
weighted_low w (l ∷ ls) [] h = ≤ℤ_refl (pos 0)
weighted_low w (l ∷ ls) (k ∷ ks) h = sum_low (pos k *ℤ linear_value w [] l) (weighted w [] ls ks) (scaled_low k (linear_value w [] l) h.0) (weighted_low w ls ks h.1)

above_low : (c x : ℤ) → c +ℤ pos 0 ≡ x → x ≤ℤ pos 0 → pos 0 <ℤ c → ⊥
above_low c x e h k = omega (arith, ints)

-- Facts that hold have no contradiction.
pub no_contradiction : (w : Valuation) (fs : List Formula) (ls : List Linear) (ks : List ℕ) (sum : Linear) → facts fs ≡ Some ls → combination_of ls ks ≡ Some sum → IsContradiction sum → HoldAll w fs → ⊥
no_contradiction w fs ls ks sum e c k h =
    let v : sum.constant +ℤ parts_value w [] sum.parts ≡ weighted w [] ls ks = combination_has_value w [] ls ks sum c in
    let z : sum.constant +ℤ pos 0 ≡ weighted w [] ls ks = subst (λ ps. sum.constant +ℤ parts_value w [] ps ≡ weighted w [] ls ks) k.0 v in
    above_low sum.constant (weighted w [] ls ks) z (weighted_low w ls ks (facts_low w fs ls e h)) k.1
