-- Conditions are shown one by one, and those that are shown hold.
use Rattle.std.proofs.Common.{◌≡◌, ℕ, ◌<◌, ◌≤◌, ◌+◌, true, false, nat_lt, Bor, List, [], ◌∷◌, Option, Some, None, length, All, refl, sym, ◌∙◌, subst, arith, get_or, slice_get}
use Rattle.std.proofs.lemmas.Bool.Decides.{nat_tests}
use Rattle.std.proofs.lemmas.List.Elements.{All-from_get_or}
use Rattle.std.specs.Option.{is_some, option_copied, IfSome}
use Rattle.std.proofs.lemmas.Option.{slice_get-get_or, slice_get_read, slice_get_past, get_or_from_slice_get}
use Rattle.ac_logic.specs.declared.condition.Condition.{Condition}
use Rattle.ac_logic.specs.declared.formula.Formula.{Formula}
use Rattle.ac_logic.specs.Meaning.{Holds}
use Rattle.ac_proof.specs.declared.certificate.ProvedCondition.{ProvedCondition}
use Rattle.ac_proof.specs.declared.tree.ProofTree.{ProofTree}
use Rattle.ac_proof.specs.Checked.{Checked, goal_of}
use Rattle.ac_proof.specs.Soundness.{Follows}
use Rattle.ac_conditions.specs.Conditions.{IsValid}
use Rattle.ac_kernel.specs.declared.refused.Refused.{Refused}
use Rattle.ac_kernel.specs.Entries.{IsShown, IsEntryRefusal, AreShown, IsFirstRefused}

-- the entry that code finds at a place, or none past the end
pub found_at : (entries : List ProvedCondition) (i : ℕ) (found : Option (Bor ProvedCondition)) → is_some found ≡ nat_lt i (length entries) → IfSome found (λ x. x.now ≡ get_or entries i x.now) → option_copied found ≡ slice_get entries i
found_at entries i None within at = let past : length entries ≤ i = grind (arith, nat_tests) in sym (slice_get_past entries i past)
found_at entries i (Some x) within at = let before : i < length entries = grind (arith, nat_tests) in sym (slice_get_read entries (length entries) i x.now refl before at)

module _ (conditions : List Condition) (entries : List ProvedCondition) where
  -- one condition more
  pub shown_more : (i : ℕ) (c : Condition) (entry : Option ProvedCondition) → c ≡ get_or conditions i c → i < length conditions → entry ≡ slice_get entries i → AreShown conditions entries i → IsShown c entry → AreShown conditions entries (i + 1)
  shown_more i c entry at within e before here k d lt found =
      elim (nat_lt k i) as (λ b. nat_lt k i ≡ b → IsShown d (slice_get entries k)) [
        | true ↦ λ r. before k d (grind (arith, nat_tests)) found
        | false ↦ λ r.
            let q : k ≡ i = grind (arith, nat_tests) in
            let same : slice_get conditions i ≡ Some d = subst (λ m. slice_get conditions m ≡ Some d) q found in
            let one : c ≡ d = at ∙ get_or_from_slice_get conditions i d c same in
            let shown : IsShown d (slice_get entries i) = subst (λ x. IsShown x (slice_get entries i)) one (subst (λ o. IsShown c o) e here) in
            subst (λ m. IsShown d (slice_get entries m)) (sym q) shown
      ] refl

  pub first_refused : (i : ℕ) (c : Condition) (entry : Option ProvedCondition) (r : Refused) → c ≡ get_or conditions i c → i < length conditions → entry ≡ slice_get entries i → AreShown conditions entries i → IsEntryRefusal c entry r → IsFirstRefused conditions entries r
  first_refused i c entry r at within e before here = (i, c, before, slice_get_read conditions (length conditions) i c refl within at, subst (λ o. IsEntryRefusal c o r) e here)

-- what a checked proof is worth
abbrev pub Soundness : Type 0
Soundness = (hyps : List Formula) (proof : ProofTree) → Checked hyps proof → Follows hyps (goal_of proof)

valid : Soundness → (c : Condition) (entry : Option ProvedCondition) → IsShown c entry → IsValid c
valid sound c None h = absurd h
valid sound c (Some e) h = λ w. subst (λ f. Holds w f) h.goal (sound [] e.proof h.checked w tt)

pub all_valid : Soundness → (conditions : List Condition) (entries : List ProvedCondition) → AreShown conditions entries (length conditions) → All IsValid conditions
all_valid sound [] entries h = λ k d lt. absurd (omega (arith, lt))
all_valid sound (c ∷ cs) entries h = All-from_get_or IsValid (c ∷ cs) c (λ i lt. valid sound (get_or (c ∷ cs) i c) (slice_get entries i) (h i (get_or (c ∷ cs) i c) lt (slice_get-get_or (c ∷ cs) i c lt)))
