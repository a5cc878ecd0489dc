-- What is measured of conditions, taken from the last found to the first.
use Rattle.std.proofs.lemmas.Bool.Decides.{nat_tests}
use Rattle.std.proofs.Common.{◌≡◌, ℕ, ◌+◌, ◌-◌, ◌^◌, ◌<◌, ◌≤◌, min, nat_lt, Bool, true, false, Option, Some, None, is_some, List, [], ◌∷◌, ◌++◌, length, inl, inr, refl, sym, ◌∙◌, ap, arith}
use Rattle.ac_tree.specs.declared.limit.LimitKind.TheVariants as kind
use Rattle.ac_tree.specs.declared.path.Pair.{Pair}
use Rattle.ac_tree.specs.declared.policy.PolicyName.{PolicyName}
use Rattle.ac_logic.specs.declared.condition.Condition.{Condition}
use Rattle.ac_logic.specs.declared.formula.Formula.{Formula}
use Rattle.ac_logic.specs.Size.{saturated, size_of, depth_of}
use Rattle.ac_vcg.specs.declared.fault.VcgFault.{VcgFault}
use Rattle.ac_vcg.specs.declared.fault.VcgFault.TheVariants as fault
use Rattle.ac_vcg.specs.declared.found.Found.{Found}
use Rattle.ac_profile.specs.declared.measure.Measure.{Measure}
use Rattle.ac_profile.specs.declared.measure.Measure.TheVariants.{TooLarge, Known}
use Rattle.ac_profile.specs.declared.profile.Profile.{Profile}
use Rattle.ac_profile.specs.Measure.{IsMeasure}
use Rattle.ac_profile.specs.Profile.{IsProfile, capped}
use Rattle.ac_vcg.specs.Refusals.{is_above, refusal_if, or_else, size_refusal, depth_refusal, refusal_of_one, first_refusal, total_size, total_refusal, sizes_refusal, number_refusal, refusal_of_all, IsAnswered}
use Rattle.ac_vcg.specs.Stands.{IsFor, AreFound}
use Rattle.ac_profile.proofs.Measures.{known, still_large}
use Rattle.ac_vcg.proofs.Limited.{same_sizes, same_depths, same_totals, same_numbers}
use Rattle.ac_vcg.proofs.Taken.{found_last, found_length}

-- a saturated number passes a limit where the number does
twice : (m x : ℕ) → min (min x m) m ≡ min x m
twice m x = omega arith

pub refused_by : (name : PolicyName) (x : Found Measure) (p : Profile) (c : Condition) (s d : ℕ) (r : Option VcgFault) → x.goal ≡ Known p → IsFor IsMeasure name x c → ((f : Formula) → IsProfile p f → s ≡ saturated (size_of f)) →
    ((f : Formula) → IsProfile p f → capped d ≡ capped (depth_of f)) → r ≡ or_else (size_refusal x.pair s) (depth_refusal x.pair d) → r ≡ refusal_of_one c
refused_by name x p c s d r g h k l e =
    let profile : IsProfile p c.formula = known x.goal p c.formula g h.2 in
    let here : or_else (size_refusal x.pair s) (depth_refusal x.pair d) ≡ or_else (size_refusal x.pair (size_of c.formula)) (depth_refusal x.pair (depth_of c.formula)) =
    ap (λ (o : Option VcgFault). or_else o (depth_refusal x.pair d)) (same_sizes x.pair s (size_of c.formula) (ap (λ n. saturated n) (k c.formula profile) ∙ twice (2 ^ 64 - 1) (size_of c.formula)))
    ∙ ap (λ (o : Option VcgFault). or_else (size_refusal x.pair (size_of c.formula)) o) (same_depths x.pair d (depth_of c.formula) (l c.formula profile)) in
    e ∙ (here ∙ ap (λ (p : Pair). or_else (size_refusal p (size_of c.formula)) (depth_refusal p (depth_of c.formula))) (sym h.1))

-- what is known to be too large is refused for its size
pub refused_large : (name : PolicyName) (x : Found Measure) (c : Condition) (pair : Pair) (largest : ℕ) → x.goal ≡ TooLarge → pair ≡ x.pair → largest ≡ 200000 → IsFor IsMeasure name x c → Some (fault.Size pair largest) ≡ refusal_of_one c
refused_large name x c pair largest g p l h =
    ap (λ n. let o : Option VcgFault = Some (fault.Size pair n) in o) l ∙
    ap (λ (q : Pair). let o : Option VcgFault = Some (fault.Size q 200000) in o) (p ∙ sym h.1) ∙ sym (ap (λ b. or_else (refusal_if b (fault.Size c.pair 200000)) (depth_refusal c.pair (depth_of c.formula))) (above (size_of c.formula) (still_large x.goal c.formula g h.2)))
  where
    above : (n : ℕ) → 200000 < n → nat_lt 200000 n ≡ true
    above n k = grind (arith, nat_tests, k)

-- what is not refused is within the limit on size
pub within_size : (c : Condition) → refusal_of_one c ≡ None → size_of c.formula ≤ 200000
within_size c e = below (size_of c.formula) (not_large (nat_lt 200000 (size_of c.formula)) c.pair (depth_refusal c.pair (depth_of c.formula)) e)
  where
    not_large : (b : Bool) (q : Pair) (o : Option VcgFault) → or_else (refusal_if b (fault.Size q 200000)) o ≡ None → b ≡ false
    not_large true q o h = cc
    not_large false q o h = refl

    below : (n : ℕ) → nat_lt 200000 n ≡ false → n ≤ 200000
    below n k = grind (arith, nat_tests, k)

-- the size that is told of what is too large has no meaning, and nothing within the limit is
pub no_large : (m : Measure) (f : Formula) (n : ℕ) → m ≡ TooLarge → IsMeasure m f → size_of f ≤ 200000 → n ≡ saturated (size_of f)
no_large m f n e h k = absurd (apart (size_of f) (still_large m f e h) k)
  where
    apart : (a : ℕ) → 200000 < a → a ≤ 200000 → ⊥
    apart a l m = omega (arith, l, m)

none_before : (r o : Option VcgFault) → is_some r ≡ false → or_else r o ≡ o
none_before None o h = refl
none_before (Some f) o h = cc

some_before : (r o : Option VcgFault) → is_some r ≡ true → or_else r o ≡ r
some_before None o h = cc
some_before (Some f) o h = refl

nothing : (r : Option VcgFault) → is_some r ≡ false → r ≡ None
nothing None h = refl
nothing (Some f) h = cc

sum_less : (m t n z s rest all : ℕ) → z ≡ min (t + n) m → n ≡ min s m → min (t + (s + rest)) m ≡ all → min (z + rest) m ≡ all
sum_less m t n z s rest all h k e = omega (arith, h, k, e)

module _ (name : PolicyName) (before left : List (Found Measure)) (x : Found Measure) (r : Option VcgFault) (popped : before ≡ left ++ x ∷ []) (refused : (c : Condition) → IsFor IsMeasure name x c → r ≡ refusal_of_one c) (cs ds : List Condition)
    (found : AreFound IsMeasure name before ds) (first : first_refusal cs ≡ first_refusal ds) where
  -- the first is refused
  pub is_first : is_some r ≡ true → r ≡ first_refusal cs
  is_first some =
      let parts = found_last IsMeasure name before left x ds popped found in
      sym (first ∙ (ap (λ (l : List Condition). first_refusal l) parts.2 ∙ (ap (λ (o : Option VcgFault). or_else o (first_refusal parts.1)) (sym (refused parts.0 parts.3)) ∙ some_before r (first_refusal parts.1) some)))

  -- it is not, and the next comes
  pub goes_on : (t n z all : ℕ) → is_some r ≡ false → ((f : Formula) → IsMeasure x.goal f → size_of f ≤ 200000 → n ≡ saturated (size_of f)) → z ≡ saturated (t + n) → saturated (t + total_size ds) ≡ all →
      (rest : List Condition) × AreFound IsMeasure name left rest × (first_refusal cs ≡ first_refusal rest) × (saturated (z + total_size rest) ≡ all)
  goes_on t n z all none measured added sum =
      let parts = found_last IsMeasure name before left x ds popped found in (
        parts.1,
        parts.4,
        first ∙ (ap (λ (l : List Condition). first_refusal l) parts.2 ∙ (ap (λ (o : Option VcgFault). or_else o (first_refusal parts.1)) (sym (refused parts.0 parts.3)) ∙ none_before r (first_refusal parts.1) none)),
        sum_less (2 ^ 64 - 1) t n z (size_of parts.0.formula) (total_size parts.1) all added (measured parts.0.formula parts.3.2 (within_size parts.0 (sym (refused parts.0 parts.3) ∙ nothing r none))) (sym (ap (λ (l : List Condition). saturated (t + total_size l)) parts.2) ∙ sum),
      )

-- none is left
module _ {G : Type 0} (stands : G → Formula → Type 0) (name : PolicyName) where
  pub none_left : (xs : List (Found G)) (cs : List Condition) → length xs ≡ 0 → AreFound stands name xs cs → cs ≡ []
  none_left xs [] e h = refl
  none_left xs (c ∷ cs) e h = let k = found_length stands name xs (c ∷ cs) h in absurd (omega (arith, e, k))

-- what is told of all conditions in the end

pub sizes_told : (all : List Condition) (total : ℕ) → first_refusal all ≡ None → saturated total ≡ saturated (total_size all) → sizes_refusal all ≡ total_refusal total
sizes_told all total h e = ap (λ (o : Option VcgFault). or_else o (total_refusal (total_size all))) h ∙ same_totals (total_size all) total (sym e)

pub first_told : (all : List Condition) (r rest : Option VcgFault) (f : VcgFault) → first_refusal all ≡ or_else r rest → r ≡ Some f → sizes_refusal all ≡ Some f
first_told all r rest f h e = ap (λ (o : Option VcgFault). or_else o (total_refusal (total_size all))) (h ∙ ap (λ (o : Option VcgFault). or_else o rest) e)

pub refusal_told : (cs : List Condition) (count : ℕ) → is_above kind.Conditions count ≡ is_above kind.Conditions (length cs) → refusal_of_all cs ≡ or_else (number_refusal count) (sizes_refusal cs)
refusal_told cs count e = ap (λ (o : Option VcgFault). or_else o (sizes_refusal cs)) (same_numbers (length cs) count (sym e))

module _ (cs : List Condition) (count : ℕ) (counted : is_above kind.Conditions count ≡ is_above kind.Conditions (length cs)) where
  pub count_refused : (f : VcgFault) → number_refusal count ≡ Some f → IsAnswered (refusal_of_all cs) f
  count_refused f h = inr (refusal_told cs count counted ∙ ap (λ (o : Option VcgFault). or_else o (sizes_refusal cs)) h)

  pub sizes_refused : (f : VcgFault) → number_refusal count ≡ None → IsAnswered (sizes_refusal cs) f → IsAnswered (refusal_of_all cs) f
  sizes_refused f h (inl e) = inl e
  sizes_refused f h (inr e) = inr (refusal_told cs count counted ∙ (ap (λ (o : Option VcgFault). or_else o (sizes_refusal cs)) h ∙ e))

  pub nothing_refused : number_refusal count ≡ None → sizes_refusal cs ≡ None → refusal_of_all cs ≡ None
  nothing_refused h e = refusal_told cs count counted ∙ (ap (λ (o : Option VcgFault). or_else o (sizes_refusal cs)) h ∙ e)
