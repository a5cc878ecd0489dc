-- What is found of conditions, taken from its end; and conditions of several targets.
use Rattle.std.proofs.Common.{◌≡◌, ℕ, ◌+◌, ◌-◌, ◌^◌, min, append_assoc, ◌<◌, ◌≤◌, Option, Some, None, List, [], ◌∷◌, ◌++◌, length, drop, get_or, refl, sym, ◌∙◌, ap, subst, arith, length-append}
use Rattle.std.proofs.lemmas.List.{at_drop_all, same_from_push, drop_more}
use Rattle.ac_tree.specs.declared.limit.LimitKind.TheVariants as kind
use Rattle.ac_tree.specs.declared.path.Target.{Target}
use Rattle.ac_tree.specs.declared.policy.PolicyName.{PolicyName}
use Rattle.ac_logic.specs.declared.condition.Condition.{Condition}
use Rattle.ac_logic.specs.declared.formula.Formula.{Formula}
use Rattle.ac_logic.specs.Size.{saturated}
use Rattle.ac_conditions.specs.AllConditions.{at_each}
use Rattle.ac_vcg.specs.declared.fault.VcgFault.{VcgFault}
use Rattle.ac_vcg.specs.declared.found.Found.{Found}
use Rattle.ac_vcg.specs.Refusals.{is_above, or_else, refusal_of_one, first_refusal, total_size}
use Rattle.ac_vcg.specs.Stands.{IsFor, AreFound}
use Rattle.ac_vcg.proofs.Limited.{same_counts}

no_push : {X : Type 0} (xs : List X) (x : X) → [] ≡ xs ++ x ∷ [] → ⊥
no_push [] x h = cc
no_push (y ∷ xs) x h = cc

module _ {G : Type 0} (stands : G → Formula → Type 0) (name : PolicyName) where
  pub found_nothing : (xs : List (Found G)) (cs : List Condition) → xs ≡ [] → AreFound stands name xs cs → cs ≡ []
  found_nothing xs [] e h = refl
  found_nothing xs (c ∷ cs) e h = absurd (no_push h.0 h.1 (sym e ∙ h.2))

  pub found_last : (xs ys : List (Found G)) (x : Found G) (cs : List Condition) → xs ≡ ys ++ x ∷ [] → AreFound stands name xs cs → (c : Condition) × (ds : List Condition) × (cs ≡ c ∷ ds) × IsFor stands name x c × AreFound stands name ys ds
  found_last xs ys x [] e h = absurd (no_push ys x (sym h ∙ e))
  found_last xs ys x (c ∷ cs) e h =
      let same = same_from_push h.0 ys h.1 x (sym h.2 ∙ e) in
      (c, cs, refl, subst (λ (z : Found G). IsFor stands name z c) same.1 h.3, subst (λ (zs : List (Found G)). AreFound stands name zs cs) same.0 h.4)

  pub found_length : (xs : List (Found G)) (cs : List Condition) → AreFound stands name xs cs → length xs ≡ length cs
  found_length xs [] h = rw h refl
  found_length xs (c ∷ cs) h = let rest = found_length h.0 cs h.4 in ap (λ (l : List (Found G)). length l) h.2 ∙ (length-append h.0 (h.1 ∷ []) ∙ omega (arith, rest))

pub each_at : (f : Target → List Condition) (ts : List Target) (i : ℕ) (t d : Target) → i < length ts → get_or ts i d ≡ t → at_each f (drop i ts) ≡ f t ++ at_each f (drop (i + 1) ts)
each_at f ts i t d low e = ap (λ (l : List Target). at_each f l) (drop_more ts i d low ∙ ap (λ (x : Target). x ∷ drop (i + 1) ts) e)

first_of_three : (a b c : Option VcgFault) → or_else a (or_else b c) ≡ or_else (or_else a b) c
first_of_three (Some f) b c = refl
first_of_three None b c = refl

pub refusals_joined : (cs ds : List Condition) → first_refusal (cs ++ ds) ≡ or_else (first_refusal cs) (first_refusal ds)
refusals_joined [] ds = refl
refusals_joined (c ∷ cs) ds = ap (λ r. or_else (refusal_of_one c) r) (refusals_joined cs ds) ∙ first_of_three (refusal_of_one c) (first_refusal cs) (first_refusal ds)

pub sizes_joined : (cs ds : List Condition) → total_size (cs ++ ds) ≡ total_size cs + total_size ds
sizes_joined [] ds = omega arith
sizes_joined (c ∷ cs) ds = let rest = sizes_joined cs ds in omega (arith, rest)

-- the conditions of the targets that are left, one target after the other
pub refusals_next : (f : Target → List Condition) (all : List Condition) (t d : Target) (ts : List Target) (i : ℕ) (r : Option VcgFault) → r ≡ first_refusal (f t) → get_or ts i d ≡ t → i < length ts → first_refusal all ≡ first_refusal (at_each f (drop i ts)) →
    first_refusal all ≡ or_else r (first_refusal (at_each f (drop (i + 1) ts)))
refusals_next f all t d ts i r e read low h =
    h ∙ (ap (λ (l : List Condition). first_refusal l) (each_at f ts i t d low read) ∙ (refusals_joined (f t) (at_each f (drop (i + 1) ts)) ∙ ap (λ (o : Option VcgFault). or_else o (first_refusal (at_each f (drop (i + 1) ts)))) (sym e)))

sums_next : (m x y s rest all : ℕ) → min y m ≡ min (x + s) m → min (x + (s + rest)) m ≡ all → min (y + rest) m ≡ all
sums_next m x y s rest all h e = omega (arith, h, e)

pub sizes_next : (f : Target → List Condition) (t d : Target) (ts : List Target) (i x y all : ℕ) → saturated y ≡ saturated (x + total_size (f t)) → get_or ts i d ≡ t → i < length ts → saturated (x + total_size (at_each f (drop i ts))) ≡ all →
    saturated (y + total_size (at_each f (drop (i + 1) ts))) ≡ all
sizes_next f t d ts i x y all h read low e =
    sums_next (2 ^ 64 - 1) x y (total_size (f t)) (total_size (at_each f (drop (i + 1) ts))) all h
    (ap (λ n. saturated (x + n)) (sym (sizes_joined (f t) (at_each f (drop (i + 1) ts)))) ∙ (ap (λ (l : List Condition). saturated (x + total_size l)) (sym (each_at f ts i t d low read)) ∙ e))

pub counts_next : (f : Target → List Condition) (t d : Target) (ts : List Target) (i x n y all : ℕ) → n ≡ length (f t) → get_or ts i d ≡ t → i < length ts → y ≡ saturated (x + n) → saturated (x + length (at_each f (drop i ts))) ≡ all →
    saturated (y + length (at_each f (drop (i + 1) ts))) ≡ all
counts_next f t d ts i x n y all c read low h e =
    sums_next (2 ^ 64 - 1) x y (length (f t)) (length (at_each f (drop (i + 1) ts))) all (told (2 ^ 64 - 1) x n (length (f t)) y c h)
    (ap (λ k. saturated (x + k)) (sym (length-append (f t) (at_each f (drop (i + 1) ts)))) ∙ (ap (λ (l : List Condition). saturated (x + length l)) (sym (each_at f ts i t d low read)) ∙ e))
  where
    told : (m x n k y : ℕ) → n ≡ k → y ≡ min (x + n) m → min y m ≡ min (x + k) m
    told m x n k y c h = omega (arith, c, h)

pub counts_told : (f : Target → List Condition) (ts : List Target) (i count : ℕ) → length ts ≤ i → saturated (count + length (at_each f (drop i ts))) ≡ saturated (length (at_each f ts)) → is_above kind.Conditions count ≡ is_above kind.Conditions (length (at_each f ts))
counts_told f ts i count low h =
    same_counts count (length (at_each f ts)) (sym (ap (λ n. saturated n) (plus_none count)) ∙ (ap (λ (l : List Target). saturated (count + length (at_each f l))) (sym (at_drop_all (λ (l : List Target). l) ts i low)) ∙ h))
  where
    plus_none : (n : ℕ) → n + 0 ≡ n
    plus_none n = omega arith

pub made_next : (f : Target → List Condition) (t d : Target) (ts : List Target) (i : ℕ) (before after all : List Condition) → after ≡ before ++ f t → get_or ts i d ≡ t → i < length ts → before ++ at_each f (drop i ts) ≡ all → after ++ at_each f (drop (i + 1) ts) ≡ all
made_next f t d ts i before after all e read low h =
    ap (λ (l : List Condition). l ++ at_each f (drop (i + 1) ts)) e ∙ (append_assoc before (f t) (at_each f (drop (i + 1) ts)) ∙ (ap (λ (l : List Condition). before ++ l) (sym (each_at f ts i t d low read)) ∙ h))

pub pushed_next : (before after ds all : List Condition) (d made : Condition) (old : List Condition) → after ≡ before ++ made ∷ [] → made ≡ d → old ≡ d ∷ ds → before ++ old ≡ all → after ++ ds ≡ all
pushed_next before after ds all d made old h m e k =
    ap (λ (l : List Condition). l ++ ds) h ∙ (append_assoc before (made ∷ []) ds ∙ (ap (λ (c : Condition). before ++ c ∷ ds) m ∙ (ap (λ (l : List Condition). before ++ l) (sym e) ∙ k)))
