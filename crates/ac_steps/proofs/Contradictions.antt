-- Facts whose differences contradict make a `linear` step.
use Rattle.std.proofs.Common.{◌≡◌, ℕ, suc, ◌+◌, ◌<◌, ◌^◌, ℤ, pos, neg_ℤ, ◌+ℤ◌, ◌-ℤ◌, ◌*ℤ◌, List, [], ◌∷◌, length, map, if◌then◌else◌, Some, option_map, refl, ap, ◌∙◌, arith}
use Rattle.std.specs.Ordering.{int_eq}
use Rattle.std.proofs.lemmas.Int.{ints}
use Rattle.std.proofs.Math.IntN.{zero-*ℤ}
use lib.Signed.{◌<ℤ◌}
use Rattle.ac_logic.specs.declared.formula.Term.{Term}
use Rattle.ac_logic.specs.declared.formula.Term.TheVariants.{Sub}
use Rattle.ac_logic.specs.declared.formula.Formula.{Formula, False, Le}
use Rattle.ac_linear.specs.declared.entry.Entry.{Entry}
use Rattle.ac_linear.specs.declared.range.Range.TheVariants.{Machine}
use Rattle.ac_linear.specs.declared.linear.Linear.{Linear}
use Rattle.ac_linear.specs.declared.linear.Part.{Part}
use Rattle.ac_linear.specs.NormalForm.{within, and_then, normal_of, number_form, plus, put_in, put_all, linear_of}
use Rattle.ac_linear.specs.Combination.{combination_of, combined_with, form_of_linear, entry_of_part}
use Rattle.ac_linear.proofs.Ordered.{normal_ordered, combination_ordered}
use Rattle.ac_diff.specs.declared.diff.Diff.{Diff}
use Rattle.ac_diff.specs.Differences.{difference, side, total}
use Rattle.ac_proof.specs.Linear.{fact, facts, facts_of_step, IsContradiction, IsLinear, next}
use Rattle.ac_steps.specs.Opened.{hidden, formula_shape, formula_child}
use Rattle.ac_steps.specs.FactDifferences.{number_of_parts, IsDifference, Says, Say, Contradict, reversed, once}
use Rattle.ac_steps.proofs.Weights.{constants, weights, combination_weight, no_parts}
use Rattle.ac_steps.proofs.FormWeights.{reversed_weight}
use Rattle.ac_steps.proofs.Widths.{IsNarrow, AllNarrow, normal_narrow, combination_exists}

module _ (sides : ℕ → List Part) where
  abbrev AreDifferences : List Linear → List Diff → Type 0
  AreDifferences [] [] = Unit {0}
  AreDifferences (l ∷ ls) (d ∷ ds) = IsDifference sides l d × AreDifferences ls ds
  AreDifferences ls ds = ⊥

  weights_are : (g : Term → ℤ) (ls : List Linear) (ds : List Diff) → AreDifferences ls ds → weights g ls ≡ total (difference (λ k. number_of_parts g (sides k))) ds
  weights_are g [] [] h = refl
  weights_are g (l ∷ ls) (d ∷ ds) h = λ i. h.0.parts g i +ℤ weights_are g ls ds h.1 i
  weights_are g [] (d ∷ ds) h = absurd h
  weights_are g (l ∷ ls) [] h = absurd h

  sum_next : (c b s t : ℤ) → c ≡ neg_ℤ b → s ≡ neg_ℤ t → c +ℤ s ≡ neg_ℤ (b +ℤ t)
  sum_next c b s t h k = omega (arith, ints)

  constants_are : (ls : List Linear) (ds : List Diff) → AreDifferences ls ds → constants ls ≡ neg_ℤ (total (λ d. d.bound) ds)
  constants_are [] [] h = refl
  constants_are (l ∷ ls) (d ∷ ds) h = sum_next l.constant d.bound (constants ls) (total (λ d. d.bound) ds) h.0.constant (constants_are ls ds h.1)
  constants_are [] (d ∷ ds) h = absurd h
  constants_are (l ∷ ls) [] h = absurd h

  above : (c t : ℤ) → c ≡ neg_ℤ t → t <ℤ pos 0 → pos 0 <ℤ c
  above c t h k = omega (arith, ints)

  contradicts : (ls : List Linear) (ds : List Diff) → AreDifferences ls ds → Contradict ds → (sum : Linear) → combination_of ls (once ls) ≡ Some sum → IsContradiction sum
  contradicts ls ds h c sum e =
      let w : (g : Term → ℤ) → number_of_parts g sum.parts ≡ pos 0 = (λ g. (combination_weight g ls sum e).1 ∙ (weights_are g ls ds h ∙ c.cancel (λ k. number_of_parts g (sides k)))) in
      let k : sum.constant ≡ neg_ℤ (total (λ d. d.bound) ds) = (combination_weight (λ t. pos 0) ls sum e).0 ∙ constants_are ls ds h in
      (no_parts sum.parts (combination_ordered ls (once ls) sum e) w, above sum.constant (total (λ d. d.bound) ds) k c.below)

  -- the forms of facts that say differences
  fact_form : (f : Formula) (l : Linear) → fact f ≡ Some l → (t : Term) × (normal_of t ≡ Some l)
  unfolding hidden formula_shape formula_child
  fact_form (Le u v) l e = (Sub u v, e)
  fact_form f l e = cc

  fact_narrow : (f : Formula) (l : Linear) → fact f ≡ Some l → IsNarrow l
  fact_narrow f l e = let t = fact_form f l e in normal_narrow t.0 l t.1 (normal_ordered t.0 l t.1)

  pub record Forms (fs : List Formula) (ds : List Diff) : Type 0 where
    pub forms : List Linear
    pub are : facts fs ≡ Some forms
    pub same : length forms ≡ length fs
    pub factors : once fs ≡ once forms
    pub differences : AreDifferences forms ds
    pub narrow : AllNarrow forms

  forms_of : (fs : List Formula) (ds : List Diff) → Say sides fs ds → Forms fs ds
  forms_of [] [] h = record { forms = []; are = refl; same = refl; factors = refl; differences = tt; narrow = tt }
  forms_of (f ∷ fs) (d ∷ ds) h =
      let rest = forms_of fs ds h.1 in
      let l : Linear = h.0.0 in
      record {
        forms = l ∷ rest.forms;
        are = ap (λ o. and_then o (λ m. option_map (λ ls. m ∷ ls) (facts fs))) h.0.1 ∙ ap (option_map (λ ls. l ∷ ls)) rest.are;
        same = ap suc rest.same;
        factors = ap (λ ks. 1 ∷ ks) rest.factors;
        differences = (h.0.2, rest.differences);
        narrow = (fact_narrow f l h.0.1, rest.narrow);
      }
  forms_of [] (d ∷ ds) h = absurd h
  forms_of (f ∷ fs) [] h = absurd h

  once_length : (ls : List Linear) → length (once ls) ≡ length ls
  once_length [] = refl
  once_length (l ∷ ls) = ap suc (once_length ls)

  -- the step, where its facts are these
  step_of : (g : Formula) (ps fs : List Formula) (ds : List Diff) → facts_of_step g ps ≡ facts fs → Say sides fs ds → Contradict ds → length fs < 2 ^ 64 → IsLinear (once fs) g ps
  step_of g ps fs ds e h c n =
      let x = forms_of fs ds h in
      let sum = combination_exists x.forms x.narrow (omega (arith, x.same)) in
      (x.forms, sum.0, e ∙ x.are, ap length x.factors ∙ once_length x.forms, ap (combination_of x.forms) x.factors ∙ sum.1, contradicts x.forms ds x.differences c sum.0 sum.1)

  pub false_step : (fs : List Formula) (ds : List Diff) → Say sides fs ds → Contradict ds → length fs < 2 ^ 64 → IsLinear (once fs) False fs
  unfolding hidden formula_shape formula_child
  false_step fs ds h c n = step_of False fs fs ds refl h c n

  pub goal_step : (s t : Term) (fs : List Formula) (ds : List Diff) → Say sides (Le (next t) s ∷ fs) ds → Contradict ds → length fs + 1 < 2 ^ 64 → IsLinear (once (Le (next t) s ∷ fs)) (Le s t) fs
  unfolding hidden formula_shape formula_child
  goal_step s t fs ds h c n = step_of (Le s t) fs (Le (next t) s ∷ fs) ds refl h c (omega arith)

  -- ---- a denial that is not used

  none_put : (ps : List Entry) (qs : List Part) → put_all Machine ps (pos 0) (map entry_of_part qs) ≡ Some ps
  none_put ps [] = refl
  none_put ps (q ∷ qs) =
      let z : pos 0 *ℤ q.factor ≡ pos 0 = zero-*ℤ q.factor in
      ap (λ n. and_then (and_then (within Machine n) (λ f. if int_eq f (pos 0) then Some ps else put_in Machine (record (entry_of_part q) { factor = f }) ps)) (λ more. put_all Machine more (pos 0) (map entry_of_part qs))) z ∙ none_put ps qs

  none_added : (l : Linear) → plus Machine (number_form (pos 0)) (pos 0) (form_of_linear l) ≡ Some (number_form (pos 0))
  none_added l =
      let z : pos 0 *ℤ l.constant ≡ pos 0 = zero-*ℤ l.constant in
      ap (λ n. and_then (within Machine n) (λ m. and_then (within Machine (pos 0 +ℤ m)) (λ k. option_map (λ es. record { constant = k; entries = es }) (put_all Machine [] (pos 0) (map entry_of_part l.parts))))) z
      ∙ ap (option_map (λ es. record { constant = pos 0; entries = es })) (none_put [] l.parts)

  unused : (l : Linear) (ls : List Linear) (ks : List ℕ) → combination_of (l ∷ ls) (0 ∷ ks) ≡ combination_of ls ks
  unused l ls ks = ap (λ o. option_map linear_of (and_then o (λ y. combined_with y ls ks))) (none_added l)

  pub unused_step : (s t : Term) (l : Linear) (fs : List Formula) (ds : List Diff) → normal_of (Sub (next t) s) ≡ Some l → Say sides fs ds → Contradict ds → length fs < 2 ^ 64 → IsLinear (0 ∷ once fs) (Le s t) fs
  unfolding hidden formula_shape formula_child
  unused_step s t l fs ds e h c n =
      let x = false_step fs ds h c n in
      (l ∷ x.0, x.1, ap (λ o. and_then o (λ m. option_map (λ ls. m ∷ ls) (facts fs))) e ∙ ap (option_map (λ ls. l ∷ ls)) x.2, ap suc x.3, unused l x.0 (once fs) ∙ x.4, x.5)

  -- ---- a difference the other way

  turned_bound : (c b m : ℤ) → c ≡ neg_ℤ b → m ≡ pos 1 -ℤ c → m ≡ neg_ℤ (neg_ℤ b -ℤ pos 1)
  turned_bound c b m h k = omega (arith, ints)

  turned_sides : (w v p m : ℤ) → w ≡ p -ℤ m → v ≡ neg_ℤ w → v ≡ m -ℤ p
  turned_sides w v p m h k = omega (arith, ints)

  pub reversed_says : (u v : Term) (d : Diff) (m : Linear) → Says sides (Le u v) d → normal_of (Sub (next v) u) ≡ Some m → Says sides (Le (next v) u) (reversed d)
  unfolding hidden formula_shape formula_child
  reversed_says u v d m h e =
      let l : Linear = h.0 in (
        m,
        e,
        record {
          constant = turned_bound l.constant d.bound m.constant h.2.constant (reversed_weight (λ t. pos 0) u v l m h.1 e).0;
          parts = λ g. turned_sides (number_of_parts g l.parts) (number_of_parts g m.parts) (side (λ k. number_of_parts g (sides k)) d.plus) (side (λ k. number_of_parts g (sides k)) d.minus) (h.2.parts g) (reversed_weight g u v l m h.1 e).1;
        },
      )
