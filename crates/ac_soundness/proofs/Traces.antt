-- Traces without a bad event.
use Rattle.std.proofs.Common.{◌≡◌, List, [], ◌∷◌, ◌++◌, map, sym, ◌∙◌, ap, subst, rules, append_assoc}
use Rattle.ac_run.specs.declared.event.Cell.{Cell}
use Rattle.ac_run.specs.declared.event.Event.{Event}
use Rattle.ac_run.specs.declared.event.Event.TheVariants as event
use Rattle.ac_policy.specs.State.{Shadow}
use Rattle.ac_soundness.specs.NeverBad.{HasBad}
use Rattle.ac_soundness.specs.Readings.{AllFine}
use Rattle.ac_soundness.specs.RunInvariant.{IsClean}

nil : (es : List Event) → es ++ [] ≡ es
nil es = search rules

one_more : (first more : List Event) (e : Event) → (first ++ e ∷ []) ++ more ≡ first ++ (e ∷ more)
one_more first more e = search (rules, append_assoc)

module _ (Bad : List Event → Event → Type 0) where
  clean-snoc : (first trace : List Event) (e : Event) → IsClean Bad first trace → ¬ Bad (first ++ trace) e → IsClean Bad first (trace ++ (e ∷ []))
  clean-snoc first [] e h k = (subst (λ (z : List Event). ¬ Bad z e) (nil first) k, tt)
  clean-snoc first (f ∷ trace) e h k = (h.0, clean-snoc (first ++ f ∷ []) trace e h.1 (subst (λ (z : List Event). ¬ Bad z e) (sym (one_more first trace f)) k))

  pub clean_then : (trace : List Event) (e : Event) → IsClean Bad [] trace → ¬ Bad trace e → IsClean Bad [] (trace ++ (e ∷ []))
  clean_then trace e h k = clean-snoc [] trace e h k

  none_within : (first before : List Event) (e : Event) (after : List Event) → IsClean Bad first (before ++ (e ∷ after)) → Bad (first ++ before) e → ⊥
  none_within first [] e after h k = h.0 (subst (λ (z : List Event). Bad z e) (nil first) k)
  none_within first (f ∷ before) e after h k = none_within (first ++ f ∷ []) before e after h.1 (subst (λ (z : List Event). Bad z e) (sym (one_more first before f)) k)

  pub clean_never : (trace : List Event) → IsClean Bad [] trace → ¬ HasBad Bad trace
  clean_never trace h (before, e, after, same, bad) = none_within [] before e after (subst (λ (z : List Event). IsClean Bad [] z) same h) bad

  -- fine reads add no bad event, and leave the shadow
  module _ (shadow : List Event → Shadow) (reads_leave : (trace : List Event) (c : Cell) → shadow (trace ++ event.Read c ∷ []) ≡ shadow trace) (s : Shadow) where
    pub clean_reads : (trace : List Event) (cs : List Cell) → shadow trace ≡ s → IsClean Bad [] trace → AllFine shadow Bad s cs → IsClean Bad [] (trace ++ map event.Read cs) × (shadow (trace ++ map event.Read cs) ≡ s)
    clean_reads trace [] e h k = (subst (λ (z : List Event). IsClean Bad [] z) (sym (nil trace)) h, ap shadow (nil trace) ∙ e)
    clean_reads trace (c ∷ cs) e h k =
        let next = clean_reads (trace ++ (event.Read c ∷ [])) cs (reads_leave trace c ∙ e) (clean_then trace (event.Read c) h (k.0 trace e)) k.1 in
        let same = one_more trace (map event.Read cs) (event.Read c) in
        (subst (λ (z : List Event). IsClean Bad [] z) same next.0, ap shadow (sym same) ∙ next.1)
