-- The laws of bounds.
-- It serves the proofs of the laws: no promise rests on it.
use Rattle.std.proofs.Common.{◌≡◌, ℕ, ℤ, pos, ◌+ℤ◌, ◌≤ℤ◌, int_le, int_lt, List, [], Bool, true, false, ◌&&◌, refl, sym, ◌∙◌, subst, rules, arith}
use Rattle.std.proofs.lemmas.Bool.{true≢false}
use Rattle.std.proofs.lemmas.Int.{ints}
use Rattle.ac_tree.specs.declared.program.Program.{Program}
use Rattle.ac_tree.specs.declared.policy.PolicyName.TheVariants.{Bounds}
use Rattle.ac_run.specs.declared.start.Start.{Start}
use Rattle.ac_run.specs.declared.event.Event.{Event}
use Rattle.ac_run.specs.Declarations.{NameBytes, Shape, Scalar, Vector, Matrix, kind_of, shape}
use Rattle.ac_run.specs.Memory.{Memory, is_within, is_below, is_missing}
use Rattle.ac_run.specs.Violation.{Bad}
use Rattle.ac_logic.specs.declared.formula.Term.{Term}
use Rattle.ac_logic.specs.Meaning.{value, Holds}
use Rattle.ac_policy.specs.declared.site.Site.{Site}
use Rattle.ac_policy.specs.declared.site.SiteKind.{SiteKind}
use Rattle.ac_policy.specs.declared.site.SiteKind.TheVariants as kind
use Rattle.ac_policy.specs.State.{Shadow, IsScalar, Kept, state}
use Rattle.ac_policy.specs.Laws.{LawForm, LawEffect, LawNeed, LawKnown, LawFor, HoldsIf, IsPlainIf, IsPlainSite, IsIndexed, HasIndexesOf, EventOf, cell_of}
use Rattle.ac_policy.specs.declared.extents.ExtentTerms.{ExtentTerms}
use Rattle.ac_policy.specs.declared.extents.ExtentTerms.TheVariants.{NoExtent, OneExtent, TwoExtents}
use Rattle.ac_policy.specs.Extents.{index_within, indexes_within, extent_terms}
use Rattle.ac_policy.specs.GoodExtents.{HasGoodExtents}
use Rattle.ac_policy.specs.ExtentValues.{ExtentsAre, extents_are}
use Rattle.ac_policy.specs.Bounds.{bounds_need, bounds_need_by_kind}
use Rattle.ac_policy.specs.WithoutShadow.{no_shadow, no_effect, nothing_known}
use Rattle.ac_policy.specs.PlainLaws.{extents_ground, within_plain}
use Rattle.ac_policy.specs.Opened.{hidden, term_shape, term_child, array_shape, array_child, formula_shape, formula_child}

pub form : (p : Program) → LawForm (bounds_need p) (no_effect p) nothing_known
form p = record { changes = λ s h. tt; different = λ s. tt; needs = λ s h. by s h s.kind; knows = λ x. tt }
  where
    by : (s : Site) → IsPlainSite s → (k : SiteKind) → IsPlainIf (bounds_need_by_kind k p s)
    by s h kind.Read = within_plain (extent_terms p s.name) s.i s.j (extents_ground p (kind_of p s.name)) h.first h.second
    by s h kind.Write = within_plain (extent_terms p s.name) s.i s.j (extents_ground p (kind_of p s.name)) h.first h.second
    by s h (kind.Hand role) = tt

pub effects : (p : Program) (start : Start) → LawEffect p start no_shadow (no_effect p)
unfolding hidden term_shape term_child array_shape array_child
effects p start = record {
  write = λ m trace s n k h. record { numbers = λ x. refl; tables = λ x. refl };
  read = λ trace c. refl;
  hand = λ trace x role numbers. refl;
}

pub known : (p : Program) (start : Start) → LawKnown p start no_shadow nothing_known
known p start = record { written = λ m trace x n h. tt; later = λ m k trace e x h. tt }

pub below : (i : ℤ) (n : ℕ) → pos 0 ≤ℤ i → (i +ℤ pos 1) ≤ℤ pos n → is_below i n ≡ true
below i n h k = by (int_le (pos 0) i) (int_lt i (pos n)) refl refl
  where
    by : (a b : Bool) → int_le (pos 0) i ≡ a → int_lt i (pos n) ≡ b → (a && b) ≡ true
    by true true e f = refl
    by false b e f = let g : ¬ (pos 0 ≤ℤ i) = search rules in absurd (g h)
    by true false e f = let g : pos n ≤ℤ i = search rules in absurd (omega (arith, ints))

both_true : (a b : Bool) → a ≡ true → b ≡ true → (a && b) ≡ true
both_true a b e f = λ t. e t && f t

module _ (p : Program) (start : Start) (m : Memory) (s : Shadow) (kept : Kept p start m) where
  within_index : (i e : Term) (n : ℕ) → ((env : List ℤ) → value (state p start m s) env e ≡ pos n) → Holds (state p start m s) (index_within i e) → is_below (value (state p start m s) [] i) n ≡ true
  unfolding hidden term_shape term_child formula_shape formula_child
  within_index i e n q h = below (value (state p start m s) [] i) n h.0 (subst (λ (z : ℤ). (value (state p start m s) [] i +ℤ pos 1) ≤ℤ z) (q []) h.1)

  within : (z : ExtentTerms) (k : Shape) (i j : Term) → ExtentsAre p start m s kept z k → HasIndexesOf k i j → HoldsIf (state p start m s) (indexes_within z i j) →
      is_within k (value (state p start m s) [] i) (value (state p start m s) [] j) ≡ true
  unfolding hidden term_shape term_child formula_shape formula_child
  within NoExtent Scalar i j q x h = λ t. is_missing (value (state p start m s) [] (x.0 t)) && is_missing (value (state p start m s) [] (x.1 t))
  within (OneExtent e) (Vector n) i j q x h = both_true (is_below (value (state p start m s) [] i) n) (is_missing (value (state p start m s) [] j)) (within_index i e n q h) (λ t. is_missing (value (state p start m s) [] (x t)))
  within (TwoExtents e f) (Matrix n k) i j q x h = both_true (is_below (value (state p start m s) [] i) n) (is_below (value (state p start m s) [] j) k) (within_index i e n q.0 h.0) (within_index j f k q.1 h.1)
  within NoExtent (Vector n) i j q x h = absurd q
  within NoExtent (Matrix n k) i j q x h = absurd q
  within (OneExtent e) Scalar i j q x h = absurd q
  within (OneExtent e) (Matrix n k) i j q x h = absurd q
  within (TwoExtents e f) Scalar i j q x h = absurd q
  within (TwoExtents e f) (Vector n) i j q x h = absurd q

  needs_by : (good : HasGoodExtents p start) (roles : List NameBytes) (at : Site) (k : SiteKind) (trace : List Event) (e : Event) → IsIndexed p start at → HoldsIf (state p start m s) (bounds_need_by_kind k p at) →
      EventOf p start k (cell_of (state p start m s) at) at.name m e → ¬ Bad p start roles Bounds trace e
  unfolding hidden term_shape term_child formula_shape formula_child
  needs_by good roles at kind.Read trace e pr h ev bad =
      let inside = within (extent_terms p at.name) (shape p start at.name) at.i at.j (extents_are p start m s kept (kind_of p at.name) (good at.name)) pr h in
      true≢false (sym inside ∙ subst (λ (z : Event). Bad p start roles Bounds trace z) ev bad)
  needs_by good roles at kind.Write trace e pr h ev bad =
      let inside = within (extent_terms p at.name) (shape p start at.name) at.i at.j (extents_are p start m s kept (kind_of p at.name) (good at.name)) pr h in
      true≢false (sym inside ∙ subst (λ (z : Event). Bad p start roles Bounds trace z) ev.1 bad)
  needs_by good roles at (kind.Hand role) trace e pr h ev bad = subst (λ (z : Event). Bad p start roles Bounds trace z) ev bad

pub needs : (p : Program) (start : Start) (roles : List NameBytes) → HasGoodExtents p start → LawNeed p start no_shadow (Bad p start roles Bounds) (bounds_need p)
unfolding hidden term_shape term_child array_shape array_child formula_shape formula_child
needs p start roles good m trace s e kept proper h at = needs_by p start m (no_shadow trace) kept good roles s s.kind trace e proper h at

scalar_inside : (k : Shape) → IsScalar k → is_within k (pos 0) (pos 0) ≡ true
scalar_inside Scalar h = refl
scalar_inside (Vector n) h = absurd h
scalar_inside (Matrix n k) h = absurd h

pub for_write : (p : Program) (start : Start) (roles : List NameBytes) → LawFor p start (Bad p start roles Bounds)
for_write p start roles trace x n h bad = true≢false (sym (scalar_inside (shape p start x) h) ∙ bad)
