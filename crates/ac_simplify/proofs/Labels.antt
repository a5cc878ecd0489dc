-- A rewrite brings no label.
use Rattle.std.proofs.Common.{ℕ, List, [], ◌∷◌, ◌++◌, Bool, true, false, inl, inr, int_le, arith}
use Rattle.std.specs.Ordering.{int_eq}
use Rattle.std.specs.List.{Contains}
use Rattle.std.proofs.lemmas.List.Elements.{Contains-append_left, Contains-append_right, Contains-append_cases}
use Rattle.ac_logic.specs.declared.formula.Formula.{Formula}
use Rattle.ac_logic.specs.declared.label.Label.{Label}
use Rattle.ac_logic.specs.Labels.{labels_of}
use Rattle.ac_simplify.specs.declared.rule.RewriteRule.{RewriteRule}
use Rattle.ac_simplify.specs.declared.rewrite.Rewrite.{Rewrite}
use Rattle.ac_simplify.specs.Rewriting as rewriting
use Rattle.ac_simplify.specs.Rewriting.{truth, Applies, AppliesAt, Replays}
use Rattle.ac_simplify.specs.Opened.{hidden, formula_shape, formula_child}

-- each label of the first list is one of the second
abbrev Within : List Label → List Label → Type 0
Within xs ys = (l : Label) → Contains xs l → Contains ys l

nothing : (l : Label) → Contains [] l → ⊥
nothing l (k, h, e) = absurd (omega arith)

both_within : (xs ys us vs : List Label) → Within xs us → Within ys vs → Within (xs ++ ys) (us ++ vs)
both_within xs ys us vs p q l c =
    elim (Contains-append_cases xs ys l c) [
      | inl h ↦ Contains-append_left us vs l (p l h)
      | inr h ↦ Contains-append_right us vs l (q l h)
    ]

truth_within : (b : Bool) (ys : List Label) → Within (labels_of (truth b)) ys
unfolding hidden formula_shape formula_child
truth_within true ys l c = absurd (nothing l c)
truth_within false ys l c = absurd (nothing l c)

labels_within : {r : RewriteRule} {a b : Formula} → Applies r a b → Within (labels_of b) (labels_of a)
unfolding hidden formula_shape formula_child
labels_within (rewriting.true_and x) l c = c
labels_within (rewriting.and_true x) l c = Contains-append_left (labels_of x) [] l c
labels_within (rewriting.false_and x) l c = absurd (nothing l c)
labels_within (rewriting.and_false x) l c = absurd (nothing l c)
labels_within (rewriting.true_or x) l c = absurd (nothing l c)
labels_within (rewriting.or_true x) l c = absurd (nothing l c)
labels_within (rewriting.false_or x) l c = c
labels_within (rewriting.or_false x) l c = Contains-append_left (labels_of x) [] l c
labels_within (rewriting.true_implies x) l c = c
labels_within (rewriting.false_implies x) l c = absurd (nothing l c)
labels_within (rewriting.implies_true x) l c = absurd (nothing l c)
labels_within rewriting.not_true l c = absurd (nothing l c)
labels_within rewriting.not_false l c = absurd (nothing l c)
labels_within (rewriting.compared m n) l c = truth_within (int_le m n) [] l c
labels_within (rewriting.equated m n) l c = truth_within (int_eq m n) [] l c
labels_within (rewriting.labelled_true m) l c = absurd (nothing l c)
labels_within rewriting.every_true l c = absurd (nothing l c)

labels_within_at : {p : List ℕ} {r : RewriteRule} {a b : Formula} → AppliesAt p r a b → Within (labels_of b) (labels_of a)
unfolding hidden formula_shape formula_child
labels_within_at (rewriting.at_root d) = labels_within d
labels_within_at (rewriting.in_negation d) = labels_within_at d
labels_within_at (rewriting.in_conjunction_left {a = a} {b = b} c d) = both_within (labels_of b) (labels_of c) (labels_of a) (labels_of c) (labels_within_at d) (λ l k. k)
labels_within_at (rewriting.in_conjunction_right {a = a} {b = b} c d) = both_within (labels_of c) (labels_of b) (labels_of c) (labels_of a) (λ l k. k) (labels_within_at d)
labels_within_at (rewriting.in_disjunction_left {a = a} {b = b} c d) = both_within (labels_of b) (labels_of c) (labels_of a) (labels_of c) (labels_within_at d) (λ l k. k)
labels_within_at (rewriting.in_disjunction_right {a = a} {b = b} c d) = both_within (labels_of c) (labels_of b) (labels_of c) (labels_of a) (λ l k. k) (labels_within_at d)
labels_within_at (rewriting.in_implication_left {a = a} {b = b} c d) = both_within (labels_of b) (labels_of c) (labels_of a) (labels_of c) (labels_within_at d) (λ l k. k)
labels_within_at (rewriting.in_implication_right {a = a} {b = b} c d) = both_within (labels_of c) (labels_of b) (labels_of c) (labels_of a) (λ l k. k) (labels_within_at d)
labels_within_at (rewriting.in_every d) = labels_within_at d
labels_within_at (rewriting.in_label {a = a} {b = b} m d) = both_within (m ∷ []) (labels_of b) (m ∷ []) (labels_of a) (λ l k. k) (labels_within_at d)

pub labels_after : {ws : List Rewrite} {a b : Formula} → Replays ws a b → (l : Label) → Contains (labels_of b) l → Contains (labels_of a) l
labels_after rewriting.done l c = c
labels_after (rewriting.then s d) l c = labels_within_at s l (labels_after d l c)
