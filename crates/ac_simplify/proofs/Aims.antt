-- Where a formula aims at a label, the simplified formula aims at it or is `true`.
use Rattle.std.proofs.Common.{◌≡◌, ℕ, List, refl, ◌⊎◌, inl, inr}
use Rattle.ac_logic.specs.declared.formula.Formula.{Formula, True}
use Rattle.ac_logic.specs.declared.label.Label.{Label}
use Rattle.ac_logic.specs.Patterns.{Conjunction, Implication, Labelled}
use Rattle.ac_logic.specs.Aim.{AimsAt}
use Rattle.ac_simplify.specs.declared.rule.RewriteRule.{RewriteRule}
use Rattle.ac_simplify.specs.declared.rule.RewriteRule.TheVariants.{TrueAnd, AndTrue, ImpliesTrue, LabelledTrue}
use Rattle.ac_simplify.specs.declared.rewrite.Rewrite.{Rewrite}
use Rattle.ac_simplify.specs.Rewriting as rewriting
use Rattle.ac_simplify.specs.Rewriting.{Applies, AppliesAt, Replays, NoneApplies, IsSimple}
use Rattle.ac_simplify.specs.Opened.{hidden, formula_shape, formula_child}

module _ (l : Label) where
  -- aims at the label, or would if some of its `true` were not there
  abbrev pub Serves : Formula → Type 0
  unfolding hidden formula_shape formula_child
  Serves True = Unit {0}
  Serves (Labelled m f) = (m ≡ l) ⊎ Serves f
  Serves (Implication f g) = Serves g
  Serves (Conjunction f g) = Serves f × Serves g
  Serves f = ⊥

  serves_aim : (f : Formula) → AimsAt l f → Serves f
  unfolding hidden formula_shape formula_child
  serves_aim (Labelled m f) (inl e) = inl e
  serves_aim (Labelled m f) (inr a) = inr (serves_aim f a)
  serves_aim (Implication f g) a = serves_aim g a
  serves_aim (Conjunction f g) a = (serves_aim f a.0, serves_aim g a.1)
  serves_aim _ a = absurd a

  served : {r : RewriteRule} {a b : Formula} → Applies r a b → Serves a → Serves b
  unfolding hidden formula_shape formula_child
  served (rewriting.true_and x) s = s.1
  served (rewriting.and_true x) s = s.0
  served (rewriting.false_and x) s = s.0
  served (rewriting.and_false x) s = s.1
  served (rewriting.true_implies x) s = s
  served (rewriting.false_implies x) s = tt
  served (rewriting.implies_true x) s = tt
  served (rewriting.labelled_true m) s = tt
  served (rewriting.true_or x) s = absurd s
  served (rewriting.or_true x) s = absurd s
  served (rewriting.false_or x) s = absurd s
  served (rewriting.or_false x) s = absurd s
  served rewriting.not_true s = absurd s
  served rewriting.not_false s = absurd s
  served (rewriting.compared m n) s = absurd s
  served (rewriting.equated m n) s = absurd s
  served rewriting.every_true s = absurd s

  served_at : {p : List ℕ} {r : RewriteRule} {a b : Formula} → AppliesAt p r a b → Serves a → Serves b
  unfolding hidden formula_shape formula_child
  served_at (rewriting.at_root d) s = served d s
  served_at (rewriting.in_negation d) s = absurd s
  served_at (rewriting.in_conjunction_left c d) s = (served_at d s.0, s.1)
  served_at (rewriting.in_conjunction_right c d) s = (s.0, served_at d s.1)
  served_at (rewriting.in_disjunction_left c d) s = absurd s
  served_at (rewriting.in_disjunction_right c d) s = absurd s
  served_at (rewriting.in_implication_left c d) s = s
  served_at (rewriting.in_implication_right c d) s = served_at d s
  served_at (rewriting.in_every d) s = absurd s
  served_at (rewriting.in_label m d) s = elim s [ inl e ↦ inl e | inr t ↦ inr (served_at d t) ]

  serves_after : {w : List Rewrite} {a b : Formula} → Replays w a b → Serves a → Serves b
  serves_after rewriting.done s = s
  serves_after (rewriting.then d e) s = serves_after e (served_at d s)

  -- what serves and has no `true` left to drop aims at the label, or is `true`
  aimed_conjunction : (a b : Formula) → NoneApplies (Conjunction a b) → (AimsAt l a ⊎ (a ≡ True)) → (AimsAt l b ⊎ (b ≡ True)) → AimsAt l (Conjunction a b) ⊎ (Conjunction a b ≡ True)
  unfolding hidden formula_shape formula_child
  aimed_conjunction a b n (inl p) (inl q) = inl (p, q)
  aimed_conjunction a b n (inr e) q = absurd (n TrueAnd b (rw e (rewriting.true_and b)))
  aimed_conjunction a b n p (inr e) = absurd (n AndTrue a (rw e (rewriting.and_true a)))

  aimed_implication : (a b : Formula) → NoneApplies (Implication a b) → (AimsAt l b ⊎ (b ≡ True)) → AimsAt l (Implication a b) ⊎ (Implication a b ≡ True)
  unfolding hidden formula_shape formula_child
  aimed_implication a b n (inl p) = inl p
  aimed_implication a b n (inr e) = absurd (n ImpliesTrue True (rw e (rewriting.implies_true a)))

  aimed_label : (m : Label) (a : Formula) → NoneApplies (Labelled m a) → (AimsAt l a ⊎ (a ≡ True)) → AimsAt l (Labelled m a) ⊎ (Labelled m a ≡ True)
  unfolding hidden formula_shape formula_child
  aimed_label m a n (inl p) = inl (inr p)
  aimed_label m a n (inr e) = absurd (n LabelledTrue True (rw e (rewriting.labelled_true m)))

  aimed : (a : Formula) → IsSimple a → Serves a → AimsAt l a ⊎ (a ≡ True)
  unfolding hidden formula_shape formula_child
  aimed True n s = inr refl
  aimed (Labelled m f) n (inl e) = inl (inl e)
  aimed (Labelled m f) n (inr s) = aimed_label m f n.0 (aimed f n.1 s)
  aimed (Implication f g) n s = aimed_implication f g n.0 (aimed g n.2 s)
  aimed (Conjunction f g) n s = aimed_conjunction f g n.0 (aimed f n.1 s.0) (aimed g n.2 s.1)
  aimed _ n s = absurd s

  pub aims_after : {w : List Rewrite} {a b : Formula} → Replays w a b → IsSimple b → AimsAt l a → AimsAt l b ⊎ (b ≡ True)
  aims_after {a = a} {b = b} d n s = aimed b n (serves_after d (serves_aim a s))
