-- The whole formula: its ground form, and a count that is below the limit.
use Rattle.std.proofs.Common.{◌≡◌, ◌∙◌, ℕ, ◌<◌, ◌≤◌, min, length, List, [], reverse, Option, true, false, sym, ap, arith}
use Rattle.ac_logic.specs.declared.formula.Term.{Term}
use Rattle.ac_logic.specs.declared.formula.Formula.{Formula}
use Rattle.ac_logic.specs.Answer.{renewed}
use Rattle.ac_logic.specs.Size.{saturated}
use Rattle.ac_expand.specs.Ground.{ground_form, made}
use Rattle.ac_expand.specs.Index.{index_terms, shown_count}
use Rattle.ac_expand.specs.Instances.{instances, instances_of}

pub form_of : (f f2 : Formula) (new : Option Formula) (ts b : List Term) (k : ℕ) (r : Formula) → f2 ≡ f → b ≡ [] → ts ≡ index_terms f → k ≡ shown_count true f → renewed f2 new ≡ (made ts true false (reverse b) f2 (record { outer = 0; inner = k })).0 → r ≡ renewed f new → r ≡ ground_form f
form_of f f2 new ts b k r p q u v h s = s ∙ ((λ z. renewed (sym p z) new) ∙ (h ∙ λ z. (made (u z) true false (reverse (q z)) (p z) (record { outer = 0; inner = v z })).0))

exact : (m x : ℕ) → x ≡ min m 18446744073709551615 → x ≤ 4096 → x ≡ m
exact m x h k = omega arith

-- a count that is no larger than the limit is the number of instances
pub counted : (f f2 : Formula) (ts : List Term) (n x : ℕ) → f2 ≡ f → ts ≡ index_terms f → n ≡ length ts → x ≡ saturated (instances n true f2) → x ≤ 4096 → x ≡ instances_of f
counted f f2 ts n x p q r h k = exact _ x h k ∙ λ z. instances ((r ∙ ap length q) z) true (p z)

above : (m x : ℕ) → x ≡ min m 18446744073709551615 → 4096 < x → 4096 < m
above m x h k = omega arith

pub counted_above : (f f2 : Formula) (ts : List Term) (n x : ℕ) → f2 ≡ f → ts ≡ index_terms f → n ≡ length ts → x ≡ saturated (instances n true f2) → 4096 < x → 4096 < instances_of f
counted_above f f2 ts n x p q r h k = let e : instances n true f2 ≡ instances_of f = λ z. instances ((r ∙ ap length q) z) true (p z) in rw (sym e) (above _ x h k)
