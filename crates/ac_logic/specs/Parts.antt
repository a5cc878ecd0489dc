-- The parts of a formula, each with the number of `all` around it.
use Rattle.std.specs.Prelude.{ℕ, ◌+◌}
use Rattle.ac_logic.specs.declared.label.Label.{Label}
use Rattle.ac_logic.specs.declared.formula.Formula.{Formula}
use Rattle.ac_logic.specs.Patterns.{Negation, Conjunction, Disjunction, Implication, Every, Labelled}

-- `IsPart d f e g`: inside d `all` stands f, and in it, inside e `all` in all, stands g
pub data IsPart : ℕ → Formula → ℕ → Formula → Type 0 where
  itself : {d : ℕ} {f : Formula} → IsPart d f d f
  negated : {d e : ℕ} {f g : Formula} → IsPart d f e g → IsPart d (Negation f) e g
  left_of_and : {d e : ℕ} {f g : Formula} (h : Formula) → IsPart d f e g → IsPart d (Conjunction f h) e g
  right_of_and : {d e : ℕ} {h g : Formula} (f : Formula) → IsPart d h e g → IsPart d (Conjunction f h) e g
  left_of_or : {d e : ℕ} {f g : Formula} (h : Formula) → IsPart d f e g → IsPart d (Disjunction f h) e g
  right_of_or : {d e : ℕ} {h g : Formula} (f : Formula) → IsPart d h e g → IsPart d (Disjunction f h) e g
  premise : {d e : ℕ} {f g : Formula} (h : Formula) → IsPart d f e g → IsPart d (Implication f h) e g
  conclusion : {d e : ℕ} {h g : Formula} (f : Formula) → IsPart d h e g → IsPart d (Implication f h) e g
  body : {d e : ℕ} {f g : Formula} → IsPart (d + 1) f e g → IsPart d (Every f) e g
  labelled : {d e : ℕ} {f g : Formula} (l : Label) → IsPart d f e g → IsPart d (Labelled l f) e g
