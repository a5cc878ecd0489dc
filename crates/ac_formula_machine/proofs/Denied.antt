-- One more `not` outside is one more inside.
use Rattle.std.proofs.Common.{◌≡◌, ℕ, zero, suc, ◌+◌, refl, ◌∙◌, ap, arith}
use Rattle.ac_logic.specs.declared.formula.Formula.{Formula}
use Rattle.ac_logic.specs.Patterns.{Negation}
use Rattle.ac_formula_machine.specs.FormulaMachine.{denied}
use Rattle.ac_formula_machine.specs.Opened.{hidden, formula_shape, formula_child}

denied_outside : (n : ℕ) (f : Formula) → Negation (denied n f) ≡ denied (suc n) f
denied_outside zero f = refl
denied_outside (suc n) f = denied_outside n (Negation f)

pub denied_more : (n : ℕ) (f : Formula) → Negation (denied n f) ≡ denied (n + 1) f
denied_more n f = let e : suc n ≡ n + 1 = omega arith in denied_outside n f ∙ ap (λ k. denied k f) e
