-- What a substitution gives holds where the formula holds with the symbols changed.
use Rattle.std.proofs.Common.{◌≡◌, ◌↔◌, List, [], Option, ◌∙◌, ap}
use Rattle.ac_logic.specs.declared.formula.Change.{Change}
use Rattle.ac_logic.specs.declared.formula.Formula.{Formula}
use Rattle.ac_logic.specs.Answer.{renewed}
use Rattle.ac_logic.specs.Meaning.{Valuation, HoldsIn, Holds}
use Rattle.ac_logic.specs.Substitution.{AreClosedChanges, formula_after, changed}
use Rattle.ac_logic.proofs.Types.{both}
use Rattle.ac_logic.proofs.Changes.{holds_after}

pub renewed_holds : (cs : List Change) → AreClosedChanges cs → (f g after : Formula) (new : Option Formula) → g ≡ f → renewed g new ≡ formula_after cs g → after ≡ renewed f new → (w : Valuation) → Holds w after ↔ Holds (changed w cs) f
renewed_holds cs h f g after new e p q w =
    let r : renewed f new ≡ formula_after cs f = rw e at p in
    both (ap (HoldsIn w []) (q ∙ r) ∙ holds_after cs h w [] f)
