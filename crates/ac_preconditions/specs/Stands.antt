-- Whether what was made along a path stands for a formula, where there is one.
use Rattle.std.specs.Prelude.{Option, Some, None}
use Rattle.ac_logic.specs.declared.formula.Formula.{Formula}

-- both are there, and one stands for the other, or there is neither
abbrev pub StandsIf : {G : Type 0} → (G → Formula → Type 0) → Option G → Option Formula → Type 0
StandsIf stands None None = Unit {0}
StandsIf stands None (Some f) = ⊥
StandsIf stands (Some g) None = ⊥
StandsIf stands (Some g) (Some f) = stands g f
