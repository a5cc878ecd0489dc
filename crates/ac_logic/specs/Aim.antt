-- What a formula aims at: the label of what it has to show in the end.
use Rattle.std.specs.Prelude.{◌≡◌, ◌⊎◌}
use Rattle.ac_logic.specs.declared.label.Label.{Label}
use Rattle.ac_logic.specs.declared.formula.Formula.{Formula}
use Rattle.ac_logic.specs.Patterns.{Conjunction, Implication, Labelled}
use Rattle.ac_logic.specs.Opened.{hidden, formula_shape, formula_child}

-- a label stands on the formula, or on what is left of it behind premises and other labels; both sides of `and` aim alike
abbrev pub AimsAt : Label → Formula → Type 0
unfolding hidden formula_shape formula_child
AimsAt l (Labelled m f) = (m ≡ l) ⊎ AimsAt l f
AimsAt l (Implication f g) = AimsAt l g
AimsAt l (Conjunction f g) = AimsAt l f × AimsAt l g
AimsAt l f = ⊥
