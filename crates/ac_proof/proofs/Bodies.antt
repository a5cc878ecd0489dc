-- The body of a lone `all`.
use Rattle.std.proofs.Common.{◌≡◌, List, [], ◌∷◌, sym, ◌∙◌, ap}
use Rattle.ac_logic.specs.declared.formula.Formula.{Formula}
use Rattle.ac_logic.specs.declared.formula.Formula.TheVariants.{All}
use Rattle.ac_logic.specs.Patterns.{Every}
use Rattle.ac_proof.specs.Opened.{hidden, formula_shape, formula_child}

abbrev body : List Formula → Formula → Formula
unfolding hidden formula_shape formula_child
body (Every a ∷ ps) d = a
body _ d = d

pub all_one : (a b : Formula) (ps : List Formula) → ps ≡ All a ∷ [] → ps ≡ All b ∷ [] → a ≡ b
unfolding hidden formula_shape formula_child
all_one a b ps p q = ap (λ l. body l a) (sym p ∙ q)
