-- Hypotheses, each implying the next: those of two lists, and those of the rest of a list.
use Rattle.std.proofs.Common.{◌≡◌, ℕ, ◌+◌, ◌<◌, List, [], ◌∷◌, ◌++◌, ap, refl, sym, ◌∙◌, drop, length, get_or}
use Rattle.std.proofs.lemmas.List.{drop_more}
use Rattle.ac_logic.specs.declared.formula.Formula.{Formula}
use Rattle.ac_logic.specs.Patterns.{Implication}
use Rattle.ac_conditions.specs.Conditions.{implied_by}
use Rattle.ac_vcg.specs.Opened.{hidden, formula_shape, formula_child}

pub implied_append : (hs gs : List Formula) (f : Formula) → implied_by (hs ++ gs) f ≡ implied_by hs (implied_by gs f)
unfolding hidden formula_shape formula_child
implied_append [] gs f = refl
implied_append (h ∷ hs) gs f = ap (λ g. Implication h g) (implied_append hs gs f)

-- of the rest of a list, one more
pub implied_at : (hs : List Formula) (i : ℕ) (h d f : Formula) → i < length hs → h ≡ get_or hs i d → implied_by (drop i hs) f ≡ Implication h (implied_by (drop (i + 1) hs) f)
unfolding hidden formula_shape formula_child
implied_at hs i h d f lt e = ap (λ gs. implied_by gs f) (drop_more hs i d lt) ∙ ap (λ g. Implication g (implied_by (drop (i + 1) hs) f)) (sym e)

-- and none
pub implied_past : (hs : List Formula) (f : Formula) → implied_by (drop (length hs) hs) f ≡ f
unfolding hidden formula_shape formula_child
implied_past [] f = refl
implied_past (h ∷ hs) f = implied_past hs f
