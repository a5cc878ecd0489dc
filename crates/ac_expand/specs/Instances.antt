-- How many instances the ground form of a formula has.
use Rattle.std.specs.Prelude.{ℕ, ◌+◌, ◌*◌, length, Bool, true, not, if◌then◌else◌}
use Rattle.ac_logic.specs.declared.formula.Formula.{Formula, True, False, Le, Eq}
use Rattle.ac_logic.specs.Patterns.{Negation, Conjunction, Disjunction, Implication, Every, Labelled}
use Rattle.ac_expand.specs.Index.{index_terms}
use Rattle.ac_expand.specs.Opened.{hidden, formula_shape, formula_child}

-- An assumed `all` has an instance at each of n index terms, and those inside of each instance are counted again.
abbrev pub instances : ℕ → Bool → Formula → ℕ
unfolding hidden formula_shape formula_child
instances n shown True = 0
instances n shown False = 0
instances n shown (Le s t) = 0
instances n shown (Eq s t) = 0
instances n shown (Negation f) = instances n (not shown) f
instances n shown (Conjunction f g) = instances n shown f + instances n shown g
instances n shown (Disjunction f g) = instances n shown f + instances n shown g
instances n shown (Implication f g) = instances n (not shown) f + instances n shown g
instances n shown (Every f) = if shown then instances n shown f else n * (instances n shown f + 1)
instances n shown (Labelled l f) = instances n shown f

abbrev pub instances_of : Formula → ℕ
instances_of f = instances (length (index_terms f)) true f
