use Rattle.std.proofs.lemmas.Result.{on_ok_weaker}
use Rattle.ac_profile.specs.Opened.{hidden, formula_shape, formula_child, term_shape, term_child, array_shape, array_child}
use Rattle.ac_profile.proofs.Steps.{and_of, or_of, implication_of}
use Rattle.ac_profile.proofs.counts.+add_formula.Goals as goal

pub add_formula-returns-in_ok-add_formula-in-And : goal.add_formula-returns-in_ok-add_formula-in-And
unfolding hidden formula_shape formula_child term_shape term_child array_shape array_child
add_formula-returns-in_ok-add_formula-in-And t c =
    on_ok_weaker c.add_formula-in-And.result
    (λ h. and_of c.args.place c.below-under.result c.below-under.ensures _ _ _ _ _ _ _ _ _ c.in-And.is c.get-in-And.ensures c.get-in-And-2.ensures c.add_node-in-And.ensures c.in_ok-add_formula-in-And.ensures h)
    c.add_formula-in-And.ensures

pub add_formula-returns-in_ok-add_formula-in-Or : goal.add_formula-returns-in_ok-add_formula-in-Or
unfolding hidden formula_shape formula_child term_shape term_child array_shape array_child
add_formula-returns-in_ok-add_formula-in-Or t c =
    on_ok_weaker c.add_formula-in-Or-2.result
    (λ h. or_of c.args.place c.below-under-in-Or.result c.below-under-in-Or.ensures _ _ _ _ _ _ _ _ _ c.in-Or.is c.get-in-Or.ensures c.get-in-Or-2.ensures c.add_node-in-Or.ensures c.in_ok-add_formula-in-Or.ensures h)
    c.add_formula-in-Or-2.ensures

pub add_formula-returns-in_ok-add_formula-in-Implies : goal.add_formula-returns-in_ok-add_formula-in-Implies
unfolding hidden formula_shape formula_child term_shape term_child array_shape array_child
add_formula-returns-in_ok-add_formula-in-Implies t c =
    on_ok_weaker c.add_formula-in-Implies-2.result
    (λ h. implication_of c.args.place c.below-under-in-Implies.result c.below-under-in-Implies.ensures _ _ _ _ _ _ _ _ _ c.in-Implies.is c.get-in-Implies.ensures c.get-in-Implies-2.ensures c.add_node-in-Implies.ensures c.in_ok-add_formula-in-Implies.ensures h)
    c.add_formula-in-Implies-2.ensures
