use Rattle.std.proofs.Common.{rules}
use Rattle.ac_logic.specs.declared.formula.Formula.{the_lemmas as formula_lemmas}
use Rattle.ac_formula_printer.proofs.Appends.{longer, longer_three, longer_five, longer_all, longer_deeper}
use Rattle.ac_formula_printer.proofs.formula_text.+write_formula.Goals as goal

pub write_formula-requires : goal.write_formula-requires
write_formula-requires t c = (search (rules, formula_lemmas), longer _ _ _ _ c.in_ok-open_operand-in-Not.ensures (longer _ _ _ _ c.in_ok-push_str-in-Not.ensures.bytes c.requires))

pub write_formula-requires-in-And : goal.write_formula-requires-in-And
write_formula-requires-in-And t c = (search (rules, formula_lemmas), longer _ _ _ _ c.in_ok-open_operand-in-And.ensures c.requires)

pub write_formula-requires-in-And-2 : goal.write_formula-requires-in-And-2
write_formula-requires-in-And-2 t c = (search (rules, formula_lemmas), longer_three _ _ _ _ _ _ c.in_ok-write_connective-in-And.ensures (longer _ _ _ _ c.in_ok-write_formula-in-And.ensures.text (longer _ _ _ _ c.in_ok-open_operand-in-And.ensures c.requires)))

pub write_formula-requires-in-Or : goal.write_formula-requires-in-Or
write_formula-requires-in-Or t c = (search (rules, formula_lemmas), longer _ _ _ _ c.in_ok-open_operand-in-Or.ensures c.requires)

pub write_formula-requires-in-Or-2 : goal.write_formula-requires-in-Or-2
write_formula-requires-in-Or-2 t c = (search (rules, formula_lemmas), longer_three _ _ _ _ _ _ c.in_ok-write_connective-in-Or.ensures (longer _ _ _ _ c.in_ok-write_formula-in-Or.ensures.text (longer _ _ _ _ c.in_ok-open_operand-in-Or.ensures c.requires)))

pub write_formula-requires-in-Implies : goal.write_formula-requires-in-Implies
write_formula-requires-in-Implies t c = (search (rules, formula_lemmas), longer _ _ _ _ c.in_ok-open_operand-in-Implies.ensures c.requires)

pub write_formula-requires-in-Implies-2 : goal.write_formula-requires-in-Implies-2
write_formula-requires-in-Implies-2 t c = (search (rules, formula_lemmas), longer_three _ _ _ _ _ _ c.in_ok-write_connective-in-Implies.ensures (longer _ _ _ _ c.in_ok-write_formula-in-Implies.ensures.text (longer _ _ _ _ c.in_ok-open_operand-in-Implies.ensures c.requires)))

pub one_deeper-deeper-requires : goal.one_deeper-deeper-requires
one_deeper-deeper-requires t c = longer_all _ _ _ _ c.in_ok-write_all-in-All.ensures c.requires

pub write_formula-requires-in-All : goal.write_formula-requires-in-All
write_formula-requires-in-All t c = (search (rules, formula_lemmas), longer_deeper _ _ _ _ _ c.one_deeper-deeper.ensures c.in_ok-write_all-in-All.ensures c.requires)

pub write_formula-requires-in-Lab : goal.write_formula-requires-in-Lab
write_formula-requires-in-Lab t c = (search (rules, formula_lemmas), longer_five _ _ _ _ _ _ _ _ c.in_ok-write_label-in-Lab.ensures.text c.requires)
