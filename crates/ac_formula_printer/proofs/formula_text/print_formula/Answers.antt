use Rattle.ac_formula_printer.proofs.RoundFormula.{formula_spelled}
use Rattle.ac_formula_printer.proofs.formula_text.print_formula.Goals as goal

pub returns-clause-spells : goal.returns-clause-spells
returns-clause-spells c = λ h. formula_spelled c.args.formula.now _ _ c.new-out.ensures.bytes c.in_ok-write_formula.ensures.text c.in_ok-write_formula.ensures.in_range h
