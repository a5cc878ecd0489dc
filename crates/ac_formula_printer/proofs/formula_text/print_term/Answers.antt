use Rattle.ac_formula_printer.proofs.RoundFormula.{term_spelled}
use Rattle.ac_formula_printer.proofs.formula_text.print_term.Goals as goal

pub returns-clause-spells : goal.returns-clause-spells
returns-clause-spells c = λ h. term_spelled c.args.term.now _ _ c.new-out.ensures.bytes c.in_ok-write_term.ensures.text c.in_ok-write_term.ensures.in_range h
