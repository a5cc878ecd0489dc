use Rattle.ac_formula_printer.proofs.RoundFormula.{formula_text, term_text}
use Rattle.ac_formula_printer.proofs.laws.print_reads_back_law.Goals as goal

pub returns-clause-formula : goal.returns-clause-formula
returns-clause-formula c = formula_text

pub returns-clause-term : goal.returns-clause-term
returns-clause-term c = term_text
