use Rattle.ac_linear.proofs.Combined.{combination_has_value}
use Rattle.ac_linear.proofs.laws.combination_law.Goals as goal

pub returns : goal.returns
returns c = λ facts factors l w e h. combination_has_value w e facts factors l h
