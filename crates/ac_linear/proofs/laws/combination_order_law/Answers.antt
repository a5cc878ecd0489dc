use Rattle.ac_linear.proofs.Ordered.{combination_ordered}
use Rattle.ac_linear.proofs.laws.combination_order_law.Goals as goal

pub returns : goal.returns
returns c = λ facts factors l h. combination_ordered facts factors l h
