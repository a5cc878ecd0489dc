use Rattle.ac_linear.proofs.Ordered.{normal_ordered}
use Rattle.ac_linear.proofs.laws.normal_order_law.Goals as goal

pub returns : goal.returns
returns c = λ t l h. normal_ordered t l h
