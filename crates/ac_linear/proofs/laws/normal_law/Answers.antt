use Rattle.ac_linear.proofs.Values.{normal_has_value}
use Rattle.ac_linear.proofs.laws.normal_law.Goals as goal

pub returns : goal.returns
returns c = λ t l w e h. normal_has_value w e t l h
