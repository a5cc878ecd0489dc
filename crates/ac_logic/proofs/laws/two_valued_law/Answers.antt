use Rattle.ac_logic.proofs.Stable.{stable}
use Rattle.ac_logic.proofs.laws.two_valued_law.Goals as goal

pub returns : goal.returns
returns c = λ f w e h. stable w e f h
