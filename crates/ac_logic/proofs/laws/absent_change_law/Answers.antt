use Rattle.std.proofs.Common.{[]}
use Rattle.ac_logic.proofs.Types.{both}
use Rattle.ac_logic.proofs.Changes.{formula_absent, holds_absent}
use Rattle.ac_logic.proofs.laws.absent_change_law.Goals as goal

pub returns-clause-same : goal.returns-clause-same
returns-clause-same c = λ cs f h. formula_absent cs f h

pub returns-clause-meaning : goal.returns-clause-meaning
returns-clause-meaning c = λ cs f w h k. both (holds_absent cs k w [] f h)
