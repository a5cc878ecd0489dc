use Rattle.std.proofs.Common.{[], refl}
use Rattle.ac_logic.proofs.Types.{both}
use Rattle.ac_logic.proofs.Openings.{holds_at}
use Rattle.ac_logic.proofs.laws.opening_law.Goals as goal

pub returns : goal.returns
returns c = λ t f w e h. both (holds_at w t h e [] 0 refl f)
