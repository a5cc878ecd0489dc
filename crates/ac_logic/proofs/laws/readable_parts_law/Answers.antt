use Rattle.ac_logic.proofs.ReadableParts.{part_readable}
use Rattle.ac_logic.proofs.laws.readable_parts_law.Goals as goal

pub returns : goal.returns
returns c = λ d e f g p h. part_readable p h
