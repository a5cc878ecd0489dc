use Rattle.ac_logic.proofs.Growth.{size_grows, depth_grows}
use Rattle.ac_logic.proofs.laws.change_growth_law.Goals as goal

pub returns-clause-size : goal.returns-clause-size
returns-clause-size c = size_grows

pub returns-clause-depth : goal.returns-clause-depth
returns-clause-depth c = depth_grows
