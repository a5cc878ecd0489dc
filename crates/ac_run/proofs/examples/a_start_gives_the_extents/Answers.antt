use Rattle.std.proofs.Common.{pos, negsuc, arith}
use Rattle.ac_run.proofs.examples.a_start_gives_the_extents.Goals as goal

pub returns-clause-below_range : goal.returns-clause-below_range
returns-clause-below_range c f = (f.0.2 0 (negsuc 0) (omega arith)).0.le

pub returns-clause-above_range : goal.returns-clause-above_range
returns-clause-above_range c f = (f.0.2 0 (pos 51) (omega arith)).1.le
