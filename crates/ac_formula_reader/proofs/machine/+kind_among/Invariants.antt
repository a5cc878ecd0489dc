use Rattle.std.proofs.Common.{length}
use Rattle.ac_formula_reader.proofs.machine.+kind_among.Given as goal

abbrev pub decreases-kind_among : goal.decreases-kind_among
decreases-kind_among l = length l.kinds.now
