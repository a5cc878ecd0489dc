use Rattle.std.proofs.Common.{◌-◌, length}
use Rattle.ac_profile.proofs.counts.place_of.Given as goal

abbrev pub decreases-loop-at : goal.decreases-loop-at
decreases-loop-at l = length l.symbols - l.at
