use Rattle.std.proofs.Common.{◌≡◌, drop}
use Rattle.ac_ground.specs.Numbers.{number_among}
use Rattle.ac_ground.proofs.number.number_among.Given as goal

abbrev pub invariant-loop-entry : goal.invariant-loop-entry
invariant-loop-entry l = number_among (drop l.entry-index l.entries) l.unit ≡ number_among l.entries l.unit
