use Rattle.std.proofs.Common.{◌≡◌, drop}
use Rattle.ac_linear.specs.Places.{place_from}
use Rattle.ac_linear.proofs.place.place_of.Given as goal

abbrev pub invariant-loop-i : goal.invariant-loop-i
invariant-loop-i l = place_from 0 l.entry l.entries ≡ place_from l.i l.entry (drop l.i l.entries)
