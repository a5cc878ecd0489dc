-- What was found is what the reader gave.
use Rattle.std.proofs.Common.{◌+◌, ◌-◌, vec_len}
use Rattle.std.specs.Io.KnownBytes.{Consumes}
use Rattle.ac_io.proofs.transfer.read_within.Given as goal

abbrev pub invariant-loop-found : goal.invariant-loop-found
invariant-loop-found g l = Consumes (g.R.Read.remaining l.initial.from) (g.R.Read.remaining l.from) l.found.items

abbrev pub decreases-loop-found : goal.decreases-loop-found
decreases-loop-found g l = l.limit + 1 - vec_len l.found
