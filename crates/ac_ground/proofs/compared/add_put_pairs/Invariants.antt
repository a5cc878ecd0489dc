use Rattle.std.proofs.Common.{◌≡◌, ◌++◌, drop}
use Rattle.ac_ground.specs.Sums.{put_pairs}
use Rattle.ac_ground.proofs.compared.add_put_pairs.Given as goal

abbrev pub invariant-loop-read : goal.invariant-loop-read
invariant-loop-read l = l.pairs ++ put_pairs (drop l.read-index l.reads) ≡ l.initial.pairs ++ put_pairs l.reads
