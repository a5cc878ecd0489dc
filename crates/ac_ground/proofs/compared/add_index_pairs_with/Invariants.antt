use Rattle.std.proofs.Common.{◌≡◌, ◌++◌, drop}
use Rattle.ac_ground.specs.Sums.{index_pairs_with}
use Rattle.ac_ground.proofs.compared.add_index_pairs_with.Given as goal

abbrev pub invariant-loop-other : goal.invariant-loop-other
invariant-loop-other l = l.pairs ++ index_pairs_with l.index (drop l.other-index l.others) ≡ l.initial.pairs ++ index_pairs_with l.index l.others
