use Rattle.std.proofs.Common.{◌≡◌, ◌++◌, drop}
use Rattle.ac_ground.specs.Sums.{index_pairs}
use Rattle.ac_ground.proofs.compared.add_index_pairs.Given as goal

abbrev pub invariant-loop-index : goal.invariant-loop-index
invariant-loop-index l = l.pairs ++ index_pairs (drop l.index-index l.indexes) l.indexes ≡ l.initial.pairs ++ index_pairs l.indexes l.indexes
