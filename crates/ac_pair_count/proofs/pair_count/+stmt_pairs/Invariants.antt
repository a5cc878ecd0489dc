use Rattle.std.proofs.Common.{◌≡◌, List, drop, length}
use Rattle.ac_tree.specs.declared.path.Cut.{Cut}
use Rattle.ac_flow.specs.Marks.{mark_at}
use Rattle.ac_flow.specs.Pairs.{list_pairs}
use Rattle.ac_pair_count.specs.declared.pair_count.PairCount.{PairCount}
use Rattle.ac_pair_count.specs.Counted.{IsMore}
use Rattle.ac_pair_count.specs.PairCount.{saturated}
use Rattle.ac_pair_count.proofs.Statements.{IsSoFar}
use Rattle.ac_pair_count.proofs.pair_count.+stmt_pairs.Given as goal

-- what has the pairs of the rest more has all more
abbrev pub invariant-count_block-loop-stmt : goal.invariant-count_block-loop-stmt
invariant-count_block-loop-stmt l = record {
  through : IsSoFar (mark_at l.barriers) l.through (drop l.stmt-index l.block) l.block;
  pairs : (cuts : List Cut) → l.live ≡ saturated (length cuts) →
      (now : List Cut) × (l.here ≡ saturated (length now))
      × ((new : PairCount) → IsMore l.found new (list_pairs (mark_at l.barriers) (mark_at l.subject) now (drop l.stmt-index l.block)) → IsMore l.initial.found new (list_pairs (mark_at l.barriers) (mark_at l.subject) cuts l.block));
}
