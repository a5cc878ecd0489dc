use Rattle.std.proofs.Common.{◌≡◌, ◌≤◌, ◌++◌, take, drop, length}
use Rattle.ac_flow.specs.Pairs.{list_pairs}
use Rattle.ac_flow.specs.Marks.{mark_at}
use Rattle.ac_flow.proofs.pair_list.+stmt_pairs.Given as goal

-- the cuts that came with the block stay, and the pairs so far, and those of the rest, are all
abbrev pub invariant-add_block-loop-stmt : goal.invariant-add_block-loop-stmt
invariant-add_block-loop-stmt l =
    (take l.floor l.live.items ≡ l.initial.live.items) × (l.floor ≤ length l.live.items) × (l.base ≤ l.floor)
    × (l.found.items ++ list_pairs (mark_at l.marks.barriers.items) (mark_at l.marks.subject.items) (drop l.base l.live.items) (drop l.stmt-index l.block)
    ≡ l.initial.found.items ++ list_pairs (mark_at l.marks.barriers.items) (mark_at l.marks.subject.items) (drop l.initial.base l.initial.live.items) l.block)
