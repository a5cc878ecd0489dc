use Rattle.std.proofs.Common.{◌≡◌, ◌++◌, drop}
use Rattle.ac_flow.specs.Marks.{mark_at}
use Rattle.ac_flow.specs.Through.{list_passes}
use Rattle.ac_walk.specs.Walks.{list_meets, list_entered}
use Rattle.ac_walk.proofs.onward.+entered.Given as goal

-- control has come so far, and what is left decides
abbrev pub invariant-add_block-loop-stmt : goal.invariant-add_block-loop-stmt
invariant-add_block-loop-stmt l =
    (list_meets (mark_at l.aim.barriers.now) l.aim.target (drop l.stmt-index l.block) ≡ list_meets (mark_at l.aim.barriers.now) l.aim.target l.block)
    × (list_passes (mark_at l.aim.barriers.now) (drop l.stmt-index l.block) ≡ list_passes (mark_at l.aim.barriers.now) l.block)
    × (l.found.items ++ list_entered (mark_at l.aim.barriers.now) l.aim.target (drop l.stmt-index l.block) ≡ l.initial.found.items ++ list_entered (mark_at l.aim.barriers.now) l.aim.target l.block)
