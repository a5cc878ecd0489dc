use Rattle.std.proofs.Common.{◌≡◌, List, [], ◌++◌, drop, length, if◌then◌else◌}
use Rattle.ac_tree.specs.declared.path.Cut.{Cut}
use Rattle.ac_flow.specs.Through.{list_passes}
use Rattle.ac_flow.specs.ThroughLists.{list_exits}
use Rattle.ac_flow.specs.Marks.{mark_at}
use Rattle.ac_flow.proofs.through.+leaving.Given as goal

-- the cuts so far go on where the rest is passed
abbrev pub invariant-add_exits-loop-stmt : goal.invariant-add_exits-loop-stmt
invariant-add_exits-loop-stmt l =
    (cuts : List Cut) × (l.live.items ≡ l.initial.live.items ++ cuts) × (l.floor ≡ length l.initial.live.items)
    × ((if list_passes (mark_at l.barriers) (drop l.stmt-index l.block) then cuts else []) ++ list_exits (mark_at l.barriers) (drop l.stmt-index l.block) ≡ list_exits (mark_at l.barriers) l.block)
