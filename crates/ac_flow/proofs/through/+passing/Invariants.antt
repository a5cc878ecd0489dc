use Rattle.std.proofs.Common.{◌≡◌, drop}
use Rattle.ac_flow.specs.Through.{list_passes}
use Rattle.ac_flow.specs.Marks.{mark_at}
use Rattle.ac_flow.proofs.through.+passing.Given as goal

-- what is left decides
abbrev pub invariant-is_passed-loop-stmt : goal.invariant-is_passed-loop-stmt
invariant-is_passed-loop-stmt l = list_passes (mark_at l.barriers) (drop l.stmt-index l.block) ≡ list_passes (mark_at l.barriers) l.block
