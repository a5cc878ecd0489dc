use Rattle.std.proofs.Common.{◌≡◌, ◌++◌, drop}
use Rattle.ac_flow.specs.Cuts.{list_cuts}
use Rattle.ac_flow.specs.Marks.{mark_at}
use Rattle.ac_flow.proofs.cut_list.+stmt_cuts.Given as goal

-- the cuts so far, and those of the rest, are all
abbrev pub invariant-add_block-loop-stmt : goal.invariant-add_block-loop-stmt
invariant-add_block-loop-stmt l =
    l.found.items ++ list_cuts (mark_at l.barriers) (drop l.stmt-index l.block) ≡ l.initial.found.items ++ list_cuts (mark_at l.barriers) l.block
