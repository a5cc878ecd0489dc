use Rattle.std.proofs.Common.{◌≡◌, ◌++◌, drop}
use Rattle.ac_conditions.specs.Targets.{list_targets}
use Rattle.ac_targets.proofs.target_list.+stmt_targets.Given as goal

-- the targets so far, and those of the rest, are all
abbrev pub invariant-add_block-loop-stmt : goal.invariant-add_block-loop-stmt
invariant-add_block-loop-stmt l = l.found.items ++ list_targets l.program (drop l.stmt-index l.block) ≡ l.initial.found.items ++ list_targets l.program l.block
