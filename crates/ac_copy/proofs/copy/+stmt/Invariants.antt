use Rattle.std.proofs.Common.{◌≡◌, take}
use Rattle.ac_copy.proofs.copy.+stmt.Given as goal

-- the statements so far are copied
abbrev pub invariant-copy_block-loop-stmt : goal.invariant-copy_block-loop-stmt
invariant-copy_block-loop-stmt l = l.copy ≡ take l.stmt-index l.block
