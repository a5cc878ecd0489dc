use Rattle.std.proofs.Common.{◌↔◌, drop}
use Rattle.ac_tree.specs.Tokens.{Each, InName}
use Rattle.ac_logic.proofs.readable.are_in_name.Given as goal

-- what is left decides
abbrev pub invariant-loop-byte : goal.invariant-loop-byte
invariant-loop-byte l = Each InName l.bytes ↔ Each InName (drop l.byte-index l.bytes)
