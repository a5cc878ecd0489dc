use Rattle.std.proofs.Common.{◌↔◌, drop}
use Rattle.ac_pattern_keys.specs.Keys.{AreInPatternName}
use Rattle.ac_pattern_keys.proofs.names.are_in_name.Given as goal

-- what is left decides
abbrev pub invariant-loop-byte : goal.invariant-loop-byte
invariant-loop-byte l = AreInPatternName l.bytes ↔ AreInPatternName (drop l.byte-index l.bytes)
