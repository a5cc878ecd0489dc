use Rattle.std.proofs.Common.{◌≡◌, drop}
use Rattle.ac_codes.specs.Listed.{texts_of}
use Rattle.ac_pattern_keys.specs.Keys.{are_fixed}
use Rattle.ac_pattern_keys.proofs.named_metavariables.are_fixed.Given as goal

-- what is left decides
abbrev pub invariant-loop-name : goal.invariant-loop-name
invariant-loop-name l = are_fixed (texts_of l.metas) (drop l.name-index l.names) ≡ are_fixed (texts_of l.metas) l.names
