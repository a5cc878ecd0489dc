use Rattle.std.proofs.Common.{◌≡◌, drop}
use Rattle.ac_codes.specs.Listed.{texts_of}
use Rattle.ac_pattern_keys.specs.Keys.{are_apart}
use Rattle.ac_pattern_keys.proofs.named_metavariables.are_apart.Given as goal

-- what is left decides
abbrev pub invariant-loop-pair : goal.invariant-loop-pair
invariant-loop-pair l = are_apart (texts_of l.metas) (drop l.pair-index l.pairs) ≡ are_apart (texts_of l.metas) l.pairs
