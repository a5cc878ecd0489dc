use Rattle.std.proofs.Common.{◌≡◌, drop}
use Rattle.ac_codes.specs.Listed.{texts_of, has_text}
use Rattle.ac_pattern_keys.proofs.named_metavariables.contains.Given as goal

-- what is left decides
abbrev pub invariant-loop-meta : goal.invariant-loop-meta
invariant-loop-meta l = has_text (texts_of (drop l.meta-index l.metas)) l.text ≡ has_text (texts_of l.metas) l.text
