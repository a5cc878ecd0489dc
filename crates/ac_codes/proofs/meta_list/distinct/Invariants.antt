use Rattle.std.proofs.Common.{◌≡◌, take}
use Rattle.ac_codes.specs.Listed.{texts_of}
use Rattle.ac_codes.specs.Metavariables.{distinct as distinct_of}
use Rattle.ac_codes.proofs.meta_list.distinct.Given as goal

-- those so far, each once
abbrev pub invariant-loop-meta : goal.invariant-loop-meta
invariant-loop-meta l = texts_of l.metas.items ≡ distinct_of (texts_of (take l.meta-index l.places))
