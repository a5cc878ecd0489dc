use Rattle.std.proofs.Common.{◌≡◌, ◌++◌}
use Rattle.ac_expand.specs.Index.{first_names}
use Rattle.ac_expand.proofs.index.index_terms.Given as goal

-- the names so far stand behind the indexes
abbrev pub invariant-loop-number : goal.invariant-loop-number
invariant-loop-number l = l.terms ≡ l.initial.terms ++ first_names l.number
