use Rattle.std.proofs.Common.{◌≡◌, ◌++◌, drop}
use Rattle.ac_conditions.specs.Part.{is_after, facts_at}
use Rattle.ac_preconditions.proofs.facts.facts_behind.Given as goal

-- the facts so far, and those of the rest, are all
abbrev pub invariant-loop-annotation : goal.invariant-loop-annotation
invariant-loop-annotation l = l.facts.items ++ facts_at (is_after l.node) (drop l.annotation-index l.annotations) ≡ facts_at (is_after l.node) l.annotations
