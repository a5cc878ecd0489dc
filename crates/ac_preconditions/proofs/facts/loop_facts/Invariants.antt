use Rattle.std.proofs.Common.{◌≡◌, ◌++◌, drop}
use Rattle.ac_conditions.specs.Part.{is_loop, facts_at}
use Rattle.ac_preconditions.proofs.facts.loop_facts.Given as goal

-- the facts so far, and those of the rest, are all
abbrev pub invariant-loop-annotation : goal.invariant-loop-annotation
invariant-loop-annotation l = l.facts.items ++ facts_at (is_loop l.node) (drop l.annotation-index l.annotations) ≡ facts_at (is_loop l.node) l.annotations
