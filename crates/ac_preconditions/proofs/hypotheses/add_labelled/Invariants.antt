use Rattle.std.proofs.Common.{◌≡◌, ◌++◌, map, drop}
use Rattle.ac_conditions.specs.Tests.{labelled}
use Rattle.ac_preconditions.proofs.hypotheses.add_labelled.Given as goal

-- the facts so far, and those of the rest, are all
abbrev pub invariant-loop-fact : goal.invariant-loop-fact
invariant-loop-fact l = l.hypotheses.items ++ map (labelled l.kind l.node) (drop l.fact-index l.facts) ≡ l.initial.hypotheses.items ++ map (labelled l.kind l.node) l.facts
