use Rattle.std.proofs.Common.{◌≡◌, drop}
use Rattle.ac_conditions.specs.Preconditions.{joined_onto}
use Rattle.ac_preconditions.proofs.facts.joined_behind.Given as goal

-- what is joined so far, with the rest, is all
abbrev pub invariant-loop-fact : goal.invariant-loop-fact
invariant-loop-fact l = joined_onto l.whole (drop l.fact-index l.rest) ≡ joined_onto l.first l.rest
