use Rattle.std.proofs.Common.{◌≡◌, take}
use Rattle.ac_steps.specs.FactDifferences.{once}
use Rattle.ac_steps.proofs.facts.once_each.Given as goal

abbrev pub invariant-loop-fact : goal.invariant-loop-fact
invariant-loop-fact l = l.factors ≡ once (take l._fact-index l.facts)
