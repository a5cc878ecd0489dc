use Rattle.std.proofs.Common.{◌≡◌, ◌++◌, drop}
use Rattle.ac_vcg.proofs.walk.hypotheses_inside.Given as goal

-- the hypotheses so far, and the rest, are all
abbrev pub invariant-loop-hypothesis : goal.invariant-loop-hypothesis
invariant-loop-hypothesis g l = l.inner.items ++ drop l.hypothesis-index l.hypotheses ≡ l.hypotheses
