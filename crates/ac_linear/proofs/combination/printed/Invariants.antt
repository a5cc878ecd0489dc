use Rattle.std.proofs.Common.{◌≡◌, take}
use Rattle.ac_linear.proofs.combination.printed.Given as goal

abbrev pub invariant-loop-fact : goal.invariant-loop-fact
invariant-loop-fact l = l.printed.items ≡ take l.fact-index l.facts
