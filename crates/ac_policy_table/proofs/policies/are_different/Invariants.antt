use Rattle.std.proofs.Common.{◌≡◌, drop}
use Rattle.ac_policy_table.specs.Values.{are_different, same_policy}
use Rattle.ac_policy_table.proofs.policies.are_different.Given as goal

abbrev pub invariant-loop-at : goal.invariant-loop-at
invariant-loop-at l = are_different same_policy l.policies ≡ are_different same_policy (drop l.at l.policies)
