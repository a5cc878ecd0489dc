use Rattle.std.proofs.Common.{◌≡◌, take}
use Rattle.ac_policy_set.proofs.policy_set.copied.Given as goal

-- the names before are copied
abbrev pub invariant-loop-name : goal.invariant-loop-name
invariant-loop-name l = l.copy.items ≡ take l.name-index l.names
