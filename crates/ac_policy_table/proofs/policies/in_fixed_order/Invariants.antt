use Rattle.std.proofs.Common.{◌≡◌, ◌++◌, drop, filter}
use Rattle.std.specs.List.{list_any}
use Rattle.ac_policy_table.specs.Values.{same_policy, in_fixed_order}
use Rattle.ac_policy_table.proofs.policies.in_fixed_order.Given as goal

abbrev pub invariant-loop-policy : goal.invariant-loop-policy
invariant-loop-policy l = l.ordered ++ filter (λ p. list_any (λ q. same_policy q p) l.policies) (drop l.policy-index l.policy-items) ≡ in_fixed_order l.policies
