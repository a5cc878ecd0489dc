use Rattle.std.proofs.Common.{◌≡◌, ◌++◌, drop, map, option_map, option_and_then}
use Rattle.toml.specs.Data.{as_str}
use Rattle.toml.specs.View.{view}
use Rattle.ac_policy_table.specs.Values.{each, policy_named}
use Rattle.ac_policy_table.proofs.policies.policy_names.Given as goal

abbrev pub invariant-loop-value : goal.invariant-loop-value
invariant-loop-value l =
    option_map (λ xs. l.policies ++ xs) (each (λ d. option_and_then policy_named (as_str d)) (map view (drop l.value-index l.values)))
    ≡ each (λ d. option_and_then policy_named (as_str d)) (map view l.values)
