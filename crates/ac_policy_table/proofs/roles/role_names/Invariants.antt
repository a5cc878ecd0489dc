use Rattle.std.proofs.Common.{◌≡◌, ◌++◌, drop, map, option_map}
use Rattle.toml.specs.Data.{as_str}
use Rattle.toml.specs.View.{view}
use Rattle.ac_policy_table.specs.Values.{each, passing, is_name}
use Rattle.ac_policy_table.proofs.roles.role_names.Given as goal

abbrev pub invariant-loop-value : goal.invariant-loop-value
invariant-loop-value l =
    option_map (λ xs. l.roles ++ xs) (each (λ d. passing is_name (as_str d)) (map view (drop l.value-index l.values)))
    ≡ each (λ d. passing is_name (as_str d)) (map view l.values)
