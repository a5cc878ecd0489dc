use Rattle.std.proofs.Common.{◌≡◌, ◌++◌, drop, map, option_map}
use Rattle.toml.specs.Data.{as_str}
use Rattle.toml.specs.View.{view}
use Rattle.ac_policy_table.specs.Values.{each}
use Rattle.ac_policy_table.proofs.values.texts.Given as goal

abbrev pub invariant-loop-value : goal.invariant-loop-value
invariant-loop-value l = option_map (λ xs. l.texts ++ xs) (each as_str (map view (drop l.value-index l.values))) ≡ each as_str (map view l.values)
