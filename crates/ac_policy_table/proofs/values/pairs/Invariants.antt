use Rattle.std.proofs.Common.{◌≡◌, ◌++◌, drop, map, option_map, option_and_then}
use Rattle.toml.specs.View.{view}
use Rattle.ac_policy_table.specs.Values.{each, items_in, pair_of}
use Rattle.ac_policy_table.proofs.values.pairs.Given as goal

abbrev pub invariant-loop-value : goal.invariant-loop-value
invariant-loop-value l = option_map (λ xs. l.pairs ++ xs) (each (λ d. option_and_then pair_of (items_in d)) (map view (drop l.value-index l.values))) ≡ each (λ d. option_and_then pair_of (items_in d)) (map view l.values)
