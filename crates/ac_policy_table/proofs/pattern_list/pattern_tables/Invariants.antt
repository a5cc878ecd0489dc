use Rattle.std.proofs.Common.{◌≡◌, ◌++◌, drop, map}
use Rattle.std.specs.Prelude.{filter_map}
use Rattle.toml.specs.Data.{as_table}
use Rattle.toml.specs.View.{view}
use Rattle.ac_policy_table.specs.Patterns.{pattern_says}
use Rattle.ac_policy_table.proofs.pattern_list.pattern_tables.Given as goal

abbrev pub invariant-loop-value : goal.invariant-loop-value
invariant-loop-value l =
    l.patterns ++ map pattern_says (filter_map as_table (map view (drop l.value-index l.values))) ≡ map pattern_says (filter_map as_table (map view l.values))
