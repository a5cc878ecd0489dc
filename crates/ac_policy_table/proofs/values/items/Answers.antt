use Rattle.std.proofs.Common.{◌≡◌, Some, rules}
use Rattle.toml.specs.Data.{as_array}
use Rattle.toml.specs.View.{items_view, view}
use Rattle.ac_policy_table.proofs.Tables.{list_of-items_view}
use Rattle.ac_policy_table.proofs.values.items.Goals as goal

pub returns-in-Some : goal.returns-in-Some
returns-in-Some c =
    let items : as_array (view c.args.value.now) ≡ Some (items_view c.as_slice.result.now) = search rules in
    rw (items, list_of-items_view c.as_slice.result.now)
