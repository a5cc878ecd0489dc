use Rattle.std.proofs.Common.{ap, rules, string_bytes, option_map}
use Rattle.ac_policy_table.specs.Keys.{is_pattern_key}
use Rattle.ac_policy_table.proofs.Tables.{least_unknown-members_view}
use Rattle.ac_policy_table.proofs.entries.unknown_pattern_key.Goals as goal

pub returns-in-Some : goal.returns-in-Some
returns-in-Some c =
    let found = ap (option_map string_bytes) (rw c.in-Some.is at c.pattern_stranger.ensures.first) in
    let same = least_unknown-members_view is_pattern_key c.args.table.now.entries c.pattern_stranger.ensures.ordered in
    search (rules, found, same)

pub returns-in-None : goal.returns-in-None
returns-in-None c =
    rw (least_unknown-members_view is_pattern_key c.args.table.now.entries c.pattern_stranger.ensures.ordered) (ap (option_map string_bytes) (rw c.in-None.is at c.pattern_stranger.ensures.first))
