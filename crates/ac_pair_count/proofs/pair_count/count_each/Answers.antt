use Rattle.std.proofs.Common.{◌≡◌, ◌+◌, ◌<◌, rules, arith}
use Rattle.std.proofs.lemmas.Bool.Decides.{nat_tests}
use Rattle.ac_pair_count.specs.PairCount.{saturated}
use Rattle.ac_pair_count.proofs.More.{each_counted}
use Rattle.ac_pair_count.proofs.pair_count.count_each.Goals as goal

pub returns : goal.returns
returns c = λ cuts e.
    let some : 0 < c.args.live = first_of (search rules, omega (arith, c.if-live-eq0.false), grind (arith, nat_tests, c.if-live-eq0.false)) in
    let count : c.saturating_add-found.result ≡ saturated (c.args.found.now.count + c.args.live) = search rules in
    each_counted c.args.found.now _ c.args.live c.target_node.result c.args.target cuts some count c.in_ok-push.ensures.items c.target_node.ensures e
