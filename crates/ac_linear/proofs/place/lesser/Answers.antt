use Rattle.std.proofs.Common.{rules}
use Rattle.std.proofs.lemmas.List.Sorted.{IsPartitionPoint-from_clause}
use Rattle.ac_linear.specs.Places.{has_less}
use Rattle.ac_linear.proofs.Search.{parted, place_behind}
use Rattle.ac_linear.proofs.place.lesser.Goals as goal

pub returns-clause-behind : goal.returns-clause-behind
returns-clause-behind c =
    let p = c.args.entry.now in
    let qs = c.args.entries.now in
    let point = IsPartitionPoint-from_clause (has_less p.print) qs c.partition_point.result c.partition_point.ensures.partitioned (parted p.print qs c.requires) (λ a r f k. search rules) in
    place_behind p qs c.partition_point.result point.0 c.partition_point.ensures.bound
