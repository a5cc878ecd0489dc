use Rattle.std.proofs.Common.{◌≡◌, drop}
use Rattle.std.specs.List.{list_all}
use Rattle.ac_ground.specs.Table.{is_read_of_put}
use Rattle.ac_ground.proofs.put.are_reads_of_puts.Given as goal

abbrev pub invariant-loop-read : goal.invariant-loop-read
invariant-loop-read l = list_all (λ c. is_read_of_put l.valuation c.array c.first c.second) (drop l.read-index l.reads) ≡ list_all (λ c. is_read_of_put l.valuation c.array c.first c.second) l.reads
