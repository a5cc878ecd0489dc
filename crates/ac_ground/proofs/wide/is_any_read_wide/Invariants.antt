use Rattle.std.proofs.Common.{◌≡◌, drop}
use Rattle.std.specs.List.{list_any}
use Rattle.ac_ground.specs.Reads.{read}
use Rattle.ac_ground.specs.Wide.{is_wide}
use Rattle.ac_ground.proofs.wide.is_any_read_wide.Given as goal

abbrev pub invariant-loop-cell : goal.invariant-loop-cell
invariant-loop-cell l = list_any (λ c. is_wide (read c)) (drop l.cell-index l.reads) ≡ list_any (λ c. is_wide (read c)) l.reads
