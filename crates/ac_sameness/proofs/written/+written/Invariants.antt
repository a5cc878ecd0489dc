use Rattle.std.proofs.Common.{◌≡◌, ◌||◌, drop}
use Rattle.ac_tree.specs.Names.{NameBytes}
use Rattle.ac_codes.specs.SideConditions.{run_writes}
use Rattle.ac_sameness.specs.Tests.{has_name}
use Rattle.ac_sameness.proofs.written.+written.Given as goal

-- the names so far, and those of the rest, are all
abbrev pub invariant-add_run-loop-stmt : goal.invariant-add_run-loop-stmt
invariant-add_run-loop-stmt l =
    (x : NameBytes) → (has_name l.names.entries x || run_writes x (drop l.stmt-index l.run)) ≡ (has_name l.initial.names.entries x || run_writes x l.run)
