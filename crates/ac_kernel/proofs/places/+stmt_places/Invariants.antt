use Rattle.std.proofs.Common.{◌≡◌, ◌++◌, drop}
use Rattle.ac_kernel.specs.Places.{list_places}
use Rattle.ac_kernel.proofs.places.+stmt_places.Given as goal

-- the places so far, and those of the rest, are all
abbrev pub invariant-add_block-loop-stmt : goal.invariant-add_block-loop-stmt
invariant-add_block-loop-stmt l =
    l.found.items ++ list_places (drop l.stmt-index l.block) ≡ l.initial.found.items ++ list_places l.block
