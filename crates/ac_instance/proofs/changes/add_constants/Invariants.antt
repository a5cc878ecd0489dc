use Rattle.std.proofs.Common.{◌≡◌, ◌++◌, drop}
use Rattle.ac_instance.specs.Instances.{constant_changes}
use Rattle.ac_instance.proofs.changes.add_constants.Given as goal

-- the changes so far, and those of the rest, are all
abbrev pub invariant-loop-item : goal.invariant-loop-item
invariant-loop-item l = l.changes.items ++ constant_changes (drop l.item-index l.items) ≡ l.initial.changes.items ++ constant_changes l.items
