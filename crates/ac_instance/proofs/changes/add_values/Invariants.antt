use Rattle.std.proofs.Common.{◌≡◌, ◌++◌, drop, zip}
use Rattle.ac_codes.specs.Listed.{texts_of}
use Rattle.ac_instance.specs.Instances.{values_changes}
use Rattle.ac_instance.proofs.changes.add_values.Given as goal

-- the changes so far, and those of the rest, are all
abbrev pub invariant-loop-at : goal.invariant-loop-at
invariant-loop-at l =
    l.changes.items ++ values_changes l.program (zip (texts_of (drop l.at l.metas)) (drop l.at l.values))
    ≡ l.initial.changes.items ++ values_changes l.program (zip (texts_of l.metas) l.values)
