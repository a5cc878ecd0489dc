use Rattle.std.proofs.Common.{◌≡◌, ◌++◌, List, vec_len}
use Rattle.ac_logic.specs.declared.condition.Condition.{Condition}
use Rattle.ac_vcg.specs.Ground.{IsMade}
use Rattle.ac_vcg.specs.Stands.{AreFound}
use Rattle.ac_vcg.proofs.condition_list.add_conditions.Given as goal

abbrev pub decreases-loop-last : goal.decreases-loop-last
decreases-loop-last l = vec_len l.found

-- the conditions so far, and those that are left, are all
abbrev pub invariant-loop-last : goal.invariant-loop-last
invariant-loop-last l =
    (cs : List Condition) → AreFound IsMade l.name l.initial.found.items cs → (ds : List Condition) × AreFound IsMade l.name l.found.items ds × (l.all.items ++ ds ≡ l.initial.all.items ++ cs)
