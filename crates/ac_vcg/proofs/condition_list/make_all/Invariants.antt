use Rattle.std.proofs.Common.{◌≡◌, ◌++◌, drop}
use Rattle.ac_conditions.specs.AllConditions.{at_each}
use Rattle.ac_conditions.specs.Conditions.{conditions_at}
use Rattle.ac_conditions.specs.Part.{part_of}
use Rattle.ac_vcg.proofs.condition_list.make_all.Given as goal

-- the conditions so far, and those of the targets that are left, are all
abbrev pub invariant-loop-target : goal.invariant-loop-target
invariant-loop-target g l =
    l.all.items ++ at_each (conditions_at l.program l.name (part_of (g.P.Policy.need_of l.policy l.program) (g.P.Policy.effect_of l.policy l.program) (g.P.Policy.known_of l.policy) l.annotations)) (drop l.target-index l.targets) ≡ at_each (conditions_at l.program l.name (part_of (g.P.Policy.need_of l.policy l.program) (g.P.Policy.effect_of l.policy l.program) (g.P.Policy.known_of l.policy) l.annotations)) l.targets
