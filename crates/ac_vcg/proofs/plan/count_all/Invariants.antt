use Rattle.std.proofs.Common.{◌≡◌, ◌+◌, drop, length}
use Rattle.ac_tree.specs.declared.policy.PolicyName.{PolicyName}
use Rattle.ac_logic.specs.Size.{saturated}
use Rattle.ac_conditions.specs.AllConditions.{at_each}
use Rattle.ac_conditions.specs.Conditions.{conditions_at}
use Rattle.ac_conditions.specs.Part.{part_of}
use Rattle.ac_vcg.proofs.plan.count_all.Given as goal

abbrev pub invariant-loop-target : goal.invariant-loop-target
invariant-loop-target g l =
    (name : PolicyName) → saturated (l.count + length (at_each (conditions_at l.program name (part_of (g.P.Policy.need_of l.policy l.program) (g.P.Policy.effect_of l.policy l.program) (g.P.Policy.known_of l.policy) l.annotations)) (drop l.target-index l.targets))) ≡ saturated (length (at_each (conditions_at l.program name (part_of (g.P.Policy.need_of l.policy l.program) (g.P.Policy.effect_of l.policy l.program) (g.P.Policy.known_of l.policy) l.annotations)) l.targets))
