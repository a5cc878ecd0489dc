use Rattle.std.proofs.Common.{◌≡◌, ◌+◌, drop}
use Rattle.ac_tree.specs.declared.policy.PolicyName.{PolicyName}
use Rattle.ac_logic.specs.Size.{saturated}
use Rattle.ac_conditions.specs.AllConditions.{at_each}
use Rattle.ac_conditions.specs.Conditions.{conditions_at}
use Rattle.ac_conditions.specs.Part.{part_of}
use Rattle.ac_vcg.specs.Refusals.{first_refusal, total_size}
use Rattle.ac_vcg.proofs.limits.check_sizes.Given as goal

-- the conditions of the targets that are left are refused as all are, and have the sizes that are missing
abbrev pub invariant-loop-target : goal.invariant-loop-target
invariant-loop-target g l =
    (name : PolicyName) →
    (first_refusal (at_each (conditions_at l.program name (part_of (g.P.Policy.need_of l.policy l.program) (g.P.Policy.effect_of l.policy l.program) (g.P.Policy.known_of l.policy) l.annotations)) l.targets) ≡ first_refusal (at_each (conditions_at l.program name (part_of (g.P.Policy.need_of l.policy l.program) (g.P.Policy.effect_of l.policy l.program) (g.P.Policy.known_of l.policy) l.annotations)) (drop l.target-index l.targets)))
    × (saturated (l.total + total_size (at_each (conditions_at l.program name (part_of (g.P.Policy.need_of l.policy l.program) (g.P.Policy.effect_of l.policy l.program) (g.P.Policy.known_of l.policy) l.annotations)) (drop l.target-index l.targets))) ≡ saturated (total_size (at_each (conditions_at l.program name (part_of (g.P.Policy.need_of l.policy l.program) (g.P.Policy.effect_of l.policy l.program) (g.P.Policy.known_of l.policy) l.annotations)) l.targets)))
