use Rattle.std.proofs.Common.{◌≡◌, ◌+◌, List, vec_len}
use Rattle.ac_tree.specs.declared.policy.PolicyName.{PolicyName}
use Rattle.ac_logic.specs.declared.condition.Condition.{Condition}
use Rattle.ac_logic.specs.Size.{saturated}
use Rattle.ac_profile.specs.Measure.{IsMeasure}
use Rattle.ac_vcg.specs.Refusals.{first_refusal, total_size}
use Rattle.ac_vcg.specs.Stands.{AreFound}
use Rattle.ac_vcg.proofs.limits.first_refused.Given as goal

abbrev pub decreases-loop-last : goal.decreases-loop-last
decreases-loop-last l = vec_len l.found

-- those that are left are refused as all are, and have the sizes that are missing
abbrev pub invariant-loop-last : goal.invariant-loop-last
invariant-loop-last l =
    (name : PolicyName) (cs : List Condition) → AreFound IsMeasure name l.initial.found.items cs →
    (ds : List Condition) × AreFound IsMeasure name l.found.items ds × (first_refusal cs ≡ first_refusal ds) × (saturated (l.total + total_size ds) ≡ saturated (l.initial.total + total_size cs))
