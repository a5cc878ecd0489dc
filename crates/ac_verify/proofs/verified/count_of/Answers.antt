use Rattle.std.proofs.Common.{subst}
use Rattle.std.specs.Prelude.{◌≡◌, OnOk, IfOk, IfErr, List, length}
use Rattle.ac_logic.specs.declared.condition.Condition.{Condition}
use Rattle.ac_policy.specs.declared.any_policy.AnyPolicy.{AnyPolicy}
use Rattle.ac_policy.specs.AnyPolicy.{Forbids, need_at, effect_at, known_at}
use Rattle.ac_conditions.specs.AllConditions.{all_conditions}
use Rattle.ac_soundness.specs.NeverBad.{NeverBad}
use Rattle.ac_kernel.specs.Refusals.{IsAccepted, IsRefusal}
use Rattle.ac_verify.proofs.verified.count_of.Goals as goal

-- The policy that was made is the one that the set gives for the part.

pub returns-clause-kept : goal.returns-clause-kept
returns-clause-kept c =
    let p = c.args.program.now in
    subst (λ (q : AnyPolicy). OnOk c.verify_part-counted.result (NeverBad p (Forbids q p))) c.in_ok-policy.ensures c.verify_part-counted.ensures.safe

pub returns-clause-accepted : goal.returns-clause-accepted
returns-clause-accepted c =
    let p = c.args.program.now in
    let part = c.args.part.now in
    let made : AnyPolicy → List Condition = λ q. all_conditions p part.policy (need_at q p) (effect_at q p) (known_at q) part.annotations in
    subst (λ (q : AnyPolicy). OnOk c.verify_part-counted.result (IsAccepted p part (made q))) c.in_ok-policy.ensures c.verify_part-counted.ensures.accepted

pub returns-clause-count : goal.returns-clause-count
returns-clause-count c =
    let p = c.args.program.now in
    let part = c.args.part.now in
    let made : AnyPolicy → List Condition = λ q. all_conditions p part.policy (need_at q p) (effect_at q p) (known_at q) part.annotations in
    subst (λ (q : AnyPolicy). IfOk c.verify_part-counted.result (λ count. count ≡ length (made q))) c.in_ok-policy.ensures c.verify_part-counted.ensures.count

pub returns-clause-refused : goal.returns-clause-refused
returns-clause-refused c =
    let p = c.args.program.now in
    let part = c.args.part.now in
    let made : AnyPolicy → List Condition = λ q. all_conditions p part.policy (need_at q p) (effect_at q p) (known_at q) part.annotations in
    subst (λ (q : AnyPolicy). IfErr c.verify_part-counted.result (IsRefusal p part (made q))) c.in_ok-policy.ensures c.verify_part-counted.ensures.refused
