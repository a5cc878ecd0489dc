use Rattle.ac_verify.proofs.Policies.{same_more}
use Rattle.ac_verify.proofs.verified.have_policies.Goals as goal

pub loop-i-preserved : goal.loop-i-preserved
loop-i-preserved c =
    same_more c.args.parts.now c.args.policies.now c.loop-i.i c.index-parts-i.result _ c.loop-i-test.true c.if-parts-policies.false (c.is_same_policy.ensures.0 c.if-not-is_same_policy.false) c.loop-i.invariant
