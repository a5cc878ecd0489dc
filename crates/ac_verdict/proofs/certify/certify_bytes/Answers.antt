use Rattle.ac_verdict.proofs.Verdicts.{headline}
use Rattle.ac_verdict.proofs.certify.certify_bytes.Goals as goal

pub returns-in-Ok-clause-accepted : goal.returns-in-Ok-clause-accepted
returns-in-Ok-clause-accepted c = λ k e. headline c.args.program.now c.args.policy.now c.judge.result k (c.judge.ensures c.args.program.now c.in-Ok.ensures.accepted) e
