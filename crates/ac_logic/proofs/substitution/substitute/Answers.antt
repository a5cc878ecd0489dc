use Rattle.std.proofs.lemmas.Result.{IfOk-weaker}
use Rattle.ac_logic.proofs.Substituted.{renewed_holds}
use Rattle.ac_logic.proofs.substitution.substitute.Goals as goal

pub returns-clause-meaning : goal.returns-clause-meaning
returns-clause-meaning c = IfOk-weaker c.renew.result _ _ (λ after h. renewed_holds c.args.changes.now c.requires c.args.formula.now c.get.result.now after c.in_ok-new.new c.get.ensures c.in_ok-new.ensures h) c.renew.ensures
