use Rattle.std.proofs.lemmas.Result.{IfOk-weaker}
use Rattle.ac_expand.proofs.Whole.{form_of}
use Rattle.ac_expand.proofs.expansion.ground_form.Goals as goal

pub returns : goal.returns
returns c = λ u v. IfOk-weaker c.renew.result _ _ (λ r s. form_of c.args.formula.now c.get.result.now c.in_ok-new.new _ c.new.result c.args.shown r c.get.ensures c.new.ensures u v c.in_ok-new.ensures.made s) c.renew.ensures
