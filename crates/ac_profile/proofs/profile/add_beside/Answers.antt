use Rattle.std.proofs.Common.{refl}
use Rattle.std.proofs.lemmas.Result.{on_ok_weaker}
use Rattle.ac_profile.proofs.Profiles.{with_formula}
use Rattle.ac_profile.proofs.profile.add_beside.Goals as goal

pub returns : goal.returns
returns c = on_ok_weaker c.add_formula.result (λ f s d h. with_formula c.args.profile.now _ c.args.formula.now _ s d f refl refl h) c.add_formula.ensures
