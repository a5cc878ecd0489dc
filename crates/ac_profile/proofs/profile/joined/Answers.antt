use Rattle.std.proofs.lemmas.Result.{IfOk-weaker}
use Rattle.ac_profile.proofs.Profiles.{turned}
use Rattle.ac_profile.proofs.profile.joined.Goals as goal

pub returns-else-takes_in : goal.returns-else-takes_in
returns-else-takes_in c = IfOk-weaker c.beside-else-takes_in.result _ _ (λ made told s d t e h k. turned made s d t e (told t e s d k h)) c.beside-else-takes_in.ensures
