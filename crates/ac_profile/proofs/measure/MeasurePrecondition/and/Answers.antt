use Rattle.std.proofs.lemmas.Result.{IfOk-weaker}
use Rattle.ac_profile.proofs.Measures.{known, first_large}
use Rattle.ac_profile.proofs.measure.MeasurePrecondition.and.Goals as goal

pub returns-in-TooLarge : goal.returns-in-TooLarge
returns-in-TooLarge c = λ f g h k. first_large c.args.self f g c.in-TooLarge.is h

pub returns-in-Known : goal.returns-in-Known
returns-in-Known c = IfOk-weaker c.joined.result _ _ (λ made told f g h k. told f g (known c.args.self _ f c.in-Known.is h) k) c.joined.ensures
