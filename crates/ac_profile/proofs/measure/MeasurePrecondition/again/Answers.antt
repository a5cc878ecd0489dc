use Rattle.ac_profile.proofs.Measures.{known, still_large}
use Rattle.ac_profile.proofs.measure.MeasurePrecondition.again.Goals as goal

pub returns-in-TooLarge : goal.returns-in-TooLarge
returns-in-TooLarge c = λ f h. still_large c.args.self.now f c.in-TooLarge.is h

pub returns-in_ok-copy-in-Known : goal.returns-in_ok-copy-in-Known
returns-in_ok-copy-in-Known c = λ f h. c.in_ok-copy-in-Known.ensures f (known c.args.self.now _ f c.in-Known.is h)
