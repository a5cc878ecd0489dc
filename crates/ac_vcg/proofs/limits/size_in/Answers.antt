use Rattle.ac_profile.proofs.Measures.{known}
use Rattle.ac_vcg.proofs.Measured.{no_large}
use Rattle.ac_vcg.proofs.limits.size_in.Goals as goal

pub returns-in-TooLarge : goal.returns-in-TooLarge
returns-in-TooLarge c = λ f h k. no_large c.args.measure.now f _ c.in-TooLarge.is h k

pub returns-in-Known : goal.returns-in-Known
returns-in-Known c = λ f h k. c.size.ensures f (known c.args.measure.now _ f c.in-Known.is h)
