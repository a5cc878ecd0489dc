use Rattle.ac_logic.specs.Patterns.{Labelled}
use Rattle.ac_profile.proofs.Measures.{known, labelled_large}
use Rattle.ac_profile.proofs.measure.MeasurePrecondition.labelled.Goals as goal

pub returns-in-TooLarge : goal.returns-in-TooLarge
returns-in-TooLarge c = λ f h. labelled_large c.args.self c.args.label f c.in-TooLarge.is h

pub returns-in_ok-whole-in-Known : goal.returns-in_ok-whole-in-Known
returns-in_ok-whole-in-Known c = λ f h. c.measured.ensures (Labelled c.args.label f) (c.in_ok-whole-in-Known.ensures f (known c.args.self _ f c.in-Known.is h))
