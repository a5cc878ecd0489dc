use Rattle.ac_logic.specs.Patterns.{Implication}
use Rattle.ac_profile.proofs.Measures.{known, implied_large}
use Rattle.ac_profile.proofs.measure.MeasurePrecondition.implied_by.Goals as goal

pub returns-in-TooLarge : goal.returns-in-TooLarge
returns-in-TooLarge c = λ f h. implied_large c.args.self c.args.premise f c.in-TooLarge.is h

pub returns-in_ok-whole-in-Known : goal.returns-in_ok-whole-in-Known
returns-in_ok-whole-in-Known c = λ f h. c.measured.ensures (Implication c.args.premise f) (c.in_ok-whole-in-Known.ensures f (known c.args.self _ f c.in-Known.is h))
