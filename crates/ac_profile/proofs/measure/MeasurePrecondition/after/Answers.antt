use Rattle.ac_logic.specs.Substitution.{formula_after}
use Rattle.ac_profile.proofs.Measures.{known, changed_large}
use Rattle.ac_profile.proofs.measure.MeasurePrecondition.after.Goals as goal

pub returns-in-TooLarge : goal.returns-in-TooLarge
returns-in-TooLarge c = λ f h. changed_large c.args.self c.args.changes.now f c.in-TooLarge.is h

pub returns-in_ok-changed-in-Known : goal.returns-in_ok-changed-in-Known
returns-in_ok-changed-in-Known c = λ f h. c.measured.ensures (formula_after c.args.changes.now f) (c.in_ok-changed-in-Known.ensures f (known c.args.self _ f c.in-Known.is h))
