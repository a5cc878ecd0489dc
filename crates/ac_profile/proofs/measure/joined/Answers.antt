use Rattle.ac_logic.specs.Patterns.{Conjunction}
use Rattle.ac_profile.proofs.Measures.{known, second_large}
use Rattle.ac_profile.proofs.measure.joined.Goals as goal

pub returns-in-TooLarge : goal.returns-in-TooLarge
returns-in-TooLarge c = λ f g h k. second_large c.args.other f g c.in-TooLarge.is k

pub returns-in_ok-both-in-Known : goal.returns-in_ok-both-in-Known
returns-in_ok-both-in-Known c = λ f g h k. c.measured.ensures (Conjunction f g) (c.in_ok-both-in-Known.ensures f g h (known c.args.other _ g c.in-Known.is k))
