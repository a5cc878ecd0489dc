use Rattle.std.proofs.Common.{refl, arith, rules}
use Rattle.ac_profile.proofs.Profiles.{beside_measures}
use Rattle.ac_profile.proofs.profile.beside.Goals as goal

pub returns : goal.returns
returns c = λ s d t e h k. beside_measures c.args.high c.args.low _ _ _ s d t e c.raise_all.ensures (omega (arith, c.requires)) c.in_ok-add_counts.ensures refl h k
