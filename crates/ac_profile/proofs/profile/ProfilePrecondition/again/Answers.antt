use Rattle.std.proofs.Common.{refl}
use Rattle.ac_profile.proofs.Profiles.{same_profile}
use Rattle.ac_profile.proofs.profile.ProfilePrecondition.again.Goals as goal

pub returns : goal.returns
returns c = λ f h. same_profile c.args.self.now _ f refl c.in_ok-counts.ensures.nodes c.in_ok-counts.ensures.depth c.in_ok-counts.ensures.symbols h
