use Rattle.std.proofs.Common.{refl}
use Rattle.ac_profile.proofs.Profiles.{profile_after}
use Rattle.ac_profile.proofs.profile.ProfilePrecondition.after.Goals as goal

pub returns : goal.returns
returns c = λ f k. profile_after c.args.self _ c.args.changes.now f c.in_ok-counts.ensures refl k
