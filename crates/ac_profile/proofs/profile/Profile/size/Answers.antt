use Rattle.ac_profile.proofs.Profiles.{size_told}
use Rattle.ac_profile.proofs.profile.Profile.size.Goals as goal

pub returns : goal.returns
returns c = λ f h. size_told c.args.self.now f c.counted_size.result c.counted_size.ensures h
