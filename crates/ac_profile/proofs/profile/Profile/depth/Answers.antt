use Rattle.ac_logic.specs.Size.{depth_of}
use Rattle.ac_profile.proofs.Profiles.{level_told}
use Rattle.ac_profile.proofs.profile.Profile.depth.Goals as goal

pub returns : goal.returns
returns c = λ f h. c.below_base.ensures (depth_of f) (level_told c.args.self.now f c.counted_depth.result c.counted_depth.ensures h)
