use Rattle.std.proofs.Common.{◌≡◌, ◌-◌, ◌^◌, ◌<◌, rules, arith}
use Rattle.ac_profile.proofs.Profiles.{below_told}
use Rattle.ac_profile.proofs.profile.below_base.Goals as goal

pub returns : goal.returns
returns c = λ d e.
    let fits : c.args.base < 2 ^ 32 = first_of (search rules, omega (arith, c.ranges.base.fits)) in
    let told : c.saturating_sub.result ≡ c.args.level - c.args.base = search rules in
    below_told c.args.base c.args.level c.saturating_sub.result d fits e told
