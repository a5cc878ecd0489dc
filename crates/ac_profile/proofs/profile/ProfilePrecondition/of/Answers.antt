use Rattle.std.proofs.Common.{refl}
use Rattle.ac_profile.proofs.Profiles.{whole}
use Rattle.ac_profile.proofs.profile.ProfilePrecondition.of.Goals as goal

pub returns : goal.returns
returns c = whole _ _ _ _ _ c.in_ok-add_formula.ensures c.get.ensures refl c.no_counts-counts.ensures.nodes c.no_counts-counts.ensures.depth c.no_counts-counts.ensures.symbols
