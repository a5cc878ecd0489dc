use Rattle.std.proofs.Common.{◌≡◌, ◌+◌, ◌-◌, ◌<◌, refl, rules, arith}
use Rattle.ac_profile.proofs.Profiles.{lowered, raised_above}
use Rattle.ac_profile.proofs.profile.add_above.Goals as goal

pub returns-then-profile-gt0 : goal.returns-then-profile-gt0
returns-then-profile-gt0 c = λ s d h. lowered c.args.profile.now _ s d h c.count_node.ensures.nodes c.count_node.ensures.depth c.count_node.ensures.symbols (first_of (search rules, omega (arith, c.if-profile-gt0.true)))

pub returns-else-profile-gt0 : goal.returns-else-profile-gt0
returns-else-profile-gt0 c = λ s d h. raised_above c.args.profile.now _ s d h _ c.count_node.ensures.nodes c.count_node.ensures.depth c.count_node.ensures.symbols c.raise_all.ensures refl
