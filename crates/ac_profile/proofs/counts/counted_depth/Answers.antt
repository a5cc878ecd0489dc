use Rattle.std.proofs.Common.{◌≡◌, ◌-◌, ◌^◌, ◌≤◌, max, List, ap, ◌∙◌, rules, arith}
use Rattle.ac_logic.specs.Size.{saturated}
use Rattle.ac_conditions.specs.Weights.{ones}
use Rattle.ac_profile.specs.declared.counts.Occurrence.{Occurrence}
use Rattle.ac_profile.specs.Profile.{depths}
use Rattle.ac_profile.proofs.Profiles.{deepest_told}
use Rattle.ac_profile.proofs.counts.counted_depth.Goals as goal

pub returns : goal.returns
returns c =
    let fits : c.args.counts.now.depth ≤ 2 ^ 64 - 1 = first_of (search rules, omega arith) in
    deepest_told c.args.counts.now c.symbols_depth.result c.max.result fits (c.symbols_depth.ensures ∙ ap (λ (l : List Occurrence). saturated (depths ones l)) c.as_slice.ensures.value) (search rules)
