use Rattle.std.proofs.Common.{◌≡◌, ◌+◌, List, ap, ◌∙◌, rules}
use Rattle.ac_logic.specs.Size.{saturated}
use Rattle.ac_conditions.specs.Weights.{ones}
use Rattle.ac_profile.specs.declared.counts.Occurrence.{Occurrence}
use Rattle.ac_profile.specs.Profile.{sizes}
use Rattle.ac_profile.proofs.Profiles.{all_told}
use Rattle.ac_profile.proofs.counts.counted_size.Goals as goal

pub returns : goal.returns
returns c =
    let whole : c.saturating_add.result ≡ saturated (c.args.counts.now.nodes + c.symbols_size.result) = search rules in
    all_told c.args.counts.now c.symbols_size.result c.saturating_add.result (c.symbols_size.ensures ∙ ap (λ (l : List Occurrence). saturated (sizes ones l)) c.as_slice.ensures.value) whole
