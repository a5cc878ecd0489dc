use Rattle.std.proofs.Common.{◌≡◌, ◌+◌, max, refl, rules}
use Rattle.std.proofs.lemmas.Result.{on_ok_weaker}
use Rattle.ac_logic.specs.Size.{saturated}
use Rattle.ac_profile.proofs.Merged.{beside}
use Rattle.ac_profile.proofs.counts.add_counts.Goals as goal

pub returns : goal.returns
returns c =
    let nodes : c.saturating_add-profile.result ≡ saturated (c.args.profile.now.nodes + c.args.other.now.nodes) = search rules in
    let depth : c.max-profile.result ≡ max c.args.profile.now.depth c.args.other.now.depth = search rules in
    on_ok_weaker c.add_all.result (λ h. beside c.args.profile.now c.args.other.now _ _ c.as_slice.result.now h nodes depth refl c.as_slice.ensures.value) c.add_all.ensures
