use Rattle.std.proofs.Common.{refl}
use Rattle.ac_profile.proofs.Changing.{all_changed}
use Rattle.ac_profile.proofs.counts.changed_counts.Goals as goal

pub returns : goal.returns
returns c = all_changed c.args.changes.now c.args.profile _ _ _ _ c.in_ok-add_all_changed.ensures c.as_slice.ensures.value c.in_ok-parted.ensures refl refl
