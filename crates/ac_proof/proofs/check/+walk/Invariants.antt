use Rattle.std.proofs.Common.{◌≡◌, ℕ, ◌<◌}
use Rattle.ac_proof.specs.Checked.{Checked}
use Rattle.ac_proof.specs.Walk.{PremiseIs}
use Rattle.ac_proof.proofs.check.+walk.Given as goal

abbrev pub invariant-walk-loop-i : goal.invariant-walk-loop-i
invariant-walk-loop-i l = record {
  same_hyps : l.hyps.items ≡ l.initial.hyps.items;
  same_path : l.path.items ≡ l.initial.path.items;
  below : (k : ℕ) → k < l.i → PremiseIs l.initial.hyps.items l.tree k Checked;
}
