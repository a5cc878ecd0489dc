-- What holds of a formula that was simplified in the stated order.
use Rattle.std.proofs.Common.{◌≡◌, ℤ, List, ◌⊎◌, ◌↔◌}
use Rattle.std.specs.List.{Contains}
use Rattle.ac_logic.specs.declared.formula.Formula.{Formula, True}
use Rattle.ac_logic.specs.declared.label.Label.{Label}
use Rattle.ac_logic.specs.Labels.{labels_of}
use Rattle.ac_logic.specs.Aim.{AimsAt}
use Rattle.ac_logic.specs.Meaning.{Valuation, HoldsIn}
use Rattle.ac_simplify.specs.declared.rewrite.Simplified.{Simplified}
use Rattle.ac_simplify.specs.Rewriting.{Replays, IsSimple}
use Rattle.ac_simplify.specs.Order.{simplified, rewrites_of}
use Rattle.ac_simplify.proofs.Replay.{replays, simple}
use Rattle.ac_simplify.proofs.Holds.{holds_after}
use Rattle.ac_simplify.proofs.Labels.{labels_after}
use Rattle.ac_simplify.proofs.Aims.{aims_after}

module _ (f : Formula) (s : Simplified) (e : s.formula ≡ simplified f) where
  pub simple_law : IsSimple s.formula
  simple_law = rw e (simple f)

  pub holds_law : (w : Valuation) (env : List ℤ) → HoldsIn w env s.formula ↔ HoldsIn w env f
  holds_law w env = rw e (let k = holds_after w env (replays f) in (k.1, k.0))

  pub labels_law : (l : Label) → Contains (labels_of s.formula) l → Contains (labels_of f) l
  labels_law = rw e (labels_after (replays f))

  pub aims_law : (l : Label) → AimsAt l f → AimsAt l s.formula ⊎ (s.formula ≡ True)
  aims_law l = rw e (aims_after l (replays f) (simple f))

  pub replay_law : s.rewrites ≡ rewrites_of f → Replays s.rewrites f s.formula
  replay_law r = rw (e, r) (replays f)
