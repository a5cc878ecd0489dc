use Rattle.std.proofs.Common.{◌≡◌, drop}
use Rattle.std.specs.List.{list_any}
use Rattle.ac_ground.specs.Wide.{is_wide_pair}
use Rattle.ac_ground.proofs.wide.is_any_pair_wide.Given as goal

abbrev pub invariant-loop-pair : goal.invariant-loop-pair
invariant-loop-pair l = list_any (λ p. is_wide_pair p.left p.right) (drop l.pair-index l.pairs) ≡ list_any (λ p. is_wide_pair p.left p.right) l.pairs
