use Rattle.std.proofs.Common.{◌≡◌, ◌++◌, drop, map, not}
use Rattle.std.specs.List.{filter}
use Rattle.ac_ground.specs.Numbers.{is_positive, negated}
use Rattle.ac_ground.proofs.part.negative_parts.Given as goal

abbrev pub invariant-loop-part : goal.invariant-loop-part
invariant-loop-part l = l.side ++ map negated (filter (λ p. not (is_positive p)) (drop l.part-index l.parts)) ≡ map negated (filter (λ p. not (is_positive p)) l.parts)
