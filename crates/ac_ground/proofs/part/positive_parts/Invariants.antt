use Rattle.std.proofs.Common.{◌≡◌, ◌++◌, drop}
use Rattle.std.specs.List.{filter}
use Rattle.ac_ground.specs.Numbers.{is_positive}
use Rattle.ac_ground.proofs.part.positive_parts.Given as goal

abbrev pub invariant-loop-part : goal.invariant-loop-part
invariant-loop-part l = l.side ++ filter is_positive (drop l.part-index l.parts) ≡ filter is_positive l.parts
