use Rattle.std.proofs.Common.{◌≡◌, drop}
use Rattle.std.specs.List.{list_any}
use Rattle.ac_flow.specs.Pairs.{is_node}
use Rattle.ac_walk.proofs.visited.is_found.Given as goal

-- what is left decides
abbrev pub invariant-loop-other : goal.invariant-loop-other
invariant-loop-other l = list_any (is_node l.node.0) (drop l.other-index l.found) ≡ list_any (is_node l.node.0) l.found
