use Rattle.std.proofs.Common.{◌≡◌, ◌≤◌, ◌-◌, drop, length}
use Rattle.ac_walk.specs.Walks.{holder_of}
use Rattle.ac_walk.proofs.from_cut.holder.Given as goal

abbrev pub decreases-loop-at : goal.decreases-loop-at
decreases-loop-at l = length l.block - l.at

-- what is left holds the node
abbrev pub invariant-loop-at : goal.invariant-loop-at
invariant-loop-at l = (l.at ≤ length l.block) × (holder_of l.node (drop l.at l.block) ≡ holder_of l.node l.block)
