use Rattle.std.proofs.Common.{◌≡◌, ℕ, ◌||◌, drop}
use Rattle.std.specs.List.{list_any}
use Rattle.ac_flow.specs.Pairs.{is_subject}
use Rattle.ac_kernel.specs.Places.{is_loop}
use Rattle.ac_kernel.proofs.places.loop_nodes.Given as goal

-- the loops so far, and those of the rest, are all
abbrev pub invariant-loop-place : goal.invariant-loop-place
invariant-loop-place l = (n : ℕ) → (is_subject l.nodes.items n || list_any (is_loop n) (drop l.place-index l.places)) ≡ list_any (is_loop n) l.places
