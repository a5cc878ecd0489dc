use Rattle.std.proofs.Common.{◌≡◌, ℕ, ◌||◌, drop}
use Rattle.std.specs.List.{list_any}
use Rattle.ac_flow.specs.Cuts.{is_after}
use Rattle.ac_flow.specs.Marks.{mark_at}
use Rattle.ac_flow.proofs.marks.mark_places.Given as goal

-- the marks so far, and those of the rest, are all
abbrev pub invariant-loop-place : goal.invariant-loop-place
invariant-loop-place l = (n : ℕ) → (mark_at l.marks.items n || list_any (is_after n) (drop l.place-index l.places)) ≡ list_any (is_after n) l.places
