use Rattle.std.proofs.Common.{◌≡◌, ℕ, ◌||◌, drop}
use Rattle.std.specs.List.{list_any}
use Rattle.ac_flow.specs.Cuts.{is_behind}
use Rattle.ac_flow.specs.Marks.{mark_at}
use Rattle.ac_flow.proofs.marks.mark_cuts.Given as goal

-- the marks so far, and those of the rest, are all
abbrev pub invariant-loop-cut : goal.invariant-loop-cut
invariant-loop-cut l = (n : ℕ) → (mark_at l.marks.items n || list_any (is_behind n) (drop l.cut-index l.cuts)) ≡ list_any (is_behind n) l.cuts
