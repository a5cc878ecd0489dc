-- Paths: which targets control can reach from which cuts without passing another cut. A path ends at its target, and coming
-- back to the cut that it left ends it too.
use Rattle.std.specs.Prelude.{◌≡◌, ℕ, Bool, Some, None}
use Rattle.ac_tree.specs.declared.path.Cut.{Cut}
use Rattle.ac_tree.specs.declared.path.Target.{Target}
use Rattle.ac_tree.specs.declared.program.Program.{Program}
use Rattle.ac_flow.specs.Points.{Point, Next, beginning, cut_at, target_at}

-- the points of a program: its beginning, and each next one
pub data IsPointOf (p : Program) : Point → Type 0 where
  first : IsPointOf p (beginning p)
  next : {from to : Point} → IsPointOf p from → Next from to → IsPointOf p to

-- control leads from a point to another in one or more steps, and no point between them is a cut
pub data LeadsTo (barrier : ℕ → Bool) : Point → Point → Type 0 where
  step : {from to : Point} → Next from to → LeadsTo barrier from to
  steps : {from via to : Point} → Next from via → cut_at barrier via ≡ None → LeadsTo barrier via to → LeadsTo barrier from to

-- control can reach a target from a cut without passing another cut
pub record Reaches (p : Program) (barrier : ℕ → Bool) (c : Cut) (t : Target) : Type 0 where
  pub from : Point
  pub to : Point
  pub of_program : IsPointOf p from
  pub is_cut : cut_at barrier from ≡ Some c
  pub path : LeadsTo barrier from to
  pub is_target : target_at barrier to ≡ Some t
