-- No promise rests on this file: it says which marks code keeps of the places of a program.
use Rattle.std.specs.Prelude.{◌≡◌, ℕ, Bool, List}
use Rattle.std.specs.List.{list_any}
use Rattle.ac_tree.specs.declared.path.Place.{Place}
use Rattle.ac_flow.specs.Cuts.{has_place}
use Rattle.ac_flow.specs.Marks.{mark_at}
use Rattle.ac_kernel.specs.Places.{is_loop}

-- the nodes of loops are marked in one list, and those of statements in the other
pub record AreMarked (places : List Place) (of_loops of_statements : List Bool) : Type 0 where
  pub loops : (n : ℕ) → mark_at of_loops n ≡ list_any (is_loop n) places
  pub statements : (n : ℕ) → mark_at of_statements n ≡ has_place places n
