-- Tables of distinct indexes, by which reads are compared: the indexes of an array are compared once for each two of them.
-- No promise rests on this file: it says what the code keeps on the way.
use Rattle.std.specs.Prelude.{◌≡◌, List, [], ◌∷◌, ◌++◌, map, fold, Bool, true, false, ◌&&◌, if◌then◌else◌, Some, slice_get}
use Rattle.std.specs.List.{list_all, list_any}
use Rattle.ac_logic.specs.declared.formula.Term.{Term}
use Rattle.ac_logic.specs.declared.formula.ArrayTerm.{ArrayTerm}
use Rattle.ac_logic.specs.Patterns.{Array, PutOf}
use Rattle.ac_linear.specs.TermEquality.{term_eq, array_eq}
use Rattle.ac_ground.specs.declared.cell.Cell.{Cell}
use Rattle.ac_ground.specs.declared.index.Index.{Index}
use Rattle.ac_ground.specs.declared.index.PlacedCell.{PlacedCell}
use Rattle.ac_ground.specs.declared.meeting.Row.{Row}
use Rattle.ac_ground.specs.declared.meeting.Meetings.{Meetings}
use Rattle.ac_ground.specs.declared.valuation.Valuation.{Valuation}
use Rattle.ac_ground.specs.Numbers.{equal}
use Rattle.ac_ground.specs.Reads.{cell, read}
use Rattle.ac_ground.specs.Opened.{hidden, term_shape, term_child, array_shape, array_child}

abbrev pub cell_eq : Cell → Cell → Bool
cell_eq c d = array_eq c.array d.array && term_eq c.first d.first && term_eq c.second d.second

abbrev pub with_cell : List Cell → Cell → List Cell
with_cell cs c = if list_any (cell_eq c) cs then cs else cs ++ c ∷ []

abbrev pub index : ArrayTerm → Term → Index
index a t = record { array = a; term = t }

abbrev pub index_eq : Index → Index → Bool
index_eq x y = array_eq x.array y.array && term_eq x.term y.term

abbrev pub with_index : List Index → Index → List Index
with_index xs x = if list_any (index_eq x) xs then xs else xs ++ x ∷ []

abbrev pub first_index : Cell → Index
first_index c = index c.array c.first

abbrev pub second_index : Cell → Index
second_index c = index c.array c.second

-- a cell with the places of its indexes
pub record IsPlaced (firsts seconds : List Index) (p : PlacedCell) : Type 0 where
  pub first : slice_get firsts p.first ≡ Some (first_index p.cell)
  pub second : slice_get seconds p.second ≡ Some (second_index p.cell)

-- two indexes of one array that the valuation makes equal
abbrev pub meet : Valuation → Index → Index → Bool
meet v x y = array_eq x.array y.array && equal v x.term y.term

abbrev pub row : Valuation → List Index → Index → Row
row v ys x = record { bits = map (meet v x) ys }

abbrev pub rows : Valuation → List Index → List Row
rows v xs = map (row v xs) xs

-- the rows of two tables of indexes
pub record AreRows (v : Valuation) (m : Meetings) : Type 0 where
  pub firsts : m.firsts ≡ rows v m.table.firsts
  pub seconds : m.seconds ≡ rows v m.table.seconds

-- two reads as they have to be
abbrev pub agrees : Valuation → Cell → Cell → Bool
agrees v c d = if meet v (first_index c) (first_index d) && meet v (second_index c) (second_index d) then equal v (read c) (read d) else true

-- a read of a `put` as it has to be
abbrev pub is_read_of_put : Valuation → ArrayTerm → Term → Term → Bool
unfolding hidden term_shape term_child array_shape array_child
is_read_of_put v (Array s) k l = true
is_read_of_put v (PutOf a i j w) k l = if equal v i k && equal v j l then equal v (read (cell (PutOf a i j w) k l)) w else equal v (read (cell (PutOf a i j w) k l)) (read (cell a k l))
