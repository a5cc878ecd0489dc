use Rattle.std.proofs.Common.{◌≡◌, ◌++◌, drop, map, fold}
use Rattle.std.specs.Prelude.{All}
use Rattle.ac_ground.specs.Table.{first_index, IsPlaced, second_index, with_index}
use Rattle.ac_ground.proofs.index.all_placed.Given as goal

abbrev pub invariant-loop-cell : goal.invariant-loop-cell
invariant-loop-cell l = record {
  cells : map (λ p. p.cell) l.places ++ drop l.cell-index l.cells ≡ l.cells;
  placed : All (IsPlaced l.table.firsts l.table.seconds) l.places;
  firsts : fold with_index l.table.firsts (map first_index (drop l.cell-index l.cells)) ≡ fold with_index l.initial.table.firsts (map first_index l.cells);
  seconds : fold with_index l.table.seconds (map second_index (drop l.cell-index l.cells)) ≡ fold with_index l.initial.table.seconds (map second_index l.cells);
}
