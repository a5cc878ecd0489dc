use Rattle.std.proofs.Common.{◌≡◌, sym, ◌∙◌, ap, arith}
use Rattle.std.proofs.lemmas.Grind.{common_steps}
use Rattle.std.proofs.lemmas.List.Elements.{All-push}
use Rattle.ac_ground.specs.Table.{IsPlaced}
use Rattle.ac_ground.proofs.Tables.{all_placed_still, cells_next, fold_next, same_placed}
use Rattle.ac_ground.specs.Table.{first_index, second_index}
use Rattle.ac_ground.proofs.index.all_placed.Goals as goal

pub loop-cell-preserved : goal.loop-cell-preserved
loop-cell-preserved c =
    let there = all_placed_still c.loop-cell.table.firsts c.loop-cell.table.seconds _ _ _ _ c.loop-cell.places c.in_ok-placed.ensures.firsts c.in_ok-placed.ensures.seconds c.loop-cell.invariant.placed in
    record {
      cells = cells_next c.args.cells.now c.loop-cell.cell-index c.cell-item.result c.loop-cell.places c.in_ok-placed.field-0 _ c.loop-cell-test.true c.cell-item.is c.in_ok-placed.ensures.cell c.in_ok-push.ensures.ok c.loop-cell.invariant.cells;
      placed = same_placed _ _ _ _ c.in_ok-push.ensures.ok (All-push (IsPlaced c.placed.new.table.firsts c.placed.new.table.seconds) c.loop-cell.places c.in_ok-placed.field-0 there c.in_ok-placed.ensures.placed);
      firsts = fold_next first_index c.args.cells.now c.loop-cell.cell-index c.cell-item.result c.loop-cell.table.firsts _ _ c.loop-cell-test.true c.cell-item.is c.in_ok-placed.ensures.firsts c.loop-cell.invariant.firsts;
      seconds = fold_next second_index c.args.cells.now c.loop-cell.cell-index c.cell-item.result c.loop-cell.table.seconds _ _ c.loop-cell-test.true c.cell-item.is c.in_ok-placed.ensures.seconds c.loop-cell.invariant.seconds;
    }
