use Rattle.ac_program_printer.proofs.Fits.{items_step, items_end}
use Rattle.ac_program_printer.proofs.numbers.fit_items.Goals as goal

pub loop-item-preserved : goal.loop-item-preserved
loop-item-preserved c = items_step c.args.items.now c.loop-item.item-index c.item-item.result c.loop-item-test.true c.item-item.is c.fit_kind.ensures c.loop-item.invariant

pub returns : goal.returns
returns c = items_end c.args.items.now c.loop-item.item-index c.loop-item-test.false c.loop-item.invariant
