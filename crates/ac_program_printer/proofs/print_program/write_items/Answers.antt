use Rattle.ac_program_printer.proofs.PrintRules.{items_step, items_end}
use Rattle.ac_program_printer.proofs.print_program.write_items.Goals as goal

pub loop-item-preserved : goal.loop-item-preserved
loop-item-preserved c =
    items_step c.args.items.now c.loop-item.item-index c.item-item.result _ _ _ _ c.loop-item-test.true c.item-item.is c.in_ok-write_item.ensures c.in_ok-push_str.ensures.bytes c.loop-item.invariant

pub returns : goal.returns
returns c = items_end c.args.items.now c.loop-item.item-index _ _ c.loop-item-test.false c.loop-item.invariant
