use Rattle.std.proofs.Common.{rules, arith}
use Rattle.ac_numbering.proofs.NumberLists.{items_start, items_step, items_end}
use Rattle.ac_numbering.proofs.numbering.number_items.Goals as goal

pub loop-item-init : goal.loop-item-init
loop-item-init c = items_start _ _ _ (omega arith) (search rules)

pub loop-item-preserved : goal.loop-item-preserved
loop-item-preserved c =
    items_step c.args.first c.args.items.now _ c.loop-item.item-index c.loop-item.next c.in_ok-item.after c.loop-item.numbered _ c.item-item.result c.in_ok-item.item c.as_slice-item-items.ensures c.loop-item-test.true c.item-item.is c.loop-item.invariant c.in_ok-item.ensures c.in_ok-push.ensures.ok

pub returns : goal.returns
returns c = items_end c.args.first c.args.items.now _ c.loop-item.item-index c.loop-item.next c.loop-item.numbered c.as_slice-item-items.ensures c.loop-item-test.false c.loop-item.invariant
