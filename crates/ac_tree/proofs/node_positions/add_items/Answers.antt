-- The loop over the declarations.
use Rattle.ac_tree.proofs.AddedNodes.{items-begin, items-step, items-end}
use Rattle.ac_tree.proofs.node_positions.add_items.Goals as goal

pub loop-i-init : goal.loop-i-init
loop-i-init c = items-begin _ _ _

pub returns : goal.returns
returns c = items-end _ _ _ _ _ c.loop-i-test.false c.loop-i.invariant

pub loop-i-preserved : goal.loop-i-preserved
loop-i-preserved c =
    items-step c.args.items.now c.loop-i.i c.args.parent c.number-place.result c.in_ok-open.field-0 _ c.loop-i.found.items _ c.loop-i-test.true c.number-place.ensures c.loop-i.invariant c.in_ok-open.ensures
