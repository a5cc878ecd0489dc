-- The whole walk: the program, its declarations and its body.
use Rattle.ac_tree.proofs.AddedNodes.{program-positions}
use Rattle.ac_tree.proofs.node_positions.positions.Goals as goal

pub returns : goal.returns
returns c =
    program-positions c.args.program.now c.in_ok-own.own _ _ _ _ _ _ _ c.requires c.new-found.ensures.items c.as_slice.ensures c.as_slice-2.ensures
    c.in_ok-own.ensures c.in_ok-add_items.ensures c.in_ok-add_block.ensures c.close.ensures
