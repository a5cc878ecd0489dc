use Rattle.ac_flow.proofs.Blocks.{pairs_all}
use Rattle.ac_flow.proofs.pair_list.pairs.Goals as goal

pub returns : goal.returns
returns c =
    pairs_all _ _ _ _ _ _ _ _ _ _ c.in_ok-mark_cuts.ensures c.in_ok-mark_nodes.ensures c.new-found.ensures.items c.new-live.ensures.items c.in_ok-push.ensures.items
    c.as_slice.ensures c.in_ok-add_block.ensures.pairs
