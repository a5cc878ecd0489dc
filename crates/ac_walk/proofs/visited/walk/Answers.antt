use Rattle.ac_walk.proofs.Whole.{walk_all}
use Rattle.ac_walk.proofs.visited.walk.Goals as goal

pub returns : goal.returns
returns c =
    walk_all _ _ _ c.args.pair.now.target c.args.pair.now.cut _ _ _ _ _ _ _ _ _ c.as_slice.ensures.value c.in_ok-barriers.ensures c.new-found.ensures.items
    c.as_slice-2.ensures c.as_slice-3.ensures c.in_ok-add_inputs.ensures c.in_ok-add_path.ensures c.node_of.ensures c.in_ok-add_last.ensures
