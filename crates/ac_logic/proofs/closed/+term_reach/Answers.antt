use Rattle.ac_logic.specs.Opened.{hidden, term_shape, term_child, array_shape, array_child}
use Rattle.ac_logic.proofs.Reaches.{put_reach}
use Rattle.ac_logic.proofs.closed.+term_reach.Goals as goal

pub array_reach-returns-in-Put : goal.array_reach-returns-in-Put
unfolding hidden term_shape term_child array_shape array_child
array_reach-returns-in-Put t c =
    put_reach c.args.array.now c.in-Put.a c.get.result.now c.in-Put.i c.get-in-Put.result.now c.in-Put.j c.get-in-Put-2.result.now c.in-Put.v c.get-in-Put-3.result.now c.array_reach.result c.term_reach.result c.term_reach-in-Put.result c.term_reach-in-Put-2.result c.larger.result c.larger-indexes.result c.larger-in-Put.result c.in-Put.is c.get.ensures c.get-in-Put.ensures c.get-in-Put-2.ensures c.get-in-Put-3.ensures c.array_reach.ensures c.term_reach.ensures c.term_reach-in-Put.ensures c.term_reach-in-Put-2.ensures c.larger.ensures c.larger-indexes.ensures c.larger-in-Put.ensures
