use Rattle.ac_logic.specs.Opened.{hidden, term_shape, term_child, array_shape, array_child}
use Rattle.ac_logic.proofs.Saturation.{put_depth}
use Rattle.ac_logic.proofs.measure.+term_depth.Goals as goal

pub array_depth-returns-in-Put : goal.array_depth-returns-in-Put
unfolding hidden term_shape term_child array_shape array_child
array_depth-returns-in-Put t c =
    put_depth c.args.array.now c.in-Put.a c.get.result.now c.in-Put.i c.get-in-Put.result.now c.in-Put.j c.get-in-Put-2.result.now c.in-Put.v c.get-in-Put-3.result.now c.array_depth.result c.term_depth.result c.term_depth-in-Put.result c.term_depth-in-Put-2.result c.larger.result c.larger-indexes.result c.larger-in-Put.result c.above.result c.in-Put.is c.get.ensures c.get-in-Put.ensures c.get-in-Put-2.ensures c.get-in-Put-3.ensures c.array_depth.ensures c.term_depth.ensures c.term_depth-in-Put.ensures c.term_depth-in-Put-2.ensures c.larger.ensures c.larger-indexes.ensures c.larger-in-Put.ensures c.above.ensures
