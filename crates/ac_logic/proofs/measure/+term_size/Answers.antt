use Rattle.ac_logic.specs.Opened.{hidden, term_shape, term_child, array_shape, array_child}
use Rattle.ac_logic.proofs.Saturation.{put_size}
use Rattle.ac_logic.proofs.measure.+term_size.Goals as goal

pub array_size-returns-in-Put : goal.array_size-returns-in-Put
unfolding hidden term_shape term_child array_shape array_child
array_size-returns-in-Put t c =
    put_size c.args.array.now c.in-Put.a c.get.result.now c.in-Put.i c.get-in-Put.result.now c.in-Put.j c.get-in-Put-2.result.now c.in-Put.v c.get-in-Put-3.result.now c.array_size.result c.term_size.result c.term_size-in-Put.result c.term_size-in-Put-2.result c.plus.result c.plus-indexes.result c.plus-in-Put.result c.above.result c.in-Put.is c.get.ensures c.get-in-Put.ensures c.get-in-Put-2.ensures c.get-in-Put-3.ensures c.array_size.ensures c.term_size.ensures c.term_size-in-Put.ensures c.term_size-in-Put-2.ensures c.plus.ensures c.plus-indexes.ensures c.plus-in-Put.ensures c.above.ensures
