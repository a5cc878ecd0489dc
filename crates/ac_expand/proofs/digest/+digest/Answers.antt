use Rattle.ac_expand.specs.Opened.{hidden, term_shape, term_child, array_shape, array_child}
use Rattle.ac_expand.proofs.Puts.{put_digest}
use Rattle.ac_expand.proofs.digest.+digest.Goals as goal

pub array_digest-returns-in-Put : goal.array_digest-returns-in-Put
unfolding hidden term_shape term_child array_shape array_child
array_digest-returns-in-Put t c =
    put_digest c.args.array.now c.in-Put.a c.get.result.now c.in-Put.i c.get-in-Put.result.now c.in-Put.field-2 c.in-Put.v c.get-in-Put-2.result.now c.array_digest.result c.mixed-array.result c.digest.result c.mixed.result c.digest-in-Put.result c.mixed-in-Put.result c.in-Put.is c.get.ensures c.get-in-Put.ensures c.get-in-Put-2.ensures c.array_digest.ensures c.mixed-array.ensures c.digest.ensures c.mixed.ensures c.digest-in-Put.ensures c.mixed-in-Put.ensures
