use Rattle.ac_expand.specs.Opened.{hidden, term_shape, term_child, array_shape, array_child}
use Rattle.ac_expand.proofs.Puts.{put_ground, put_indexes}
use Rattle.ac_expand.proofs.index.+add_term.Goals as goal

pub add_array-returns-in_ok-array-in-Put-clause-found : goal.add_array-returns-in_ok-array-in-Put-clause-found
unfolding hidden term_shape term_child array_shape array_child
add_array-returns-in_ok-array-in-Put-clause-found t c =
    put_indexes c.args.array.now c.in-Put.a c.get-in-Put.result.now c.in-Put.i c.in-Put.j c.in-Put.v c.get.result.now _ _ _ _ _ c.in-Put.is c.get-in-Put.ensures c.get.ensures c.in_ok-value-in-Put.ensures.found c.in_ok-second-in-Put.ensures.found c.in_ok-first-in-Put.ensures.found c.in_ok-array-in-Put.ensures.found

pub add_array-returns-in_ok-array-in-Put-clause-closed : goal.add_array-returns-in_ok-array-in-Put-clause-closed
unfolding hidden term_shape term_child array_shape array_child
add_array-returns-in_ok-array-in-Put-clause-closed t c =
    put_ground c.args.array.now c.in-Put.a c.get-in-Put.result.now c.in-Put.i c.in-Put.j c.in-Put.v c.get.result.now _ _ _ _ _ c.in-Put.is c.get-in-Put.ensures c.get.ensures c.in_ok-value-in-Put.ensures.closed c.in_ok-second-in-Put.ensures.closed c.in_ok-first-in-Put.ensures.closed c.in_ok-array-in-Put.ensures.closed c.all_closed.ensures
