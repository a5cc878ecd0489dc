use Rattle.ac_ground.specs.Opened.{hidden, term_shape, term_child, array_shape, array_child}
use Rattle.ac_ground.proofs.Gathering.{put_puts, put_reads, read_puts, read_reads}
use Rattle.ac_ground.proofs.found.+add_term.Goals as goal

pub add_array-returns-in_ok-add_term-in-Put-3-clause-reads : goal.add_array-returns-in_ok-add_term-in-Put-3-clause-reads
unfolding hidden term_shape term_child array_shape array_child
add_array-returns-in_ok-add_term-in-Put-3-clause-reads t c =
    put_reads c.args.array.now c.in-Put.a c.get.result.now c.in-Put.i c.get-in-Put.result.now c.in-Put.j c.get-in-Put-2.result.now c.in-Put.v c.get-in-Put-3.result.now _ _ _ _ _ c.in-Put.is c.get.ensures c.get-in-Put.ensures c.get-in-Put-2.ensures c.get-in-Put-3.ensures c.in_ok-add_array-in-Put.ensures.reads c.in_ok-add_term-in-Put.ensures.reads c.in_ok-add_term-in-Put-2.ensures.reads c.in_ok-add_term-in-Put-3.ensures.reads

pub add_array-returns-in_ok-add_term-in-Put-3-clause-puts : goal.add_array-returns-in_ok-add_term-in-Put-3-clause-puts
unfolding hidden term_shape term_child array_shape array_child
add_array-returns-in_ok-add_term-in-Put-3-clause-puts t c =
    put_puts c.args.array.now c.in-Put.a c.get.result.now c.in-Put.i c.get-in-Put.result.now c.in-Put.j c.get-in-Put-2.result.now c.in-Put.v c.get-in-Put-3.result.now _ _ _ _ _ _ c.in-Put.is c.get.ensures c.get-in-Put.ensures c.get-in-Put-2.ensures c.get-in-Put-3.ensures c.in_ok-add_cell-in-Put.ensures c.in_ok-add_array-in-Put.ensures.puts c.in_ok-add_term-in-Put.ensures.puts c.in_ok-add_term-in-Put-2.ensures.puts c.in_ok-add_term-in-Put-3.ensures.puts

pub add_term-returns-in_ok-add_term-in-Read-2-clause-reads : goal.add_term-returns-in_ok-add_term-in-Read-2-clause-reads
unfolding hidden term_shape term_child array_shape array_child
add_term-returns-in_ok-add_term-in-Read-2-clause-reads t c =
    read_reads c.args.term.now c.in-Read.i c.get-in-Read.result.now c.in-Read.j c.get-in-Read-2.result.now c.in-Read.a c.get.result.now _ _ _ _ _ c.in-Read.is c.get.ensures c.get-in-Read.ensures c.get-in-Read-2.ensures c.in_ok-add_reads-in-Read.ensures c.in_ok-add_array-in-Read.ensures.reads c.in_ok-add_term-in-Read.ensures.reads c.in_ok-add_term-in-Read-2.ensures.reads

pub add_term-returns-in_ok-add_term-in-Read-2-clause-puts : goal.add_term-returns-in_ok-add_term-in-Read-2-clause-puts
unfolding hidden term_shape term_child array_shape array_child
add_term-returns-in_ok-add_term-in-Read-2-clause-puts t c =
    read_puts c.args.term.now c.in-Read.i c.get-in-Read.result.now c.in-Read.j c.get-in-Read-2.result.now c.in-Read.a c.get.result.now _ _ _ _ c.in-Read.is c.get.ensures c.get-in-Read.ensures c.get-in-Read-2.ensures c.in_ok-add_array-in-Read.ensures.puts c.in_ok-add_term-in-Read.ensures.puts c.in_ok-add_term-in-Read-2.ensures.puts
