use Rattle.std.proofs.Common.{◌≡◌, true, rules}
use Rattle.ac_kernel.specs.Opened.{hidden, term_shape, term_child, array_shape, array_child}
use Rattle.ac_kernel.proofs.Puts.{put_keeps_ranks}
use Rattle.ac_kernel.proofs.ranks.+term_keeps_ranks.Goals as goal

pub array_keeps_ranks-returns-then-term_keeps_ranks : goal.array_keeps_ranks-returns-then-term_keeps_ranks
unfolding hidden term_shape term_child array_shape array_child
array_keeps_ranks-returns-then-term_keeps_ranks t c =
    let x : c.array_keeps_ranks.result ≡ true = search rules in
    let y : c.term_keeps_ranks.result ≡ true = search rules in
    let z : c.term_keeps_ranks-in-Put.result ≡ true = search rules in
    put_keeps_ranks c.args.names.now c.args.array.now c.in-Put.a c.get.result.now c.in-Put.i c.get-in-Put.result.now c.in-Put.j c.get-in-Put-2.result.now c.in-Put.v c.get-then-term_keeps_ranks.result.now _ c.in-Put.is c.get.ensures c.get-in-Put.ensures c.get-in-Put-2.ensures c.get-then-term_keeps_ranks.ensures (c.array_keeps_ranks.ensures.0 x) (c.term_keeps_ranks.ensures.0 y) (c.term_keeps_ranks-in-Put.ensures.0 z) c.term_keeps_ranks-then-term_keeps_ranks.ensures
