use Rattle.std.proofs.Common.{reverse}
use Rattle.std.proofs.lemmas.Result.{IfOk-weaker}
use Rattle.ac_expand.specs.Opened.{hidden, term_shape, term_child, array_shape, array_child}
use Rattle.ac_expand.proofs.Puts.{put_with, read_with}
use Rattle.ac_expand.proofs.bound.+term_with.Goals as goal

pub array_with-returns-in_ok-u-in-Put : goal.array_with-returns-in_ok-u-in-Put
unfolding hidden term_shape term_child array_shape array_child
array_with-returns-in_ok-u-in-Put t c =
    IfOk-weaker c.renew_put.result _ _ (λ new h. put_with (reverse c.args.bound.now) c.args.array.now c.in-Put.a c.get.result.now c.in-Put.i c.get-in-Put.result.now c.in-Put.j c.get-in-Put-2.result.now c.in-Put.v c.get-in-Put-3.result.now c.in_ok-b-in-Put.b c.in_ok-k-in-Put.k c.in_ok-l-in-Put.l c.in_ok-u-in-Put.u new c.in-Put.is c.get.ensures c.get-in-Put.ensures c.get-in-Put-2.ensures c.get-in-Put-3.ensures c.in_ok-b-in-Put.ensures c.in_ok-k-in-Put.ensures c.in_ok-l-in-Put.ensures c.in_ok-u-in-Put.ensures h) c.renew_put.ensures

pub term_with-returns-in_ok-l-in-Read : goal.term_with-returns-in_ok-l-in-Read
unfolding hidden term_shape term_child array_shape array_child
term_with-returns-in_ok-l-in-Read t c =
    IfOk-weaker c.renew_read.result _ _ (λ new h. read_with (reverse c.args.bound.now) c.args.term.now c.in-Read.a c.get.result.now c.in-Read.i c.get-in-Read.result.now c.in-Read.j c.get-in-Read-2.result.now c.in_ok-b-in-Read.b c.in_ok-k-in-Read.k c.in_ok-l-in-Read.l new c.in-Read.is c.get.ensures c.get-in-Read.ensures c.get-in-Read-2.ensures c.in_ok-b-in-Read.ensures c.in_ok-k-in-Read.ensures c.in_ok-l-in-Read.ensures h) c.renew_read.ensures
