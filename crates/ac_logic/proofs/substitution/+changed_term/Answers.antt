use Rattle.std.proofs.lemmas.Result.{IfOk-weaker}
use Rattle.ac_logic.specs.Opened.{hidden, term_shape, term_child, array_shape, array_child}
use Rattle.ac_logic.proofs.Puts.{put_after}
use Rattle.ac_logic.proofs.substitution.+changed_term.Goals as goal

pub changed_array-returns-in_ok-u-in-Put : goal.changed_array-returns-in_ok-u-in-Put
unfolding hidden term_shape term_child array_shape array_child
changed_array-returns-in_ok-u-in-Put t c =
    IfOk-weaker c.renew_put.result _ _ (λ new h. put_after c.args.changes.now c.args.array.now c.in-Put.a c.get.result.now c.in-Put.i c.get-in-Put.result.now c.in-Put.j c.get-in-Put-2.result.now c.in-Put.v c.get-in-Put-3.result.now c.in_ok-b-in-Put.b c.in_ok-k-in-Put.k c.in_ok-l-in-Put.l c.in_ok-u-in-Put.u new c.in-Put.is c.get.ensures c.get-in-Put.ensures c.get-in-Put-2.ensures c.get-in-Put-3.ensures c.in_ok-b-in-Put.ensures c.in_ok-k-in-Put.ensures c.in_ok-l-in-Put.ensures c.in_ok-u-in-Put.ensures h) c.renew_put.ensures
