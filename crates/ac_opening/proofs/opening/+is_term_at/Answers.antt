use Rattle.ac_opening.proofs.Puts.{put_at}
use Rattle.ac_opening.proofs.opening.+is_term_at.Goals as goal

pub is_array_at-returns-then-is_term_at : goal.is_array_at-returns-then-is_term_at
is_array_at-returns-then-is_term_at t c d s =
    put_at d c.args.by.now c.args.array.now c.args.body.now c.in-Put-Put.a c.in-Put-Put.b c.get.result.now c.get-in-Put-Put.result.now c.in-Put-Put.i c.in-Put-Put.j c.in-Put-Put.v c.in-Put-Put.k c.in-Put-Put.l c.in-Put-Put.u c.get-in-Put-Put-2.result.now c.get-in-Put-Put-4.result.now c.get-then-is_term_at.result.now c.get-in-Put-Put-3.result.now c.get-in-Put-Put-5.result.now c.get-then-is_term_at-2.result.now c.is_term_at-then-is_term_at.result c.in-Put-Put.is-0 c.in-Put-Put.is-1 c.get.ensures c.get-in-Put-Put.ensures c.get-in-Put-Put-2.ensures c.get-in-Put-Put-3.ensures c.get-in-Put-Put-4.ensures c.get-in-Put-Put-5.ensures c.get-then-is_term_at.ensures c.get-then-is_term_at-2.ensures ((c.is_array_at.ensures d s).0 c.if-not-is_array_at.false) ((c.is_term_at.ensures d s).0 c.if-not-is_term_at.false) ((c.is_term_at-in-Put-Put.ensures d s).0 c.if-is_term_at.true) (c.is_term_at-then-is_term_at.ensures d s)
