use Rattle.std.proofs.Common.{◌≡◌, true, rules}
use Rattle.ac_logic.specs.Opened.{hidden, term_shape, term_child, array_shape, array_child}
use Rattle.ac_logic.proofs.Puts.{put_absent}
use Rattle.ac_logic.proofs.absence.+is_absent_in_term.Goals as goal

pub is_absent_in_array-returns-then-is_absent_in_term : goal.is_absent_in_array-returns-then-is_absent_in_term
unfolding hidden term_shape term_child array_shape array_child
is_absent_in_array-returns-then-is_absent_in_term t c =
    let x : c.is_absent_in_array.result ≡ true = search rules in
    let y : c.is_absent_in_term.result ≡ true = search rules in
    let z : c.is_absent_in_term-in-Put.result ≡ true = search rules in
    put_absent c.args.symbol.now c.args.array.now c.in-Put.a c.get.result.now c.in-Put.i c.get-in-Put.result.now c.in-Put.j c.get-in-Put-2.result.now c.in-Put.v c.get-then-is_absent_in_term.result.now _ c.in-Put.is c.get.ensures c.get-in-Put.ensures c.get-in-Put-2.ensures c.get-then-is_absent_in_term.ensures (c.is_absent_in_array.ensures.0 x) (c.is_absent_in_term.ensures.0 y) (c.is_absent_in_term-in-Put.ensures.0 z) c.is_absent_in_term-then-is_absent_in_term.ensures
