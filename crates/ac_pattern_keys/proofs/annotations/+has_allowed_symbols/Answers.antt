use Rattle.std.proofs.Common.{◌≡◌, true, rules}
use Rattle.ac_pattern_keys.specs.Opened.{hidden, term_shape, term_child, array_shape, array_child}
use Rattle.ac_pattern_keys.proofs.Puts.{put_allowed}
use Rattle.ac_pattern_keys.proofs.annotations.+has_allowed_symbols.Goals as goal

pub are_allowed_in_array-returns-then-are_allowed_in_term : goal.are_allowed_in_array-returns-then-are_allowed_in_term
unfolding hidden term_shape term_child array_shape array_child
are_allowed_in_array-returns-then-are_allowed_in_term t c =
    let x : c.are_allowed_in_array.result ≡ true = search rules in
    let y : c.are_allowed_in_term.result ≡ true = search rules in
    let z : c.are_allowed_in_term-in-Put.result ≡ true = search rules in
    put_allowed _ _ c.args.array.now c.in-Put.a c.get.result.now c.in-Put.i c.get-in-Put.result.now c.in-Put.j c.get-in-Put-2.result.now c.in-Put.v c.get-then-are_allowed_in_term.result.now _ c.in-Put.is c.get.ensures c.get-in-Put.ensures c.get-in-Put-2.ensures c.get-then-are_allowed_in_term.ensures (c.are_allowed_in_array.ensures.0 x) (c.are_allowed_in_term.ensures.0 y) (c.are_allowed_in_term-in-Put.ensures.0 z) c.are_allowed_in_term-then-are_allowed_in_term.ensures
