use Rattle.ac_formula_printer.specs.Opened.{hidden, term_shape, term_child, array_shape, array_child}
use Rattle.std.proofs.Common.{sym, ◌∙◌}
use Rattle.ac_formula_printer.proofs.Appends.{put_text, sum_text, difference_text, product_text, read_text}
use Rattle.ac_formula_printer.proofs.Ranges.{put_range, vector_range}
use Rattle.ac_formula_printer.proofs.term_text.+write.Goals as goal

pub write_array-returns-in_ok-push_str-in-Put-5-clause-text : goal.write_array-returns-in_ok-push_str-in-Put-5-clause-text
unfolding hidden term_shape term_child array_shape array_child
write_array-returns-in_ok-push_str-in-Put-5-clause-text t c =
    put_text _ _ _ _ _ _ _ _ _ _ _ _ _ _ _ _ _ _ _ _ c.in-Put.is c.get-inner.ensures c.get-value.ensures c.get-first.ensures c.get-second.ensures
    c.in_ok-push_str-in-Put.ensures.bytes c.in_ok-write_array-in-Put.ensures.text c.in_ok-push_str-in-Put-2.ensures.bytes c.in_ok-write_term-in-Put.ensures.text c.in_ok-push_str-in-Put-3.ensures.bytes c.in_ok-write_term-in-Put-2.ensures.text c.in_ok-push_str-in-Put-4.ensures.bytes c.in_ok-write_term-in-Put-3.ensures.text c.in_ok-push_str-in-Put-5.ensures.bytes

pub write_term-returns-in_ok-close_operand-in-Add-clause-text : goal.write_term-returns-in_ok-close_operand-in-Add-clause-text
unfolding hidden term_shape term_child array_shape array_child
write_term-returns-in_ok-close_operand-in-Add-clause-text t c =
    sum_text _ _ _ _ _ _ _ _ _ _ _ _ c.in-Add.is c.get-left.ensures c.get-right.ensures
    c.in_ok-open_operand-in-Add.ensures c.in_ok-write_term-in-Add.ensures.text c.in_ok-write_operator-in-Add.ensures c.in_ok-write_term-in-Add-2.ensures.text c.in_ok-close_operand-in-Add.ensures

pub write_term-returns-in_ok-close_operand-in-Sub-clause-text : goal.write_term-returns-in_ok-close_operand-in-Sub-clause-text
unfolding hidden term_shape term_child array_shape array_child
write_term-returns-in_ok-close_operand-in-Sub-clause-text t c =
    difference_text _ _ _ _ _ _ _ _ _ _ _ _ c.in-Sub.is c.get-left-in-Sub.ensures c.get-right-in-Sub.ensures
    c.in_ok-open_operand-in-Sub.ensures c.in_ok-write_term-in-Sub.ensures.text c.in_ok-write_operator-in-Sub.ensures c.in_ok-write_term-in-Sub-2.ensures.text c.in_ok-close_operand-in-Sub.ensures

pub write_term-returns-in_ok-close_operand-in-Mul-clause-text : goal.write_term-returns-in_ok-close_operand-in-Mul-clause-text
unfolding hidden term_shape term_child array_shape array_child
write_term-returns-in_ok-close_operand-in-Mul-clause-text t c =
    product_text _ _ _ _ _ _ _ _ _ _ _ _ c.in-Mul.is c.get-left-in-Mul.ensures c.get-right-in-Mul.ensures
    c.in_ok-open_operand-in-Mul.ensures c.in_ok-write_term-in-Mul.ensures.text c.in_ok-write_operator-in-Mul.ensures c.in_ok-write_term-in-Mul-2.ensures.text c.in_ok-close_operand-in-Mul.ensures

pub write_term-returns-in_ok-push_str-in-Read-4-clause-text : goal.write_term-returns-in_ok-push_str-in-Read-4-clause-text
unfolding hidden term_shape term_child array_shape array_child
write_term-returns-in_ok-push_str-in-Read-4-clause-text t c =
    read_text _ _ _ _ _ _ _ _ _ _ _ _ _ _ _ c.in-Read.is c.get-array.ensures c.get-first.ensures c.get-second.ensures (sym c.is_zero.ensures ∙ c.if-is_zero.false)
    c.in_ok-write_array-in-Read.ensures.text c.in_ok-push_str-in-Read.ensures.bytes c.in_ok-write_term-in-Read.ensures.text c.in_ok-push_str-in-Read-3.ensures.bytes c.in_ok-write_term-in-Read-2.ensures.text c.in_ok-push_str-in-Read-4.ensures.bytes

pub write_term-returns-then-is_zero-clause-in_range : goal.write_term-returns-then-is_zero-clause-in_range
unfolding hidden term_shape term_child array_shape array_child
write_term-returns-then-is_zero-clause-in_range t c =
    vector_range _ _ _ _ _ _ _ c.in-Read.is c.get-array.ensures c.get-first.ensures c.get-second.ensures (sym c.is_zero.ensures ∙ c.if-is_zero.true)
    c.in_ok-write_array-in-Read.ensures.in_range c.in_ok-write_term-in-Read.ensures.in_range

pub write_array-returns-in_ok-push_str-in-Put-5-clause-in_range : goal.write_array-returns-in_ok-push_str-in-Put-5-clause-in_range
unfolding hidden term_shape term_child array_shape array_child
write_array-returns-in_ok-push_str-in-Put-5-clause-in_range t c =
    put_range _ _ _ _ _ _ _ _ _ c.in-Put.is c.get-inner.ensures c.get-value.ensures c.get-first.ensures c.get-second.ensures
    c.in_ok-write_array-in-Put.ensures.in_range c.in_ok-write_term-in-Put.ensures.in_range c.in_ok-write_term-in-Put-2.ensures.in_range c.in_ok-write_term-in-Put-3.ensures.in_range
