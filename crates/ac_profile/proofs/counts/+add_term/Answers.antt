use Rattle.std.proofs.lemmas.Result.{on_ok_weaker}
use Rattle.ac_profile.specs.Opened.{hidden, term_shape, term_child, array_shape, array_child}
use Rattle.ac_profile.proofs.Steps.{negated, read_of, put_of, sum_of, difference_of, product_of}
use Rattle.ac_profile.proofs.counts.+add_term.Goals as goal

pub add_array-returns-in_ok-add_term-in-Put-2 : goal.add_array-returns-in_ok-add_term-in-Put-2
unfolding hidden term_shape term_child array_shape array_child
add_array-returns-in_ok-add_term-in-Put-2 t c =
    on_ok_weaker c.add_term-in-Put-2.result
    (λ h. put_of c.args.place c.below-under.result c.below-under.ensures _ _ _ _ _ _ _ _ _ _ _ _ _ _ _ c.in-Put.is c.get.ensures c.get-in-Put.ensures c.get-in-Put-2.ensures c.get-in-Put-3.ensures
    c.add_node.ensures c.in_ok-add_array-in-Put.ensures c.in_ok-add_term-in-Put.ensures c.in_ok-add_term-in-Put-2.ensures h)
    c.add_term-in-Put-2.ensures

pub add_term-returns-in_ok-add_term-in-Read : goal.add_term-returns-in_ok-add_term-in-Read
unfolding hidden term_shape term_child array_shape array_child
add_term-returns-in_ok-add_term-in-Read t c =
    on_ok_weaker c.add_term-in-Read.result
    (λ h. read_of c.args.place c.below-under.result c.below-under.ensures _ _ _ _ _ _ _ _ _ _ _ _ c.in-Read.is c.get.ensures c.get-in-Read.ensures c.get-in-Read-2.ensures
    c.add_node-in-Read.ensures c.in_ok-add_array-in-Read.ensures c.in_ok-add_term-in-Read.ensures h)
    c.add_term-in-Read.ensures

pub add_term-returns-in-Neg : goal.add_term-returns-in-Neg
unfolding hidden term_shape term_child array_shape array_child
add_term-returns-in-Neg t c =
    on_ok_weaker c.add_term-in-Neg.result
    (λ h. negated c.args.place c.below-under-in-Neg.result c.below-under-in-Neg.ensures _ _ _ _ _ _ c.in-Neg.is c.get-in-Neg.ensures c.add_node-in-Neg.ensures h)
    c.add_term-in-Neg.ensures

pub add_term-returns-in_ok-add_term-in-Add : goal.add_term-returns-in_ok-add_term-in-Add
unfolding hidden term_shape term_child array_shape array_child
add_term-returns-in_ok-add_term-in-Add t c =
    on_ok_weaker c.add_term-in-Add-2.result
    (λ h. sum_of c.args.place c.below-under-in-Add.result c.below-under-in-Add.ensures _ _ _ _ _ _ _ _ _ c.in-Add.is c.get-in-Add.ensures c.get-in-Add-2.ensures c.add_node-in-Add.ensures c.in_ok-add_term-in-Add.ensures h)
    c.add_term-in-Add-2.ensures

pub add_term-returns-in_ok-add_term-in-Sub : goal.add_term-returns-in_ok-add_term-in-Sub
unfolding hidden term_shape term_child array_shape array_child
add_term-returns-in_ok-add_term-in-Sub t c =
    on_ok_weaker c.add_term-in-Sub-2.result
    (λ h. difference_of c.args.place c.below-under-in-Sub.result c.below-under-in-Sub.ensures _ _ _ _ _ _ _ _ _ c.in-Sub.is c.get-in-Sub.ensures c.get-in-Sub-2.ensures c.add_node-in-Sub.ensures c.in_ok-add_term-in-Sub.ensures h)
    c.add_term-in-Sub-2.ensures

pub add_term-returns-in_ok-add_term-in-Mul : goal.add_term-returns-in_ok-add_term-in-Mul
unfolding hidden term_shape term_child array_shape array_child
add_term-returns-in_ok-add_term-in-Mul t c =
    on_ok_weaker c.add_term-in-Mul-2.result
    (λ h. product_of c.args.place c.below-under-in-Mul.result c.below-under-in-Mul.ensures _ _ _ _ _ _ _ _ _ c.in-Mul.is c.get-in-Mul.ensures c.get-in-Mul-2.ensures c.add_node-in-Mul.ensures c.in_ok-add_term-in-Mul.ensures h)
    c.add_term-in-Mul-2.ensures
