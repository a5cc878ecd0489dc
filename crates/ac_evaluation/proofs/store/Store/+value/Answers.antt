use Rattle.std.proofs.Common.{refl, rules, to_z, of_z}
use mir.Syntax.{w128}
use Rattle.std.proofs.lemmas.Int.{to_z-of_z}
use Rattle.ac_evaluation.proofs.Productions.{sum_is, difference_is, product_is, first_stops, second_stops, made_of_both, negation_stops, negation_made, row_stops, column_stops, both_indexes}
use Rattle.ac_evaluation.proofs.store.Store.+value.Goals as goal

pub value-returns-in_err-x-in-Neg : goal.value-returns-in_err-x-in-Neg
value-returns-in_err-x-in-Neg t c =
    negation_stops c.args.self.now.program c.args.self.now.start c.args.self.now.memory c.args.e.now.kind c.in-Neg.a c.get.result.now c.in-Neg.is c.get.ensures c.from_residual-in_err-x-in-Neg.result _ _ _ c.from_residual-in_err-x-in-Neg.ensures.1 c.in_err-x-in-Neg.ensures

pub value-returns-in_ok-x-in-Neg : goal.value-returns-in_ok-x-in-Neg
value-returns-in_ok-x-in-Neg t c =
    negation_made c.args.self.now.program c.args.self.now.start c.args.self.now.memory c.args.e.now.kind c.in-Neg.a c.get.result.now c.in-Neg.is c.get.ensures c.negation.result c.in_ok-x-in-Neg.x _ _ _ c.in_ok-x-in-Neg.ensures (search (rules, to_z-of_z)) c.negation.ensures

pub value-returns-in_err-x-in-Add : goal.value-returns-in_err-x-in-Add
value-returns-in_err-x-in-Add t c =
    first_stops c.args.self.now.program c.args.self.now.start c.args.self.now.memory c.args.e.now.kind c.get-in-Add.result.now.kind c.in-Add.b.kind _ (sum_is c.args.self.now.program c.args.self.now.start c.args.self.now.memory c.args.e.now.kind c.in-Add.a c.in-Add.b c.get-in-Add.result.now c.in-Add.b c.in-Add.is c.get-in-Add.ensures refl)
    c.from_residual-in_err-x-in-Add.result _ _ _ c.from_residual-in_err-x-in-Add.ensures.1 c.in_err-x-in-Add.ensures

pub value-returns-in_err-y-in-Add : goal.value-returns-in_err-y-in-Add
value-returns-in_err-y-in-Add t c =
    second_stops c.args.self.now.program c.args.self.now.start c.args.self.now.memory c.args.e.now.kind c.get-in-Add.result.now.kind c.get-in-Add-2.result.now.kind _ (sum_is c.args.self.now.program c.args.self.now.start c.args.self.now.memory c.args.e.now.kind c.in-Add.a c.in-Add.b c.get-in-Add.result.now c.get-in-Add-2.result.now c.in-Add.is c.get-in-Add.ensures c.get-in-Add-2.ensures)
    c.from_residual-in_err-y-in-Add.result c.in_ok-x-in-Add.x _ _ _ _ c.from_residual-in_err-y-in-Add.ensures.1 c.in_ok-x-in-Add.ensures c.in_err-y-in-Add.ensures

pub value-returns-in_ok-y-in-Add : goal.value-returns-in_ok-y-in-Add
value-returns-in_ok-y-in-Add t c =
    made_of_both c.args.self.now.program c.args.self.now.start c.args.self.now.memory c.args.e.now.kind c.get-in-Add.result.now.kind c.get-in-Add-2.result.now.kind _ (sum_is c.args.self.now.program c.args.self.now.start c.args.self.now.memory c.args.e.now.kind c.in-Add.a c.in-Add.b c.get-in-Add.result.now c.get-in-Add-2.result.now c.in-Add.is c.get-in-Add.ensures c.get-in-Add-2.ensures)
    c.sum.result c.in_ok-x-in-Add.x c.in_ok-y-in-Add.y (to_z w128 (of_z w128 c.in_ok-x-in-Add.x)) (to_z w128 (of_z w128 c.in_ok-y-in-Add.y)) _ _ _ c.in_ok-x-in-Add.ensures c.in_ok-y-in-Add.ensures (search (rules, to_z-of_z)) (search (rules, to_z-of_z)) c.sum.ensures

pub value-returns-in_err-x-in-Sub : goal.value-returns-in_err-x-in-Sub
value-returns-in_err-x-in-Sub t c =
    first_stops c.args.self.now.program c.args.self.now.start c.args.self.now.memory c.args.e.now.kind c.get-in-Sub.result.now.kind c.in-Sub.b.kind _ (difference_is c.args.self.now.program c.args.self.now.start c.args.self.now.memory c.args.e.now.kind c.in-Sub.a c.in-Sub.b c.get-in-Sub.result.now c.in-Sub.b c.in-Sub.is c.get-in-Sub.ensures refl)
    c.from_residual-in_err-x-in-Sub.result _ _ _ c.from_residual-in_err-x-in-Sub.ensures.1 c.in_err-x-in-Sub.ensures

pub value-returns-in_err-y-in-Sub : goal.value-returns-in_err-y-in-Sub
value-returns-in_err-y-in-Sub t c =
    second_stops c.args.self.now.program c.args.self.now.start c.args.self.now.memory c.args.e.now.kind c.get-in-Sub.result.now.kind c.get-in-Sub-2.result.now.kind _ (difference_is c.args.self.now.program c.args.self.now.start c.args.self.now.memory c.args.e.now.kind c.in-Sub.a c.in-Sub.b c.get-in-Sub.result.now c.get-in-Sub-2.result.now c.in-Sub.is c.get-in-Sub.ensures c.get-in-Sub-2.ensures)
    c.from_residual-in_err-y-in-Sub.result c.in_ok-x-in-Sub.x _ _ _ _ c.from_residual-in_err-y-in-Sub.ensures.1 c.in_ok-x-in-Sub.ensures c.in_err-y-in-Sub.ensures

pub value-returns-in_ok-y-in-Sub : goal.value-returns-in_ok-y-in-Sub
value-returns-in_ok-y-in-Sub t c =
    made_of_both c.args.self.now.program c.args.self.now.start c.args.self.now.memory c.args.e.now.kind c.get-in-Sub.result.now.kind c.get-in-Sub-2.result.now.kind _ (difference_is c.args.self.now.program c.args.self.now.start c.args.self.now.memory c.args.e.now.kind c.in-Sub.a c.in-Sub.b c.get-in-Sub.result.now c.get-in-Sub-2.result.now c.in-Sub.is c.get-in-Sub.ensures c.get-in-Sub-2.ensures)
    c.difference.result c.in_ok-x-in-Sub.x c.in_ok-y-in-Sub.y (to_z w128 (of_z w128 c.in_ok-x-in-Sub.x)) (to_z w128 (of_z w128 c.in_ok-y-in-Sub.y)) _ _ _ c.in_ok-x-in-Sub.ensures c.in_ok-y-in-Sub.ensures (search (rules, to_z-of_z)) (search (rules, to_z-of_z)) c.difference.ensures

pub value-returns-in_err-x-in-Mul : goal.value-returns-in_err-x-in-Mul
value-returns-in_err-x-in-Mul t c =
    first_stops c.args.self.now.program c.args.self.now.start c.args.self.now.memory c.args.e.now.kind c.get-in-Mul.result.now.kind c.in-Mul.b.kind _ (product_is c.args.self.now.program c.args.self.now.start c.args.self.now.memory c.args.e.now.kind c.in-Mul.a c.in-Mul.b c.get-in-Mul.result.now c.in-Mul.b c.in-Mul.is c.get-in-Mul.ensures refl)
    c.from_residual-in_err-x-in-Mul.result _ _ _ c.from_residual-in_err-x-in-Mul.ensures.1 c.in_err-x-in-Mul.ensures

pub value-returns-in_err-y-in-Mul : goal.value-returns-in_err-y-in-Mul
value-returns-in_err-y-in-Mul t c =
    second_stops c.args.self.now.program c.args.self.now.start c.args.self.now.memory c.args.e.now.kind c.get-in-Mul.result.now.kind c.get-in-Mul-2.result.now.kind _ (product_is c.args.self.now.program c.args.self.now.start c.args.self.now.memory c.args.e.now.kind c.in-Mul.a c.in-Mul.b c.get-in-Mul.result.now c.get-in-Mul-2.result.now c.in-Mul.is c.get-in-Mul.ensures c.get-in-Mul-2.ensures)
    c.from_residual-in_err-y-in-Mul.result c.in_ok-x-in-Mul.x _ _ _ _ c.from_residual-in_err-y-in-Mul.ensures.1 c.in_ok-x-in-Mul.ensures c.in_err-y-in-Mul.ensures

pub value-returns-in_ok-y-in-Mul : goal.value-returns-in_ok-y-in-Mul
value-returns-in_ok-y-in-Mul t c =
    made_of_both c.args.self.now.program c.args.self.now.start c.args.self.now.memory c.args.e.now.kind c.get-in-Mul.result.now.kind c.get-in-Mul-2.result.now.kind _ (product_is c.args.self.now.program c.args.self.now.start c.args.self.now.memory c.args.e.now.kind c.in-Mul.a c.in-Mul.b c.get-in-Mul.result.now c.get-in-Mul-2.result.now c.in-Mul.is c.get-in-Mul.ensures c.get-in-Mul-2.ensures)
    c.product.result c.in_ok-x-in-Mul.x c.in_ok-y-in-Mul.y (to_z w128 (of_z w128 c.in_ok-x-in-Mul.x)) (to_z w128 (of_z w128 c.in_ok-y-in-Mul.y)) _ _ _ c.in_ok-x-in-Mul.ensures c.in_ok-y-in-Mul.ensures (search (rules, to_z-of_z)) (search (rules, to_z-of_z)) c.product.ensures

pub indexes-returns-in_err-i-in-Two : goal.indexes-returns-in_err-i-in-Two
indexes-returns-in_err-i-in-Two t c =
    row_stops c.args.self.now.program c.args.self.now.start c.args.self.now.memory c.args.at.now c.in-Two.a c.in-Two.b c.get-in-Two.result.now c.in-Two.b c.in-Two.is c.get-in-Two.ensures refl c.from_residual-in_err-i-in-Two.result _ _ _ c.from_residual-in_err-i-in-Two.ensures.1 c.in_err-i-in-Two.ensures

pub indexes-returns-in_err-j-in-Two : goal.indexes-returns-in_err-j-in-Two
indexes-returns-in_err-j-in-Two t c =
    column_stops c.args.self.now.program c.args.self.now.start c.args.self.now.memory c.args.at.now c.in-Two.a c.in-Two.b c.get-in-Two.result.now c.get-in-Two-2.result.now c.in-Two.is c.get-in-Two.ensures c.get-in-Two-2.ensures
    c.from_residual-in_err-j-in-Two.result c.in_ok-i-in-Two.i _ _ _ _ c.from_residual-in_err-j-in-Two.ensures.1 c.in_ok-i-in-Two.ensures c.in_err-j-in-Two.ensures

pub indexes-returns-in_ok-j-in-Two : goal.indexes-returns-in_ok-j-in-Two
indexes-returns-in_ok-j-in-Two t c =
    both_indexes c.args.self.now.program c.args.self.now.start c.args.self.now.memory c.args.at.now c.in-Two.a c.in-Two.b c.get-in-Two.result.now c.get-in-Two-2.result.now c.in-Two.is c.get-in-Two.ensures c.get-in-Two-2.ensures
    c.in_ok-i-in-Two.i c.in_ok-j-in-Two.j _ _ _ _ _ c.in_ok-i-in-Two.ensures c.in_ok-j-in-Two.ensures (search (rules, to_z-of_z)) (search (rules, to_z-of_z))
