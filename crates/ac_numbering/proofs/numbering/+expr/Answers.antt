use Rattle.std.proofs.Common.{rules}
use Rattle.ac_tree.specs.declared.program.ExprKind.TheVariants as expr
use Rattle.ac_numbering.proofs.NumberRules.{nodes-Add, nodes-Sub, nodes-Mul, numbered-Add, numbered-Sub, numbered-Mul, num_numbered, get_numbered, read_numbered, neg_numbered, operation_numbered, one_index_numbered, two_indexes_numbered, whole_expr_numbered}
use Rattle.ac_numbering.proofs.numbering.+expr.Goals as goal

pub number_expr-returns : goal.number_expr-returns
number_expr-returns t c =
    whole_expr_numbered c.args.expr.now c.numbered-node.result c.in_ok-kind.kind c.args.first c.in_ok-kind.next c.numbered-node.ensures c.in_ok-kind.ensures

pub number_expr_kind-returns-in-Num : goal.number_expr_kind-returns-in-Num
number_expr_kind-returns-in-Num t c = num_numbered c.args.kind.now _ c.args.first c.behind-second.result c.in-Num.is c.behind-second.ensures

pub number_expr_kind-returns-in_ok-name-in-Get : goal.number_expr_kind-returns-in_ok-name-in-Get
number_expr_kind-returns-in_ok-name-in-Get t c = get_numbered c.args.kind.now c.in-Get.name c.in_ok-name-in-Get.name c.args.first c.behind-second.result c.in-Get.is c.behind-second.ensures (search rules)

pub number_expr_kind-returns-in_ok-index-in-Read : goal.number_expr_kind-returns-in_ok-index-in-Read
number_expr_kind-returns-in_ok-index-in-Read t c =
    read_numbered c.args.kind.now c.in-Read.name c.in_ok-name-in-Read.name c.in-Read.index c.in_ok-index-in-Read.index c.args.first c.behind-second.result c.in_ok-index-in-Read.next c.in-Read.is c.behind-second.ensures (search rules) c.in_ok-index-in-Read.ensures

pub number_expr_kind-returns-in_ok-inner-in-Neg : goal.number_expr_kind-returns-in_ok-inner-in-Neg
number_expr_kind-returns-in_ok-inner-in-Neg t c =
    neg_numbered c.args.kind.now c.in-Neg.inner c.in_ok-inner-in-Neg.inner c.args.first c.behind-second.result c.in_ok-inner-in-Neg.next c.in-Neg.is c.behind-second.ensures c.in_ok-inner-in-Neg.ensures

pub number_expr_kind-returns-in_ok-right-in-Add : goal.number_expr_kind-returns-in_ok-right-in-Add
number_expr_kind-returns-in_ok-right-in-Add t c =
    operation_numbered expr.Add nodes-Add numbered-Add c.args.kind.now c.in-Add.left c.in_ok-left-in-Add.left c.in-Add.right c.in_ok-right-in-Add.right c.args.first c.behind-second.result c.in_ok-left-in-Add.third c.in_ok-right-in-Add.next c.in-Add.is c.behind-second.ensures c.in_ok-left-in-Add.ensures c.in_ok-right-in-Add.ensures

pub number_expr_kind-returns-in_ok-right-in-Sub : goal.number_expr_kind-returns-in_ok-right-in-Sub
number_expr_kind-returns-in_ok-right-in-Sub t c =
    operation_numbered expr.Sub nodes-Sub numbered-Sub c.args.kind.now c.in-Sub.left c.in_ok-left-in-Sub.left c.in-Sub.right c.in_ok-right-in-Sub.right c.args.first c.behind-second.result c.in_ok-left-in-Sub.third c.in_ok-right-in-Sub.next c.in-Sub.is c.behind-second.ensures c.in_ok-left-in-Sub.ensures c.in_ok-right-in-Sub.ensures

pub number_expr_kind-returns-in_ok-right-in-Mul : goal.number_expr_kind-returns-in_ok-right-in-Mul
number_expr_kind-returns-in_ok-right-in-Mul t c =
    operation_numbered expr.Mul nodes-Mul numbered-Mul c.args.kind.now c.in-Mul.left c.in_ok-left-in-Mul.left c.in-Mul.right c.in_ok-right-in-Mul.right c.args.first c.behind-second.result c.in_ok-left-in-Mul.third c.in_ok-right-in-Mul.next c.in-Mul.is c.behind-second.ensures c.in_ok-left-in-Mul.ensures c.in_ok-right-in-Mul.ensures

pub number_index-returns-in_ok-only-in-One : goal.number_index-returns-in_ok-only-in-One
number_index-returns-in_ok-only-in-One t c =
    one_index_numbered c.args.index.now c.in-One.only c.in_ok-only-in-One.only c.args.first c.in_ok-only-in-One.next c.in-One.is c.in_ok-only-in-One.ensures

pub number_index-returns-in_ok-column-in-Two : goal.number_index-returns-in_ok-column-in-Two
number_index-returns-in_ok-column-in-Two t c =
    two_indexes_numbered c.args.index.now c.in-Two.row c.in_ok-row-in-Two.row c.in-Two.column c.in_ok-column-in-Two.column c.args.first c.in_ok-row-in-Two.second c.in_ok-column-in-Two.next c.in-Two.is c.in_ok-row-in-Two.ensures c.in_ok-column-in-Two.ensures
