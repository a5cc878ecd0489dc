use Rattle.std.proofs.Common.{rules, arith}
use Rattle.ac_numbering.proofs.NumberLists.{block_start, block_step, block_end}
use Rattle.ac_numbering.proofs.NumberRules.{set_numbered, put_numbered, if_numbered, for_numbered, while_numbered, hand_numbered, skip_numbered, whole_stmt_numbered}
use Rattle.ac_numbering.proofs.numbering.+stmt.Goals as goal

pub number_stmt-returns : goal.number_stmt-returns
number_stmt-returns t c =
    whole_stmt_numbered c.args.stmt.now c.numbered-node.result c.in_ok-kind.kind c.args.first c.in_ok-kind.next c.numbered-node.ensures c.in_ok-kind.ensures

pub number_stmt_kind-returns-in_ok-value-in-Set : goal.number_stmt_kind-returns-in_ok-value-in-Set
number_stmt_kind-returns-in_ok-value-in-Set t c =
    set_numbered c.args.kind.now c.in-Set.name c.in_ok-name-in-Set.name c.in-Set.value c.in_ok-value-in-Set.value c.args.first c.behind-second.result c.in_ok-value-in-Set.next c.in-Set.is c.behind-second.ensures (search rules) c.in_ok-value-in-Set.ensures

pub number_stmt_kind-returns-in_ok-value-in-Put : goal.number_stmt_kind-returns-in_ok-value-in-Put
number_stmt_kind-returns-in_ok-value-in-Put t c =
    put_numbered c.args.kind.now c.in-Put.name c.in_ok-name-in-Put.name c.in-Put.index c.in_ok-index-in-Put.index c.in-Put.value c.in_ok-value-in-Put.value c.args.first c.behind-second.result c.in_ok-index-in-Put.third c.in_ok-value-in-Put.next c.in-Put.is c.behind-second.ensures (search rules) c.in_ok-index-in-Put.ensures c.in_ok-value-in-Put.ensures

pub number_stmt_kind-returns-in_ok-no-in-If : goal.number_stmt_kind-returns-in_ok-no-in-If
number_stmt_kind-returns-in_ok-no-in-If t c =
    if_numbered c.args.kind.now c.in-If.test c.in_ok-test-in-If.test c.in-If.yes c.in_ok-yes-in-If.yes c.in-If.no c.in_ok-no-in-If.no c.args.first c.behind-second.result c.in_ok-test-in-If.third c.in_ok-yes-in-If.fourth c.in_ok-no-in-If.next c.in-If.is c.behind-second.ensures c.in_ok-test-in-If.ensures c.in_ok-yes-in-If.ensures c.in_ok-no-in-If.ensures

pub number_stmt_kind-returns-in_ok-body-in-For : goal.number_stmt_kind-returns-in_ok-body-in-For
number_stmt_kind-returns-in_ok-body-in-For t c =
    for_numbered c.args.kind.now c.in-For.name c.in_ok-name-in-For.name c.in-For.lo c.in_ok-lo-in-For.lo c.in-For.hi c.in_ok-hi-in-For.hi c.in-For.body c.in_ok-body-in-For.body c.args.first c.behind-second.result c.in_ok-lo-in-For.third c.in_ok-hi-in-For.fourth c.in_ok-body-in-For.next c.in-For.is c.behind-second.ensures (search rules) c.in_ok-lo-in-For.ensures c.in_ok-hi-in-For.ensures c.in_ok-body-in-For.ensures

pub number_stmt_kind-returns-in_ok-body-in-While : goal.number_stmt_kind-returns-in_ok-body-in-While
number_stmt_kind-returns-in_ok-body-in-While t c =
    while_numbered c.args.kind.now c.in-While.test c.in_ok-test-in-While.test c.in-While.body c.in_ok-body-in-While.body c.args.first c.behind-second.result c.in_ok-test-in-While.third c.in_ok-body-in-While.next c.in-While.is c.behind-second.ensures c.in_ok-test-in-While.ensures c.in_ok-body-in-While.ensures

pub number_stmt_kind-returns-in_ok-role-in-Hand : goal.number_stmt_kind-returns-in_ok-role-in-Hand
number_stmt_kind-returns-in_ok-role-in-Hand t c = hand_numbered c.args.kind.now c.in-Hand.name c.in_ok-name-in-Hand.name c.in-Hand.role c.in_ok-role-in-Hand.role c.args.first c.behind-second.result c.in-Hand.is c.behind-second.ensures (search rules) (search rules)

pub number_stmt_kind-returns-in-Skip : goal.number_stmt_kind-returns-in-Skip
number_stmt_kind-returns-in-Skip t c = skip_numbered c.args.kind.now c.args.first c.behind-second.result c.in-Skip.is c.behind-second.ensures

pub number_block-loop-stmt-init : goal.number_block-loop-stmt-init
number_block-loop-stmt-init t c = block_start _ _ _ (omega arith) (search rules)

pub number_block-loop-stmt-preserved : goal.number_block-loop-stmt-preserved
number_block-loop-stmt-preserved t c =
    block_step c.args.first c.args.block.now _ c.loop-stmt.stmt-index c.loop-stmt.next c.in_ok-stmt.after c.loop-stmt.numbered _ c.stmt-item.result c.in_ok-stmt.stmt c.as_slice-stmt-items.ensures c.loop-stmt-test.true c.stmt-item.is c.loop-stmt.invariant c.in_ok-stmt.ensures c.in_ok-push.ensures.ok

pub number_block-returns : goal.number_block-returns
number_block-returns t c = block_end c.args.first c.args.block.now _ c.loop-stmt.stmt-index c.loop-stmt.next c.loop-stmt.numbered c.as_slice-stmt-items.ensures c.loop-stmt-test.false c.loop-stmt.invariant
