-- A statement that has a block, by its parts.
use Rattle.std.proofs.Common.{rules, arith}
use Rattle.ac_sameness.proofs.Writing.{if_first, if_second, for_body, while_body}
use Rattle.ac_sameness.proofs.writes.+does_write.Goals as goal

pub does_stmt_write-returns-then-does_write : goal.does_stmt_write-returns-then-does_write
does_stmt_write-returns-then-does_write t c =
    if_first c.args.name.now c.args.stmt.now.kind c.in-If.test c.in-If.yes c.in-If.no c.as_slice.result.now c.does_write.result c.in-If.is
    (first_of (search rules, grind arith)) c.does_write.ensures c.if-does_write.true

pub does_stmt_write-returns-else-does_write : goal.does_stmt_write-returns-else-does_write
does_stmt_write-returns-else-does_write t c =
    if_second c.args.name.now c.args.stmt.now.kind c.in-If.test c.in-If.yes c.in-If.no c.as_slice.result.now c.as_slice-else-does_write.result.now
    c.does_write.result c.does_write-else-does_write.result c.in-If.is (first_of (search rules, grind arith)) c.does_write.ensures c.if-does_write.false
    (first_of (search rules, grind arith)) c.does_write-else-does_write.ensures

pub does_stmt_write-returns-else-eq : goal.does_stmt_write-returns-else-eq
does_stmt_write-returns-else-eq t c =
    for_body c.args.name.now c.in-For.written c.args.stmt.now.kind c.in-For.lo c.in-For.hi c.in-For.body c.as_slice-else-eq.result.now c.eq-in-For.result
    c.does_write-else-eq.result c.in-For.is (first_of (search rules, grind arith)) c.if-eq.false (first_of (search rules, grind arith)) c.does_write-else-eq.ensures

pub does_stmt_write-returns-in-While : goal.does_stmt_write-returns-in-While
does_stmt_write-returns-in-While t c =
    while_body c.args.name.now c.args.stmt.now.kind c.in-While.test c.in-While.body c.as_slice-in-While.result.now c.does_write-in-While.result c.in-While.is
    (first_of (search rules, grind arith)) c.does_write-in-While.ensures
