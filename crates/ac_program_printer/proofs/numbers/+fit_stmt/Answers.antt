use Rattle.ac_program_printer.proofs.Fits.{if_fits, for_fits, while_fits, list_step, list_end}
use Rattle.ac_program_printer.proofs.numbers.+fit_stmt.Goals as goal

pub fit_block-loop-stmt-preserved : goal.fit_block-loop-stmt-preserved
fit_block-loop-stmt-preserved t c = list_step c.args.block.now c.loop-stmt.stmt-index c.stmt-item.result c.loop-stmt-test.true c.stmt-item.is c.fit_stmt.ensures c.loop-stmt.invariant

pub fit_block-returns : goal.fit_block-returns
fit_block-returns t c = list_end c.args.block.now c.loop-stmt.stmt-index c.loop-stmt-test.false c.loop-stmt.invariant

pub fit_stmt-returns-in-If : goal.fit_stmt-returns-in-If
fit_stmt-returns-in-If t c = if_fits _ c.in-If.test _ _ _ _ c.in-If.is c.as_slice.ensures c.as_slice-in-If.ensures c.fit_cond.ensures c.fit_block.ensures c.fit_block-in-If.ensures

pub fit_stmt-returns-in-For : goal.fit_stmt-returns-in-For
fit_stmt-returns-in-For t c = for_fits _ _ c.in-For.lo c.in-For.hi _ _ c.in-For.is c.as_slice-in-For.ensures c.fit_expr-in-For.ensures c.fit_expr-in-For-2.ensures c.fit_block-in-For.ensures

pub fit_stmt-returns-in-While : goal.fit_stmt-returns-in-While
fit_stmt-returns-in-While t c = while_fits _ c.in-While.test _ _ c.in-While.is c.as_slice-in-While.ensures c.fit_cond-in-While.ensures c.fit_block-in-While.ensures
